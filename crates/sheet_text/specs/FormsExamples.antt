-- Headers and steps, computed from their tokens.
use Rattle.std.specs.Prelude.{◌≡◌, ℕ, true, false, List, [], ◌∷◌, Option, Some, None, codes, map, refl}
use Rattle.sheet_text.specs.Forms.{Header, header_of, step_of}

abbrev header : List (List ℕ) → List (List ℕ)
header more = codes "$(" ∷ codes "<MM>" ∷ codes "<PROOF_ASST>" ∷ more

abbrev named : Option (List ℕ) → Option Header
named loc = Some (record { theorem = codes "th1"; loc = loc })

-- no LOC_AFTER, an empty one, and `?` mean that none is given
pub no_loc : map (λ (more : List (List ℕ)). header_of (header (codes "THEOREM=th1" ∷ more))) ([] ∷ (codes "LOC_AFTER=" ∷ []) ∷ (codes "LOC_AFTER=?" ∷ [])
    ∷ (codes "LOC_AFTER=a.1" ∷ []) ∷ [])
    ≡ named None ∷ named None ∷ named None ∷ named (Some (codes "a.1")) ∷ []
no_loc = refl

-- the name may have any bytes here, and has one at least
pub odd_name : header_of (header (codes "THEOREM=a!" ∷ [])) ≡ Some (record { theorem = codes "a!"; loc = None })
odd_name = refl

pub no_header : map header_of ((codes "$(" ∷ codes "<MM>" ∷ []) ∷ header [] ∷ header (codes "THEOREM=" ∷ []) ∷ header (codes "THEOREM" ∷ []) ∷ header (codes "THEOREM=a" ∷ codes "LOC_AFTER=!" ∷ [])
    ∷ header (codes "THEOREM=a" ∷ codes "LOC_AFTER=a" ∷ codes "b" ∷ []) ∷ header (codes "LOC_AFTER=a" ∷ codes "THEOREM=a" ∷ []) ∷ [])
    ≡ None ∷ None ∷ None ∷ None ∷ None ∷ None ∷ None ∷ []
no_header = refl

pub plain_step : step_of (codes "3:1,2:mp" ∷ codes "|-" ∷ codes "ps" ∷ [])
    ≡ Some (record {
      hyp = false;
      name = codes "3";
      entries = Some (codes "1") ∷ Some (codes "2") ∷ [];
      reference = Some (codes "mp");
      formula = codes "|-"
          ∷ codes "ps" ∷ [];
    })
plain_step = refl

-- no places, a blank formula; a `?` as place; a `?` as reference
pub bare_step : step_of (codes "qed::" ∷ []) ≡ Some (record { hyp = false; name = codes "qed"; entries = []; reference = None; formula = [] })
bare_step = refl

pub gap_step : step_of (codes "4:?,1:?" ∷ []) ≡ Some (record { hyp = false; name = codes "4"; entries = None ∷ Some (codes "1") ∷ []; reference = None; formula = [] })
gap_step = refl

-- a leading `h` is always the mark
pub hyp_step : step_of (codes "hyp1::a.1" ∷ []) ≡ Some (record { hyp = true; name = codes "yp1"; entries = []; reference = Some (codes "a.1"); formula = [] })
hyp_step = refl

-- one colon, three colons, no name behind the `h`, an empty entry, an entry with another byte, a hypothesis without a label, no name
pub no_step : map (λ (t : List ℕ). step_of (t ∷ [])) (codes "1:a" ∷ codes "1:::a" ∷ codes "h::a" ∷ codes "1:,2:a" ∷ codes "1:2!:a" ∷ codes "h1::?" ∷ codes "::a" ∷ [])
    ≡ None ∷ None ∷ None ∷ None ∷ None ∷ None ∷ None ∷ []
no_step = refl
