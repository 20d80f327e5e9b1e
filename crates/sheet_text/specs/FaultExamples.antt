-- The faults of small worksheets, computed.
use Rattle.std.specs.Prelude.{◌≡◌, ℕ, true, ◌==◌, if◌then◌else◌, nat_lt, List, [], ◌∷◌, ◌++◌, length, map, Option, Some, None, codes, refl, flat_map}
use Rattle.std.specs.List.{slice_split}
use Rattle.std.proofs.Common.{ap}
use Rattle.mm_base.specs.Limits.{most_sheet_bytes}
use Rattle.mm_model.specs.Faults.{Fault, fault}
use Rattle.sheet_text.specs.Layout.{ended}
use Rattle.sheet_text.specs.TextFaults.{text_fault, line_fault}

-- the lines between the slashes, each ended
abbrev text : List ℕ → List ℕ
text slashed = flat_map ended (slice_split (λ b. b == 47) slashed)

abbrev at : ℕ → ℕ → Option Fault
at line code = Some (fault line code)

abbrev texts : List (List ℕ) → List (Option Fault)
texts slashed = map (λ t. text_fault (text t)) slashed

-- a header, and these lines behind it
abbrev headed : List (List ℕ) → List (Option Fault)
headed slashed = texts (map (λ t. codes "$( <MM> <PROOF_ASST> THEOREM=x LOC_AFTER=?/" ++ t) slashed)

-- the same, with a last step and the footer behind them
abbrev sheets : List (List ℕ) → List (Option Fault)
sheets slashed = headed (map (λ t. t ++ codes "/qed:: |- ph/$)") slashed)

-- ---- 40: the first line that is not blank, or the line past the last

pub no_text : map text_fault ([] ∷ codes "  " ∷ []) ≡ at 1 40 ∷ at 2 40 ∷ []
no_text = refl

pub no_header : texts (codes "/" ∷ codes "/ $( <MM>" ∷ codes "$(x" ∷ codes "* a/$( <MM> <PROOF_ASST> THEOREM=x" ∷ []) ≡ at 3 40 ∷ at 2 40 ∷ at 1 40 ∷ at 1 40 ∷ []
no_header = refl

-- ---- 41: the header's line

pub bad_header : texts (codes "$( <MM> <PROOF_ASST>" ∷ codes "/$( <MM> <PROOF_ASST> THEOREM=" ∷ codes "$( <MM> <PROOF_ASST> THEOREM=x LOC_AFTER=a!/1" ∷ []) ≡ at 1 41 ∷ at 2 41 ∷ at 1 41 ∷ []
bad_header = refl

-- a header may go on in indented lines
pub long_header : texts (codes "$( <MM> <PROOF_ASST>/  THEOREM=x/qed::/$)" ∷ codes "$( <MM> <PROOF_ASST>/  THEOREM=x LOC_AFTER=? y/qed::/$)" ∷ []) ≡ None ∷ at 1 41 ∷ []
long_header = refl

-- ---- 42: the line past the last

-- five lines and no footer
pub no_footer : headed (codes "1::a2 |- ( t + 0 ) = t/2::a1 |- ( ( t + 0 ) = t -> ( ( t + 0 ) = t -> t = t ) )/3:1,2:mp |- ( ( t + 0 ) = t -> t = t )/qed:1,3:mp |- t = t" ∷ []) ≡ at 6 42 ∷ []
no_footer = refl

-- an indented footer belongs to the step before it
pub footer_indented : headed (codes "qed:: |- ph/ $)" ∷ []) ≡ at 4 42 ∷ []
footer_indented = refl

-- ---- 43: the line of the first token behind the footer's `$)`

pub behind_footer : headed (codes "qed::/$)/x" ∷ codes "qed::/$)// x" ∷ codes "qed::/$) x/y" ∷ codes "qed::/$)/$)" ∷ []) ≡ at 4 43 ∷ at 5 43 ∷ at 3 43 ∷ at 4 43 ∷ []
behind_footer = refl

-- a token behind `$)` in its line goes before the missing `qed`; one in a later line does not
pub footer_order : headed (codes "$) x" ∷ codes "$)/x" ∷ []) ≡ at 2 43 ∷ at 2 47 ∷ []
footer_order = refl

-- what stands behind the footer has no other fault
pub after_footer : headed (codes "qed::/$)/1:a" ∷ []) ≡ at 4 43 ∷ []
after_footer = refl

-- ---- 44: the statement

pub bad_step : sheets (codes "1:a" ∷ codes "h::a" ∷ codes "1:,:" ∷ codes "/$e" ∷ codes "h1::" ∷ codes "1:::a/1:2:a" ∷ [])
    ≡ at 2 44 ∷ at 2 44 ∷ at 2 44 ∷ at 3 44 ∷ at 2 44 ∷ at 2 44 ∷ []
bad_step = refl

-- comments may have the text of any statement
pub comments : sheets (codes "* note/  $)" ∷ codes "*1:2:a" ∷ []) ≡ None ∷ None ∷ []
comments = refl

-- ---- 45: the second step of that name; the `h` is no part of it

pub name_twice : sheets (codes "1::/1::" ∷ codes "h1::a/* b/1:1:" ∷ codes "qed::" ∷ []) ≡ at 3 45 ∷ at 4 45 ∷ at 3 45 ∷ []
name_twice = refl

-- ---- 46: the step

pub hyp_unknown : sheets (codes "1:2:x/2::" ∷ codes "1:1:x" ∷ codes "1::/2:1,?,3:x" ∷ codes "1::/2:?,1:" ∷ []) ≡ at 2 46 ∷ at 2 46 ∷ at 3 46 ∷ None ∷ []
hyp_unknown = refl

-- ---- 47: the step, or the footer

-- a step behind `qed`, a hypothesis `qed`, and no `qed`
pub qed_place : headed (codes "qed::/1::/$)" ∷ codes "hqed::a/$)" ∷ codes "1:://$)" ∷ []) ≡ at 3 47 ∷ at 2 47 ∷ at 4 47 ∷ []
qed_place = refl

-- a comment, a `$d` and a proof may follow `qed`
pub after_qed : headed (codes "qed::/* a/$d x y/$= a $./$)" ∷ []) ≡ None ∷ []
after_qed = refl

-- ---- 48: the `$=`

-- neither a `$)` nor a step inside a proof without its end is one
pub proof_unended : sheets (codes "$= x" ∷ codes "$= a $./$=/$. a/1:a" ∷ []) ≡ at 2 48 ∷ at 3 48 ∷ []
proof_unended = refl

-- an earlier line's fault goes first
pub proof_later : sheets (codes "1:a/$= x" ∷ []) ≡ at 2 44 ∷ []
proof_later = refl

-- several proofs are no fault
pub two_proofs : sheets (codes "$= a/b $./  c/$= $." ∷ []) ≡ None ∷ []
two_proofs = refl

-- ---- 49: the `$d`

pub bad_distinct : sheets (codes "$d" ∷ codes "$d x" ∷ codes "$d x $." ∷ codes "$d x y x" ∷ codes "$d x $. y" ∷ codes "$d x y $. $." ∷ [])
    ≡ at 2 49 ∷ at 2 49 ∷ at 2 49 ∷ at 2 49 ∷ at 2 49 ∷ at 2 49 ∷ []
bad_distinct = refl

-- three symbols, a last `$.`, and a `$d` over two lines
pub good_distinct : sheets (codes "$d x y z" ∷ codes "$d x y $." ∷ codes "$d x/  y" ∷ []) ≡ None ∷ None ∷ None ∷ []
good_distinct = refl

-- ---- 50: line 1, whatever else there is

pub too_big : (bytes : List ℕ) → nat_lt most_sheet_bytes (length bytes) ≡ true → text_fault bytes ≡ at 1 50
too_big bytes e = ap (λ b. if b then at 1 50 else line_fault bytes) e
