-- The theorems and the proofs of a text with a theorem in it.
use Rattle.std.proofs.Common.{◌≡◌, ◌≤◌, ◌<◌, ℕ, ◌+◌, ◌-◌, true, false, not, cond, List, [], ◌∷◌, length, take, drop, map}
use Rattle.std.proofs.Common.{Option, Some, None, option_map, refl, sym, ap, ◌∙◌, arith, inl, inr, codes, Contains}
use Rattle.std.specs.Prelude.{nat_lt, slice_get, option_and_then}
use Rattle.std.specs.List.{AllByRecursion, list_any, position_or_len, before_first, after_first, take-map, drop-map}
use Rattle.std.specs.Str.{bytes_eq}
use Rattle.std.proofs.lemmas.Bool.{cases_Bool, or_parts}
use Rattle.std.proofs.lemmas.Bool.Decides.{nat_tests}
use Rattle.mm_model.specs.declared.frames.Active.{Active}
use Rattle.mm_model.specs.declared.frames.Frame.{Frame}
use Rattle.mm_model.specs.declared.frames.Hyp.{Hyp}
use Rattle.mm_model.specs.Names.{Name, label, contains}
use Rattle.mm_model.specs.Words.{Word}
use Rattle.mm_model.specs.Statements.{Statement, is, has_keyword, statements}
use Rattle.mm_model.specs.Frames.{positions, active_at}
use Rattle.proof_model.specs.declared.code.Code.{Code}
use Rattle.proof_model.specs.declared.theorem.Theorem.{Theorem}
use Rattle.proof_model.specs.DatabaseProofs.{frames_of_database, theorem_of_frame, proof_words, proof_of}
use Rattle.proof_model.specs.Machine.{proof_fault}
use Rattle.install_model.specs.declared.install.NewTheorem.{NewTheorem}
use Rattle.install_model.specs.Installed.{installed}
use Rattle.install_model.specs.Moved.{block_statements, new_labels, labels_before, moved, moved_frame}
use Rattle.install_laws.specs.TwoDatabases.{labels_named, unplaced}
use Rattle.install_laws.specs.InstalledStatements.{names, IsPlainTheorem}
use Rattle.install_laws.specs.InstalledActive.{IsOutside}
use Rattle.install_laws.specs.InstalledProofs.{TheoremsStay, ProofsStay, OldProofsEndAlike}
use Rattle.install_laws.proofs.ActiveLaw.{active_stays_before, active_stays_behind}
use Rattle.install_laws.proofs.ActiveNames.{has_kw, has_kw_by}
use Rattle.install_laws.proofs.DatabaseLaw.{position_is, tokens_at, frames_move}
use Rattle.install_laws.proofs.MovedLists.{moved_low, moved_high}
use Rattle.install_laws.proofs.TwoDatabasesLaws.{same_pairs}

-- ---- the words of a proof by the bytes of tokens

position_names : (k : Name) (ws : List Word) → position_or_len (is k) ws ≡ position_or_len (λ n. bytes_eq n k) (names ws)
position_names k [] = refl
position_names k (w ∷ ws) = ap (λ n. cond (not (is k w)) (1 + n) 0) (position_names k ws)

before_names : (k : Name) (ws : List Word) → names (before_first (is k) ws) ≡ before_first (λ n. bytes_eq n k) (names ws)
before_names k ws = sym (take-map (λ (w : Word). w.bytes) (position_or_len (is k) ws) ws) ∙ ap (λ n. take n (names ws)) (position_names k ws)

after_names : (k : Name) (ws : List Word) → names (after_first (is k) ws) ≡ after_first (λ n. bytes_eq n k) (names ws)
after_names k ws = sym (drop-map (λ (w : Word). w.bytes) (position_or_len (is k) ws + 1) ws) ∙ ap (λ n. drop (n + 1) (names ws)) (position_names k ws)

pub words_by : (s : Statement) → proof_words s ≡ before_first (λ n. bytes_eq n (codes "$.")) (after_first (λ n. bytes_eq n (codes "$=")) (names s))
words_by s = before_names (codes "$.") (after_first (is (codes "$=")) s) ∙ ap (before_first (λ n. bytes_eq n (codes "$."))) (after_names (codes "$=") s)

-- the words of the proof of a `$p`
abbrev if_theorem : ℕ × Statement → Option (List Name)
if_theorem p = cond (has_keyword (codes "$p") p.1) (Some (proof_words p.1)) None

same_words : (s v : Statement) → names s ≡ names v → (at now : ℕ) → if_theorem (now, v) ≡ if_theorem (at, s)
same_words s v same at now =
    ap (λ c. cond c (Some (proof_words v)) None) (has_kw_by (codes "$p") v ∙ ap (has_kw (codes "$p")) (sym same) ∙ sym (has_kw_by (codes "$p") s))
    ∙ ap (λ ws. cond (has_keyword (codes "$p") s) (Some ws) None)
    (words_by v ∙ ap (λ ns. before_first (λ n. bytes_eq n (codes "$.")) (after_first (λ n. bytes_eq n (codes "$=")) ns)) (sym same) ∙ sym (words_by s))

statement_words : (at now : ℕ) (o n : Option Statement) → option_map names n ≡ option_map names o
    → option_and_then if_theorem (option_map (λ s. (now, s)) n) ≡ option_and_then if_theorem (option_map (λ s. (at, s)) o)
statement_words at now None None e = refl
statement_words at now None (Some v) e = absurd cc
statement_words at now (Some s) None e = absurd cc
statement_words at now (Some s) (Some v) e = same_words s v (some_is (names s) (names v) (sym e)) at now
  where
    some_is : (x y : List Name) → Some x ≡ Some y → x ≡ y
    some_is x y h = cc

-- ---- numbers keep their order

pub moved_order : (b k x y : ℕ) → nat_lt (moved b k x) (moved b k y) ≡ nat_lt x y
moved_order b k x y = elim (cases_Bool (nat_lt x b)) [
  | inl e ↦ let h : x < b = grind (arith, nat_tests, e) in elim (cases_Bool (nat_lt y b)) [
    | inl f ↦ let g : y < b = grind (arith, nat_tests, f) in ap (λ n. nat_lt n (moved b k y)) (moved_low b k x h) ∙ ap (nat_lt x) (moved_low b k y g)
    | inr f ↦
        let g : b ≤ y = grind (arith, nat_tests, f) in
        let yes : nat_lt x (y + k) ≡ true = grind (arith, nat_tests, h, g) in
        let so : nat_lt x y ≡ true = grind (arith, nat_tests, h, g) in
        ap (λ n. nat_lt n (moved b k y)) (moved_low b k x h) ∙ ap (nat_lt x) (moved_high b k y g) ∙ yes ∙ sym so
  ]
  | inr e ↦ let h : b ≤ x = grind (arith, nat_tests, e) in elim (cases_Bool (nat_lt y b)) [
    | inl f ↦
        let g : y < b = grind (arith, nat_tests, f) in
        let no : nat_lt (x + k) y ≡ false = grind (arith, nat_tests, h, g) in
        let so : nat_lt x y ≡ false = grind (arith, nat_tests, h, g) in
        ap (λ n. nat_lt n (moved b k y)) (moved_high b k x h) ∙ ap (nat_lt (x + k)) (moved_low b k y g) ∙ no ∙ sym so
    | inr f ↦
        let g : b ≤ y = grind (arith, nat_tests, f) in
        ap (λ n. nat_lt n (moved b k y)) (moved_high b k x h) ∙ ap (nat_lt (x + k)) (moved_high b k y g) ∙ both
  ]
]
  where
    both : nat_lt (x + k) (y + k) ≡ nat_lt x y
    both = elim (cases_Bool (nat_lt x y)) [
      | inl l ↦ let yes : nat_lt (x + k) (y + k) ≡ true = grind (arith, nat_tests, l) in yes ∙ sym l
      | inr l ↦ let no : nat_lt (x + k) (y + k) ≡ false = grind (arith, nat_tests, l) in no ∙ sym l
    ]

-- a theorem at another position
abbrev pub put_at : ℕ → Theorem → Theorem
put_at k s = record s { at = k }

-- an assertion, if it is before a position, but for where it stands
abbrev pub before_by : ℕ → Option Frame → Option Frame
before_by at o = option_and_then (λ (g : Frame). cond (nat_lt g.at at) (Some (unplaced g)) None) o

-- ---- the text

module _ (text : List ℕ) (place : ℕ) (t : NewTheorem) (within : place ≤ length (statements text)) (plain : IsPlainTheorem t) where
  abbrev old : List Statement
  old = statements text

  abbrev new : List Statement
  new = statements (installed text place t)

  abbrev m : ℕ
  m = length (block_statements t)

  abbrev a : ℕ
  a = labels_before (statements text) place

  abbrev b : ℕ
  b = length (new_labels t)

  -- the words of a proof by the position of its label
  abbrev words_at : List Statement → Option ℕ → Option (List Name)
  words_at ss o = option_and_then if_theorem (option_and_then (λ at. option_map (λ s. (at, s)) (slice_get ss at)) o)

  position_words : (o : Option ℕ) → words_at new (option_map (moved place m) o) ≡ words_at old o
  position_words None = refl
  position_words (Some at) = statement_words at (moved place m at) (slice_get old at) (slice_get new (moved place m at)) (tokens_at text place t within plain at)

  pub proof_stays : (l : ℕ) → proof_of new (label (moved a b l)) ≡ proof_of old (label l)
  proof_stays l = ap (words_at new) (position_is text place t within plain l) ∙ position_words (slice_get (positions old) l)

  module _ (outside : IsOutside text place) where
    pub active_moves : (at : ℕ) → active_at new (moved place m at) ≡ active_at old at
    active_moves at = elim (cases_Bool (nat_lt at place)) [
      | inl e ↦
          let h : at < place = grind (arith, nat_tests, e) in let l : at ≤ place = omega (arith, h) in
          ap (active_at new) (moved_low place m at h) ∙ active_stays_before text place at t within plain l
      | inr e ↦
          let h : place ≤ at = grind (arith, nat_tests, e) in
          let parts : place + (at - place) ≡ at = omega (arith, h) in
          let all : at + m ≡ place + m + (at - place) = omega (arith, h) in
          ap (active_at new) (moved_high place m at h ∙ all) ∙ active_stays_behind text place (at - place) t within plain outside ∙ ap (active_at old) parts
    ]

    abbrev theorem_by : Frame → ℕ → Active → Theorem
    theorem_by f at active = record { at = at; formula = f.formula; hyps = active.hyps; mandatory = map (λ (h : Hyp). h.name) f.hyps; pairs = active.pairs }

    pub theorem_stays : (f : Frame) → theorem_of_frame new (moved_frame old place t f) ≡ record (theorem_of_frame old f) { at = moved place m f.at }
    theorem_stays f = ap (theorem_by f (moved place m f.at)) (active_moves f.at)

    pub before_moves : (at : ℕ) (o : Option Frame) → before_by at o ≡ before_by (moved place m at) (option_map (moved_frame old place t) o)
    before_moves at None = refl
    before_moves at (Some g) = ap (λ c. cond c (Some (unplaced g)) None) (sym (moved_order place m g.at at))

    others : (name : Name) (ns : List Name) → list_any (bytes_eq name) ns ≡ false → AllByRecursion (λ n. bytes_eq name n ≡ false) ns
    others name [] h = tt
    others name (n ∷ ns) h = let both = or_parts (bytes_eq name n) (list_any (bytes_eq name) ns) h in (both.0, others name ns both.1)

    pub ends_alike : (f : Frame) (code : Code) → ((name : Name) → Contains (labels_named (theorem_of_frame old f) code) name → contains (new_labels t) name ≡ false)
        → proof_fault (frames_of_database old) (theorem_of_frame old f) code ≡ proof_fault (frames_of_database new) (theorem_of_frame new (moved_frame old place t f)) code
    ends_alike f code none =
        same_pairs (frames_of_database old) (frames_of_database new) (theorem_of_frame old f) (put_at (moved place m f.at) (theorem_of_frame old f)) code
        (record {
          formula = refl;
          hyps = refl;
          mandatory = refl;
          labels = λ name is.
              inr (before_moves f.at (frames_of_database old name)
              ∙ ap (before_by (moved place m f.at)) (sym (frames_move text place t within plain outside name (others name (new_labels t) (none name is)))));
        }) refl
        ∙ ap (λ s. proof_fault (frames_of_database new) s code) (sym (theorem_stays f))

pub theorems_stay : TheoremsStay
theorems_stay text place t w p outside f = theorem_stays text place t w p outside f

pub proofs_stay : ProofsStay
proofs_stay text place t w p l = proof_stays text place t w p l

pub old_proofs_end_alike : OldProofsEndAlike
old_proofs_end_alike text place t w p outside f code none = ends_alike text place t w p outside f code none
