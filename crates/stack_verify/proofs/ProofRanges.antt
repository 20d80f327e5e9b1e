-- Where the proof of a label begins, and its words.
use Rattle.std.proofs.Common.{◌≡◌, ◌≤◌, ◌<◌, ℕ, zero, suc, ◌+◌, Bool, false, cond, leb, List, [], ◌∷◌, length, length-append, drop, map, Option, Some}
use Rattle.std.proofs.Common.{None, option_map, refl, sym, ap, ◌∙◌, arith, inl, inr, ◌⊎◌, Bor}
use Rattle.std.specs.Prelude.{codes, find, flat_map, min, option_and_then, slice_get}
use Rattle.std.proofs.lemmas.Bool.{cases_Bool, leb-false, leb-true}
use Rattle.std.proofs.lemmas.List.{drop_all, length-map}
use Rattle.std.specs.Option.{option_copied}
use Rattle.mm_base.specs.declared.symbols.Label.{Label}
use Rattle.mm_model.specs.declared.frames.Frame.{Frame}
use Rattle.mm_model.specs.declared.frames.Hyp.{Hyp}
use Rattle.mm_model.specs.Words.{Word, words_from}
use Rattle.mm_model.specs.Frames.{positions, positions_from, proof_in, proof_range, statement_of}
use Rattle.mm_model.specs.Statements.{Statement, has_keyword, is, labels, labels_in, statements}
use Rattle.proof_model.specs.DatabaseProofs.{proof_of, proof_words}
use Rattle.stack_verify.specs.Proofs.{proof_names}
use Rattle.stack_verify.proofs.ProofWords.{words_are}
use Rattle.stack_verify.proofs.Substitutes.{cond_then, cond_else}

counts : (at : ℕ) (ss : List Statement) → length (positions_from at ss) ≡ length (flat_map labels_in ss)
counts at [] = refl
counts at (s ∷ ss) =
    length-append (map (λ (w : Word). at) (labels_in s)) (positions_from (suc at) ss)
    ∙ omega (arith, length-map (labels_in s) (λ (w : Word). at), counts (suc at) ss, length-append (labels_in s) (flat_map labels_in ss))

pub labels_count : (ss : List Statement) → length (positions ss) ≡ length (labels ss)
labels_count ss = counts 0 ss ∙ sym (length-map (flat_map labels_in ss) (λ (w : Word). w.bytes))

past_end : (xs : List ℕ) (k : ℕ) → length xs ≤ k → slice_get xs k ≡ None
past_end [] k h = refl
past_end (x ∷ xs) zero h = absurd (omega arith)
past_end (x ∷ xs) (suc k) h = past_end xs k (omega arith)

-- a label past the last has no proof
pub no_label : (ss : List Statement) (l : Label) → length (labels ss) ≤ l.0 → proof_range ss l ≡ None
no_label ss l h =
    let none : slice_get (positions ss) l.0 ≡ None = past_end (positions ss) l.0 (omega (arith, labels_count ss)) in
    ap (λ (o : Option ℕ). option_and_then (λ (p : ℕ × Statement). cond (has_keyword (codes "$p") p.1) (proof_in p.1) None)
    (option_and_then (λ (at : ℕ). option_map (λ (s : Statement). (at, s)) (slice_get ss at)) o)) none

nothing : {X : Type 0} {Y : Type 0} (x : X) → None ≡ Some x → Y
nothing {X} {Y} x e = absurd (go e)
  where
    go : None ≡ Some x → ⊥
    go e = cc

pub words_at : (text : List ℕ) (from : ℕ) → words_from (min from (length text)) (drop (min from (length text)) text) ≡ words_from from (drop from text)
words_at text from =
    elim (cases_le from (length text)) [
      | inl le ↦ let same : min from (length text) ≡ from = omega arith in ap (λ (k : ℕ). words_from k (drop k text)) same
      | inr gt ↦
          let same : min from (length text) ≡ length text = omega arith in
          ap (λ (k : ℕ). words_from k (drop k text)) same ∙ ap (words_from (length text)) (drop_all (length text) text (omega arith)) ∙ sym (ap (words_from from) (drop_all from text (omega arith)))
    ]
  where
    cases_le : (a b : ℕ) → (a ≤ b) ⊎ (b < a)
    cases_le a b = elim (cases_Bool (leb a b)) [ inl t ↦ inl (leb-true a b t) | inr t ↦ inr (leb-false a b t) ]

-- the statement of a label is the one at its number
module _ (ss : List Statement) where
  at_number : (n : Option ℕ) (p : ℕ × Statement) → option_and_then (λ (at : ℕ). option_map (λ (s : Statement). (at, s)) (slice_get ss at)) n ≡ Some p → slice_get ss p.0 ≡ Some p.1
  at_number None p e = nothing p e
  at_number (Some at) p e = found (slice_get ss at) refl e
    where
      found : (o : Option Statement) → slice_get ss at ≡ o → option_map (λ (s : Statement). (at, s)) o ≡ Some p → slice_get ss p.0 ≡ Some p.1
      found None h e = nothing p e
      found (Some s) h e =
          let number : at ≡ p.0 = same_number e in
          let statement : s ≡ p.1 = same_statement e in
          ap (slice_get ss) (sym number) ∙ h ∙ ap (λ (x : Statement). Some x) statement
        where
          same_number : Some (at, s) ≡ Some p → at ≡ p.0
          same_number e = cc

          same_statement : Some (at, s) ≡ Some p → s ≡ p.1
          same_statement e = cc

abbrev is_end : Word → Bool
is_end w = is (codes "$.") w

module _ (text : List ℕ) (range : ℕ × ℕ) (proof : List (List ℕ)) where
  abbrev Reads : Type 0
  Reads = proof_names false (words_from range.0 (drop range.0 text)) ≡ proof

  same_start : (w : Word) (e : Word) → Some (w.start + 2, e.start) ≡ Some range → w.start + 2 ≡ range.0
  same_start w e h = cc

  same_words : (p : List (List ℕ)) → Some p ≡ Some proof → p ≡ proof
  same_words p h = cc

  -- the words `$=` and `$.` of the statement
  with_words : (at : ℕ) (s : Statement) (ow oe : Option Word) → slice_get (statements text) at ≡ Some s → find (is (codes "$=")) s ≡ ow → find is_end s ≡ oe
      → option_and_then (λ (from : Word). option_map (λ (to : Word). (from.start + 2, to.start)) oe) ow ≡ Some range → proof_words s ≡ proof → Reads
  with_words at s None oe h hw he e p = nothing range e
  with_words at s (Some w) None h hw he e p = nothing range e
  with_words at s (Some w) (Some x) h hw he e p =
      ap (λ (k : ℕ). proof_names false (words_from k (drop k text))) (sym (same_start w x e)) ∙ words_are text at s w x h hw he ∙ p

  with_statement : (l : Label) (o : Option (ℕ × Statement)) → statement_of (statements text) l ≡ o
      → option_and_then (λ (p : ℕ × Statement). cond (has_keyword (codes "$p") p.1) (proof_in p.1) None) o ≡ Some range
      → option_and_then (λ (p : ℕ × Statement). cond (has_keyword (codes "$p") p.1) (Some (proof_words p.1)) None) o ≡ Some proof → Reads
  with_statement l None h e f = nothing range e
  with_statement l (Some p) h e f =
      let there : slice_get (statements text) p.0 ≡ Some p.1 = at_number (statements text) (slice_get (positions (statements text)) l.0) p h in
      elim (cases_Bool (has_keyword (codes "$p") p.1)) [
        | inl t ↦
            with_words p.0 p.1 (find (is (codes "$=")) p.1) (find is_end p.1) there refl refl (sym (cond_then (has_keyword (codes "$p") p.1) (proof_in p.1) None t) ∙ e)
            (same_words (proof_words p.1) (sym (cond_then (has_keyword (codes "$p") p.1) (Some (proof_words p.1)) None t) ∙ f))
        | inr t ↦ nothing range (sym (cond_else (has_keyword (codes "$p") p.1) (proof_in p.1) None t) ∙ e)
      ]

  pub range_words : (l : Label) → proof_range (statements text) l ≡ Some range → proof_of (statements text) l ≡ Some proof → Reads
  range_words l e f = with_statement l (statement_of (statements text) l) refl e f

first_of : (o : Option (ℕ × ℕ)) (from : ℕ) → option_map (λ (r : ℕ × ℕ). r.0) o ≡ Some from → (r : ℕ × ℕ) × (o ≡ Some r) × (r.0 ≡ from)
first_of None from e = nothing from e
first_of (Some r) from e = (r, refl, the_number e)
  where
    the_number : Some r.0 ≡ Some from → r.0 ≡ from
    the_number e = cc

-- the words that are read are those of the proof
pub proof_read : (text : List ℕ) (l : Label) (from m : ℕ) (names proof : List (List ℕ)) (o : Option ℕ)
    → o ≡ option_map (λ (r : ℕ × ℕ). r.0) (proof_range (statements text) l) → o ≡ Some from → proof_of (statements text) l ≡ Some proof
    → m ≡ min from (length text) → names ≡ proof_names false (words_from m (drop m text)) → names ≡ proof
proof_read text l from m names proof o eo of e em en =
    let r = first_of (proof_range (statements text) l) from (sym eo ∙ of) in
    en ∙ ap (λ (k : ℕ). proof_names false (words_from k (drop k text))) em ∙ ap (proof_names false) (words_at text from)
    ∙ ap (λ (k : ℕ). proof_names false (words_from k (drop k text))) (sym r.2) ∙ range_words text r.0 proof l r.1 e

the_frame : (f g : Frame) → Some f ≡ Some g → f ≡ g
the_frame f g e = cc

pub hyps_are : (b : Bor Frame) (f : Frame) (o : Option (Bor Frame)) (hyps : List Hyp) → o ≡ Some b → option_copied o ≡ Some f → hyps ≡ b.now.hyps → hyps ≡ f.hyps
hyps_are b f o hyps e h k = k ∙ ap (λ (x : Frame). x.hyps) (the_frame b.now f (sym (ap option_copied e) ∙ h))
