-- Whether a worksheet is finished is decided, where each place names an earlier step.
use Rattle.std.specs.Prelude.{◌≡◌, ◌<◌, ◌≤◌, ◌+◌, ◌⊎◌, ℕ, zero, suc, true, List, [], ◌∷◌, length, slice_get, Contains, Option, Some, None, codes, refl}
use Rattle.std.proofs.Common.{sym, ap, subst, ◌∙◌, arith, inl, inr}
use Rattle.std.proofs.lemmas.Option.{slice_get_within}
use Rattle.mm_base.specs.declared.symbols.Pair.{Pair}
use Rattle.sheet_text.specs.declared.sheet.Given.{Given}
use Rattle.sheet_text.specs.declared.sheet.Given.TheVariants as given
use Rattle.written_model.specs.declared.options.DvMode.{DvMode}
use Rattle.written_model.specs.WrittenSteps.{WrittenStep}
use Rattle.written_model.specs.ProofTrees.{Below, at_qed, listed, is_complete, Finished}
use Rattle.written_model.specs.Found.{is_ground}
use Rattle.answer_laws.proofs.Settled.{IsBelow, PlacesBelow, AreSettled}
use Rattle.answer_laws.proofs.Elements.{contained_has}
use Rattle.writing_laws.specs.Decisions.{Decided}
use Rattle.writing_laws.specs.HasEnd.{PlacesAreEarlier, EndIsDecided}
use Rattle.writing_laws.proofs.Decide.{both_decided, decided_with, bool_decided, less_decided, names_decided, numbers_decided, contains_decided, implied, some_below, all_below}

given_decided : (g h : Given) → Decided (g ≡ h)
given_decided given.Gap given.Gap = inl refl
given_decided given.Gap (given.Step k) = inr (λ e. cc)
given_decided (given.Step k) given.Gap = inr (λ e. cc)
given_decided (given.Step k) (given.Step n) = decided_with (λ e. ap (λ m. given.Step m) e) (λ e. cc) (numbers_decided k n)

-- the steps of a settled worksheet list earlier steps
pub settled_earlier : (n : ℕ) (es : List WrittenStep) → AreSettled n es → (j : ℕ) (e : WrittenStep) (k : ℕ) → slice_get es j ≡ Some e → Contains e.places (given.Step k) → k < n + j
settled_earlier n [] h j e k s o = absurd (cc)
settled_earlier n (x ∷ xs) h zero e k s o =
    let same : x ≡ e = cc in
    let below : k < n = contained_has (IsBelow n) e.places (given.Step k) (subst (λ (y : WrittenStep). PlacesBelow n y.places) same h.0.places) o in
    omega (arith, below)
settled_earlier n (x ∷ xs) h (suc j) e k s o = let rest = settled_earlier (suc n) xs h.1 j e k s o in omega (arith, rest)

module _ (es : List WrittenStep) (earlier : PlacesAreEarlier es) where
  -- a claim of the step of a number
  abbrev OfStep : (WrittenStep → Type 0) → ℕ → Type 0
  OfStep P i = (e : WrittenStep) × (slice_get es i ≡ Some e) × P e

  step_same : (x e : WrittenStep) → Some x ≡ Some e → x ≡ e
  step_same x e h = cc

  of_step : (P : WrittenStep → Type 0) → ((e : WrittenStep) → Decided (P e)) → (i : ℕ) (o : Option WrittenStep) → slice_get es i ≡ o → Decided (OfStep P i)
  of_step P d i None s = inr (λ p. let bad = sym s ∙ p.1 in cc)
  of_step P d i (Some e) s = decided_with (λ h. (e, s, h)) (λ p. subst P (step_same p.0 e (sym p.1 ∙ s)) p.2) (d e)

  abbrev IsQed : WrittenStep → Type 0
  IsQed e = e.name ≡ codes "qed"

  abbrev Lists : ℕ → WrittenStep → Type 0
  Lists k e = Contains e.places (given.Step k)

  -- a later step below `qed` that lists the step
  abbrev IsListed : ℕ → Type 0
  IsListed k = (j : ℕ) × (j < length es) × ((k < j) × (Below es j × OfStep (Lists k) j))

  inverted : (k : ℕ) → Below es k → OfStep IsQed k ⊎ IsListed k
  inverted k (at_qed i {e = e} s n) = inl (e, s, n)
  inverted k (listed j {e = e} b s o) = inr (j, slice_get_within es j e s, (earlier j e _ s o, (b, (e, s, o))))

  by_parts : (k : ℕ) → Decided (OfStep IsQed k) → Decided (IsListed k) → Decided (Below es k)
  by_parts k (inl q) d = inl (at_qed k q.1 q.2)
  by_parts k (inr q) (inl p) = inl (listed p.0 p.2.1.0 p.2.1.1.1 p.2.1.1.2)
  by_parts k (inr q) (inr p) = inr (λ b. elim (inverted k b) [ inl x ↦ q x | inr x ↦ p x ])

  past_end : (k : ℕ) → length es ≤ k → Below es k → ⊥
  past_end k l b = elim (inverted k b) [
    | inl q ↦ let within = slice_get_within es k q.0 q.1 in omega (arith, l, within)
    | inr p ↦ let low = p.1 in let high = p.2.0 in omega (arith, l, low, high)
  ]

  below_from : (d k : ℕ) → length es ≤ k + d → Decided (Below es k)
  below_from zero k l = inr (past_end k (omega (arith, l)))
  below_from (suc d) k l =
      by_parts k (of_step IsQed (λ e. names_decided e.name (codes "qed")) k (slice_get es k) refl)
      (some_below (λ j. (k < j) × (Below es j × OfStep (Lists k) j))
      (λ j. elim (less_decided k j) [
        | inr n ↦ inr (λ p. n p.0)
        | inl m ↦
            both_decided (inl m) (both_decided (below_from d j (omega (arith, l, m)))
            (of_step (Lists k) (λ e. contains_decided given_decided e.places (given.Step k)) j (slice_get es j) refl))
      ]) (length es))

  pub below_decided : (k : ℕ) → Decided (Below es k)
  below_decided k = below_from (length es) k (omega arith)

  module _ (mode : DvMode) (allowed : List Pair) where
    abbrev IsFine : ℕ → WrittenStep → Type 0
    IsFine i e = (e.hyp ≡ true → is_ground e.tree ≡ true) × ((Below es i → is_ground e.tree ≡ true) × (Below es i → is_complete mode allowed e ≡ true))

    fine_decided : (i : ℕ) (e : WrittenStep) → Decided (IsFine i e)
    fine_decided i e =
        both_decided (implied (bool_decided e.hyp) (bool_decided (is_ground e.tree)))
        (both_decided (implied (below_decided i) (bool_decided (is_ground e.tree))) (implied (below_decided i) (bool_decided (is_complete mode allowed e))))

    abbrev FineAt : ℕ → Type 0
    FineAt i = (e : WrittenStep) → slice_get es i ≡ Some e → IsFine i e

    fine_at : (i : ℕ) (o : Option WrittenStep) → slice_get es i ≡ o → Decided (FineAt i)
    fine_at i None s = inl (λ e h. let bad = sym s ∙ h in absurd (cc))
    fine_at i (Some x) s = decided_with (λ f e h. subst (IsFine i) (step_same x e (sym s ∙ h)) f) (λ f. f x s) (fine_decided i x)

    pub finished_decided : Decided (Finished mode allowed es)
    finished_decided =
        decided_with
        (λ f. record {
          hyps = λ i e s h. (f i (slice_get_within es i e s) e s).0 h;
          no_work = λ i e s b. (f i (slice_get_within es i e s) e s).1.0 b;
          complete = λ i e s b. (f i (slice_get_within es i e s) e s).1.1 b;
        })
        (λ f i l e s. (f.hyps i e s, (f.no_work i e s, f.complete i e s)))
        (all_below FineAt (λ i. fine_at i (slice_get es i) refl) (length es))

    pub end_decided : EndIsDecided mode allowed es
    end_decided = record { below = below_decided; finished = finished_decided }
