-- One more place of the chart.
use Rattle.std.specs.Prelude.{◌≡◌, ◌<◌, ◌≤◌, ◌+◌, ℕ, zero, suc, List, [], ◌∷◌, length, Some, slice_get, slice_set, refl}
use Rattle.std.proofs.Common.{arith, ap, ◌∙◌, subst, ⊎_elim}
use Rattle.std.proofs.lemmas.Bool.{cases_lt}
use Rattle.mm_model.specs.declared.rows.Leaf.{Leaf}
use Rattle.mm_model.specs.declared.rows.Production.{Production}
use Rattle.mm_model.specs.Rows.{AreRows}
use Rattle.formula_parse.specs.declared.reach.Entry.{Entry}
use Rattle.formula_parse.specs.Charts.{IsComplete, IsChart, IsFilled}
use Rattle.formula_parse.proofs.Filling.{filled_complete}
use Rattle.formula_parse.proofs.Moves.{slice_get_other}

slice_get_here : {X : Type 0} (xs : List X) (at : ℕ) (y : X) → at < length xs → slice_get (slice_set xs at y) at ≡ Some y
slice_get_here [] at y l = absurd (omega arith)
slice_get_here (x ∷ xs) zero y l = refl
slice_get_here (x ∷ xs) (suc at) y l = slice_get_here xs at y (omega arith)

length_of_set : {X : Type 0} (xs : List X) (at : ℕ) (y : X) → length (slice_set xs at y) ≡ length xs
length_of_set [] at y = refl
length_of_set (x ∷ xs) zero y = refl
length_of_set (x ∷ xs) (suc at) y = ap suc (length_of_set xs at y)

module _ (rows : List Production) (before : ℕ) (leaves : List Leaf) where
  -- before the first place
  pub chart_begin : (chart : List (List Entry)) (from : ℕ) → length chart ≡ length leaves → length leaves ≤ from → IsChart rows before leaves from chart
  chart_begin chart from count last = record { count = count; each = λ b f l. absurd (omega arith) }

  -- the entries of one more place
  pub chart_step : (ok : AreRows rows) (chart : List (List Entry)) (b : ℕ) (entries : List Entry) → b < length leaves → IsChart rows before leaves (b + 1) chart
      → IsFilled leaves chart rows before b entries → IsChart rows before leaves b (slice_set chart b entries)
  chart_step ok chart b entries l full filled = record {
    count = length_of_set chart b entries ∙ full.count;
    each = λ q f m. ⊎_elim
        (λ (i : b < q). let x = full.each q (omega arith) m in (x.0, slice_get_other chart b q entries (λ e. (let is = e in omega (arith, is))) ∙ x.1, x.2))
        (λ (i : q ≤ b).
        let is : b ≡ q = omega arith in
        subst (λ p. (own : List Entry) × (slice_get (slice_set chart b entries) p ≡ Some own) × IsComplete rows before leaves p own) is
        (entries, slice_get_here chart b entries (omega (arith, full.count)), filled_complete rows before ok leaves chart b full entries filled))
        (cases_lt b q);
  }
