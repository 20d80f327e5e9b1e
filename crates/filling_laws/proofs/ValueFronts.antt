-- Among the trees that a front of a worksheet is filled to stands the formula of each of its steps.
use Rattle.std.specs.Prelude.{◌≡◌, ◌⊎◌, ◌<◌, ◌+◌, ℕ, List, [], ◌∷◌, ◌++◌, length, map, zip, fold, Contains, refl}
use Rattle.std.proofs.Common.{zero, suc, sym, ap, subst, ◌∙◌, arith, inl, inr}
use Rattle.std.proofs.lemmas.List.{length_push, map-append}
use Rattle.std.proofs.lemmas.List.Elements.{filter_map-append, Contains-append_left, Contains-append_right}
use Rattle.mm_base.specs.declared.tree.Tree.{Tree}
use Rattle.mm_model.specs.Names.{Name}
use Rattle.sheet_text.specs.declared.sheet.SheetItem.{SheetItem}
use Rattle.sheet_text.specs.declared.sheet.SheetItem.TheVariants as item
use Rattle.sheet_text.specs.declared.sheet.SheetStep.{SheetStep}
use Rattle.solve_model.specs.declared.bound.Bound.{Bound}
use Rattle.solve_model.specs.Solutions.{Valuation, formula}
use Rattle.solve_model.specs.Verdicts.{Judgement}
use Rattle.solve_laws.proofs.Elements.{first}
use Rattle.written_model.specs.declared.filled.Filled.{Filled}
use Rattle.written_model.specs.WrittenSteps.{WrittenStep, WrittenItem, comment, step, step_of, steps_in, trees}
use Rattle.written_model.specs.Filled.{Filling, made_step, derived_names, filled_step, with_step, fill_item}
use Rattle.again_laws.proofs.Accepted.{filled_tree}

below_or_at : (k n : ℕ) → k < n + 1 → (k < n) ⊎ (k ≡ n)
below_or_at zero zero l = inr refl
below_or_at zero (suc n) l = inl (omega arith)
below_or_at (suc k) zero l = absurd (omega (arith, l))
below_or_at (suc k) (suc n) l = elim (below_or_at k n (omega (arith, l))) [ inl h ↦ inl (omega (arith, h)) | inr e ↦ inr (ap suc e) ]

trees_more : (xs ys : List WrittenItem) → trees (steps_in (xs ++ ys)) ≡ trees (steps_in xs) ++ trees (steps_in ys)
trees_more xs ys = ap trees (filter_map-append step_of xs ys) ∙ map-append (λ (e : WrittenStep). e.tree) (steps_in xs) (steps_in ys)

still : (xs ys : List WrittenItem) (t : Tree) → Contains (trees (steps_in xs)) t → Contains (trees (steps_in (xs ++ ys))) t
still xs ys t m = subst (λ (ts : List Tree). Contains ts t) (sym (trees_more xs ys)) (Contains-append_left (trees (steps_in xs)) (trees (steps_in ys)) t m)

last : (xs : List WrittenItem) (e : WrittenStep) → Contains (trees (steps_in (xs ++ step e ∷ []))) e.tree
last xs e = subst (λ (ts : List Tree). Contains ts e.tree) (sym (trees_more xs (step e ∷ []))) (Contains-append_right (trees (steps_in xs)) (e.tree ∷ []) e.tree (first e.tree e.tree [] refl))

module _ (names : List Name) (bound : Bound) (g : Valuation) (judgements : List Judgement) where
  -- the formulas of the steps so far stand among the trees
  abbrev HasFormulas : Filling → Type 0
  HasFormulas f = (k : ℕ) → k < length f.numbers → Contains (trees (steps_in f.items)) (formula bound g k)

  with_next : (used : List Name) (s : SheetStep) (o : Judgement) (f : Filling) (r : Filled) → HasFormulas f → HasFormulas (with_step used s (formula bound g (length f.numbers)) g o f r)
  with_next used s o f r has k less =
      let n = length f.numbers in
      let made = f.items ++ map step (map made_step (zip (derived_names (length r.made) used) r.made)) in
      let own = filled_step f.numbers r.places s (formula bound g n) g o in
      let count = length_push f.numbers (length (steps_in f.items) + length r.made) in
      elim (below_or_at k n (omega (arith, less, count))) [
        | inl below ↦ still made (step own ∷ []) (formula bound g k) (still f.items (map step (map made_step (zip (derived_names (length r.made) used) r.made))) (formula bound g k) (has k below))
        | inr at ↦ subst (Contains (trees (steps_in (made ++ step own ∷ [])))) (filled_tree f.numbers r.places s (formula bound g n) g o ∙ ap (formula bound g) (sym at)) (last made own)
      ]

  has_each : (items : List SheetItem) (f : Filling) → HasFormulas f → HasFormulas (fold (fill_item names bound g judgements) f items)
  has_each [] f h = h
  has_each (item.Comment lines ∷ is) f h =
      has_each is (record { items = f.items ++ comment lines ∷ []; numbers = f.numbers })
      (λ k less. still f.items (comment lines ∷ []) (formula bound g k) (h k less))
  has_each (item.Step s ∷ is) f h = has_each is (fill_item names bound g judgements f (item.Step s)) (with_next _ s _ f _ h)

  pub formulas_stand : (front : List SheetItem) → HasFormulas (fold (fill_item names bound g judgements) (record { items = []; numbers = [] }) front)
  formulas_stand front = has_each front (record { items = []; numbers = [] }) (λ k less. absurd (omega (arith, less)))
