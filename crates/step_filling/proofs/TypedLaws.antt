-- Typed trees are counted alike, and the formulas of a worksheet are typed under a valuation.
use Rattle.std.specs.Prelude.{◌≡◌, ℕ, ◌+◌, List, [], ◌∷◌, count_by, if◌then◌else◌, slice_get, Contains, Option, Some, None, refl}
use Rattle.std.proofs.Common.{sym, ap, subst, ◌∙◌}
use Rattle.std.proofs.lemmas.List.Sums.{sum_by-cons}
use Rattle.mm_base.specs.declared.tree.Tree.{Tree}
use Rattle.mm_base.specs.declared.tree.Tree.TheVariants.{Var}
use Rattle.mm_model.specs.declared.rows.Item.{Item}
use Rattle.mm_model.specs.declared.rows.Item.TheVariants as item
use Rattle.mm_model.specs.Typed.{IsTyped, HasNoFresh}
use Rattle.mm_model.specs.Book.{Database}
use Rattle.mm_model.proofs.TypedLaws.{code-Var, typed-Var}
use Rattle.model_laws.specs.DatabaseLaws.{HasDatabaseFacts}
use Rattle.solve_model.specs.declared.bound.BoundStep.{BoundStep}
use Rattle.solve_model.specs.declared.bound.Bound.{Bound}
use Rattle.solve_model.specs.Trees.{Open, work, fresh, open_code, open_leaves}
use Rattle.solve_model.specs.Solutions.{Valuation, Asked, IsUnknown, IsValuation, named, blank, open_value, formula_value, formula, no_step}
use Rattle.solve_laws.specs.ReplacedTypes.{IsTypedAs}
use Rattle.solve_laws.proofs.NoFresh.{no_fresh_leaf}
use Rattle.again_laws.proofs.Lists.{index_from_get}
use Rattle.again_laws.proofs.TypedOn.{replaced_on}
use Rattle.writing_laws.specs.StoreCounts as store
use Rattle.chain_laws.specs.Adding as chain
use Rattle.chain_laws.specs.Layout.{IsReadyBound, IsReadyFormula}
use Rattle.step_chain.specs.Constants.{ConstantsAreCounted}
use Rattle.step_chain.proofs.Lists.{all_at}
use Rattle.step_filling.specs.Counted.{TypedIsCounted, FormulaIsTyped}

same_count : (is : List Item) → count_by chain.is_constant is ≡ count_by store.is_constant is
same_count [] = refl
same_count (item.Const s ∷ is) =
    sum_by-cons (λ i. if chain.is_constant i then 1 else 0) (item.Const s) is ∙ ap (λ n. 1 + n) (same_count is) ∙ sym (sum_by-cons (λ i. if store.is_constant i then 1 else 0) (item.Const s) is)
same_count (item.Slot k ∷ is) =
    sum_by-cons (λ i. if chain.is_constant i then 1 else 0) (item.Slot k) is ∙ ap (λ n. 0 + n) (same_count is) ∙ sym (sum_by-cons (λ i. if store.is_constant i then 1 else 0) (item.Slot k) is)

pub typed_is_counted : HasDatabaseFacts → ConstantsAreCounted → store.CountIsTokens → TypedIsCounted
typed_is_counted facts counted tokens kinds text db is ok before t typed =
    tokens db.rows (chain.constants_in db.rows) before t (facts kinds text db is ok).grammar
    (λ l r row. counted kinds text db is ok l r row ∙ same_count r.items) typed

module _ (db : Database) (bound : Bound) (asked : List Asked) (v : Valuation) (valuation : IsValuation db bound.place (IsUnknown bound asked) v) where
  open_typed : (k : ℕ) (b : BoundStep) (t : Tree) → slice_get bound.steps k ≡ Some b → b.tree ≡ Some t → HasNoFresh t
      → (x : Open) → Contains (open_leaves t) x → IsTypedAs db.rows bound.place (open_code x) (open_value v x)
  open_typed k b t at is no_fresh (work c n) o =
      let on = IsUnknown.in_formula k b t at is o in
      record { code = valuation.code (named c n) on; typed = valuation.typed (named c n) on }
  open_typed k b t at is no_fresh (fresh c n) o = absurd (no_fresh_leaf c n t no_fresh o)

  value_typed : (k : ℕ) (b : BoundStep) → slice_get bound.steps k ≡ Some b → (o : Option Tree) → b.tree ≡ o → IsReadyFormula db bound.place o → IsTyped db.rows bound.place (formula_value v k o)
  value_typed k b at None is h = valuation.typed (blank k) (IsUnknown.is_blank b at is)
  value_typed k b at (Some t) is h =
      (replaced_on db.rows bound.place (λ s c. Var s c) (open_value v) t
      (λ w o. record { code = code-Var w.sym w.code; typed = typed-Var db.rows bound.place w.sym w.code }) (open_typed k b t at is h.2) h.1).typed

  step_typed : IsReadyBound db bound → (k : ℕ) (b : BoundStep) → slice_get bound.steps k ≡ Some b → IsTyped db.rows bound.place (formula bound v k)
  step_typed ready k b at =
      subst (λ o. IsTyped db.rows bound.place (formula_value v k o)) (sym (ap (λ (x : BoundStep). x.tree) (index_from_get bound.steps k b no_step at)))
      (value_typed k b at b.tree refl (all_at (λ (s : BoundStep). IsReadyFormula db bound.place s.tree) bound.steps k b ready at))

pub formula_is_typed : FormulaIsTyped
formula_is_typed db bound asked v ready valuation k b at = step_typed db bound asked v valuation ready k b at
