-- A valuation that is an instance of a solution solves.
use Rattle.std.specs.Prelude.{◌≡◌, ℕ, List, [], ◌∷◌, slice_index_or, Option, Some, None, refl}
use Rattle.std.specs.List.{AllByRecursion}
use Rattle.std.proofs.Common.{sym, ap, ◌∙◌}
use Rattle.mm_base.specs.declared.tree.Tree.{Tree}
use Rattle.mm_base.specs.declared.tree.Tree.TheVariants.{Var}
use Rattle.sheet_text.specs.declared.sheet.Given.{Given}
use Rattle.sheet_text.specs.declared.sheet.Given.TheVariants as given
use Rattle.solve_model.specs.Trees.{Open, work, fresh, leaf_tree, Occurs}
use Rattle.solve_model.specs.declared.bound.Bound.{Bound}
use Rattle.solve_model.specs.Solutions.{copy, Valuation, Asked, Solves, PlacesFit, formula_value, formula, instance, open_value, no_step}
use Rattle.solve_model.specs.MostGeneral.{Refinement, refine}
use Rattle.solve_laws.specs.Instances.{followed, FormulaHasNoFresh, IsClosedTree, AreRead, InstanceSolves}
use Rattle.mm_model.specs.Typed.{HasNoFresh}
use Rattle.solve_laws.proofs.NoFresh.{no_fresh_leaf}
use Rattle.solve_laws.proofs.ReplaceLaws.{replace-replace, replace-agree}
use Rattle.solve_model.proofs.TreeLaws.{replace-Var}

module _ (g : Valuation) (r : Refinement) where
  agree_at : (t : Tree) → HasNoFresh t → (x : Open) → Occurs x t → refine r (open_value g x) ≡ open_value (followed g r) x
  agree_at t h (work c n) o = refl
  agree_at t h (fresh c n) o = absurd (no_fresh_leaf c n t h o)

  pub refine-formula_value : (i : ℕ) (o : Option Tree) → FormulaHasNoFresh o → refine r (formula_value g i o) ≡ formula_value (followed g r) i o
  refine-formula_value i None h = refl
  refine-formula_value i (Some t) h =
      replace-replace (λ s c. Var s c) (λ s c. Var s c) r (open_value g) t
      ∙ replace-agree (λ s c. refine r (Var s c)) (λ s c. Var s c) (λ x. refine r (open_value g x)) (open_value (followed g r)) (λ s c. replace-Var _ r s c) t (agree_at t h)

  pub refine-instance : (i : ℕ) (t : Tree) → IsClosedTree t → refine r (instance g i t) ≡ instance (followed g r) i t
  refine-instance i t h =
      replace-replace (λ s c. Var s c) (λ s c. g (copy i s c)) r leaf_tree t
      ∙ replace-agree (λ s c. refine r (g (copy i s c))) (λ s c. refine r (g (copy i s c))) (λ x. refine r (leaf_tree x)) leaf_tree (λ s c. refl) t (λ x o. absurd (h x o))

  module _ (bound : Bound) (read : AreRead bound) where
    refine-formula : (i : ℕ) → refine r (formula bound g i) ≡ formula bound (followed g r) i
    refine-formula i = refine-formula_value i (slice_index_or bound.steps i no_step).tree (read i)

    places_fit : (i : ℕ) (gs : List Given) (es : List Tree) → AllByRecursion IsClosedTree es → PlacesFit bound g i gs es → PlacesFit bound (followed g r) i gs es
    places_fit i [] es h f = f
    places_fit i (p ∷ gs) [] h f = f
    places_fit i (given.Gap ∷ gs) (e ∷ es) h f = places_fit i gs es h.1 f
    places_fit i (given.Step k ∷ gs) (e ∷ es) h f =
        (sym (refine-instance i e h.0) ∙ ap (refine r) f.0 ∙ refine-formula k, places_fit i gs es h.1 f.1)

    -- an instance of a solution solves
    pub followed-Solves : (x : Asked) → IsClosedTree x.assertion.tree → AllByRecursion IsClosedTree x.assertion.hyps → Solves bound g x → Solves bound (followed g r) x
    followed-Solves x closed hyps s = record {
      conclusion = sym (refine-instance x.step x.assertion.tree closed) ∙ ap (refine r) s.conclusion ∙ refine-formula x.step;
      places = places_fit x.step x.places x.assertion.hyps hyps s.places;
    }

-- so it solves all of them
pub instance_solves : (bound : Bound) (asked : List Asked) → InstanceSolves bound asked
instance_solves bound [] g r read closed s = s
instance_solves bound (x ∷ xs) g r read closed s = (followed-Solves g r bound read x closed.0.0 closed.0.1 s.0, instance_solves bound xs g r read closed.1 s.1)
