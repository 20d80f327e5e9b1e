-- Instances of a solution.
use Rattle.std.specs.Prelude.{ℕ, List, slice_index_or, Option, Some, None}
use Rattle.std.specs.List.{AllByRecursion}
use Rattle.mm_base.specs.declared.tree.Tree.{Tree}
use Rattle.mm_model.specs.Typed.{HasNoFresh}
use Rattle.solve_model.specs.declared.bound.Bound.{Bound}
use Rattle.solve_model.specs.Trees.{Open, Occurs}
use Rattle.solve_model.specs.Solutions.{Valuation, Asked, Solves, no_step}
use Rattle.solve_model.specs.MostGeneral.{Refinement, refine}

-- the valuation followed by a refinement
abbrev pub followed : Valuation → Refinement → Valuation
followed g r u = refine r (g u)

-- a formula that was read has no fresh leaf
abbrev pub FormulaHasNoFresh : Option Tree → Type 0
FormulaHasNoFresh None = Unit {0}
FormulaHasNoFresh (Some t) = HasNoFresh t

abbrev pub AreRead : Bound → Type 0
AreRead bound = (i : ℕ) → FormulaHasNoFresh (slice_index_or bound.steps i no_step).tree

-- a tree of an assertion has no open leaf
abbrev pub IsClosedTree : Tree → Type 0
IsClosedTree t = (x : Open) → Occurs x t → ⊥

abbrev pub IsClosed : Asked → Type 0
IsClosed x = IsClosedTree x.assertion.tree × AllByRecursion IsClosedTree x.assertion.hyps

-- a solution followed by a refinement is a solution
abbrev pub InstanceSolves : Bound → List Asked → Type 0
InstanceSolves bound asked = (g : Valuation) (r : Refinement) → AreRead bound → AllByRecursion IsClosed asked
    → AllByRecursion (Solves bound g) asked → AllByRecursion (Solves bound (followed g r)) asked
