-- The variables of a most general valuation.
use Rattle.std.specs.Prelude.{ℕ, List, [], Contains, slice_index_or, Option, Some, None}
use Rattle.std.specs.List.{AllByRecursion}
use Rattle.mm_base.specs.declared.symbols.Sym.{Sym}
use Rattle.mm_base.specs.declared.tree.Tree.{Tree}
use Rattle.mm_model.specs.Book.{Database}
use Rattle.solve_model.specs.declared.bound.Bound.{Bound}
use Rattle.solve_model.specs.Trees.{variables}
use Rattle.solve_model.specs.Solutions.{Unknown, Valuation, IsUnknown, Asked, no_step}
use Rattle.solve_model.specs.MostGeneral.{IsMostGeneral}
use Rattle.solve_laws.specs.Instances.{IsClosed}

abbrev pub formula_variables : Option Tree → List Sym
formula_variables None = []
formula_variables (Some t) = variables t

-- no formula of the worksheet has the variable
abbrev pub HasNot : Bound → Sym → Type 0
HasNot bound s = (i : ℕ) → Contains (formula_variables (slice_index_or bound.steps i no_step).tree) s → ⊥

-- a variable that the worksheet lacks stands in no value
abbrev pub NoNewVariable : Database → Bound → List Asked → Type 0
NoNewVariable db bound accepted = (g : Valuation) (u : Unknown) (s : Sym) → IsMostGeneral db bound accepted g → AllByRecursion IsClosed accepted
    → IsUnknown bound accepted u → HasNot bound s → Contains (variables (g u)) s → ⊥
