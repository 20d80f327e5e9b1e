-- A chain counts the tokens of typed trees as the definitions do.
use Rattle.std.specs.Prelude.{◌≡◌, ℕ, List, slice_get, Contains, Some, None}
use Rattle.mm_base.specs.declared.kinds.Kinds.{Kinds}
use Rattle.mm_base.specs.declared.tree.Tree.{Tree}
use Rattle.mm_model.specs.Statements.{database_fault}
use Rattle.mm_model.specs.Typed.{IsTyped}
use Rattle.mm_model.specs.Book.{Database, IsDatabaseOf}
use Rattle.solve_model.specs.declared.bound.BoundStep.{BoundStep}
use Rattle.solve_model.specs.declared.bound.Bound.{Bound}
use Rattle.solve_model.specs.Solutions.{Valuation, Asked, IsUnknown, IsValuation, formula, instance}
use Rattle.chain_laws.specs.Adding.{constants_in}
use Rattle.chain_laws.specs.Layout.{IsReadyBound, IsOver}
use Rattle.step_filling.specs.Defined.{IsCounted}

-- over the database of a text without a fault, a typed tree has as many tokens as the chain counts
abbrev pub TypedIsCounted : Type 0
TypedIsCounted = (kinds : Kinds) (text : List ℕ) (db : Database) → IsDatabaseOf kinds text db → database_fault text ≡ None
    → (before : ℕ) (t : Tree) → IsTyped db.rows before t → IsCounted db (constants_in db.rows) t

-- the formula of a step is typed under each valuation of typed trees
abbrev pub FormulaIsTyped : Type 0
FormulaIsTyped = (db : Database) (bound : Bound) (asked : List Asked) (v : Valuation) → IsReadyBound db bound → IsValuation db bound.place (IsUnknown bound asked) v
    → (k : ℕ) (b : BoundStep) → slice_get bound.steps k ≡ Some b → IsTyped db.rows bound.place (formula bound v k)

-- a tree of a candidate, over its variables, is typed under each valuation of typed trees to its copies
abbrev pub InstanceIsTyped : Type 0
InstanceIsTyped = (db : Database) (bound : Bound) (asked : List Asked) (v : Valuation) (x : Asked) → IsValuation db bound.place (IsUnknown bound asked) v → Contains asked x
    → (t : Tree) → IsOver x.assertion.vars t → IsTyped db.rows bound.place t → IsTyped db.rows bound.place (instance v x.step t)
