-- Usable assertions: the variables of their trees are those of their frames.
use Rattle.std.specs.Prelude.{◌≡◌, ◌⊎◌, ℕ, List, Contains, slice_get, Some}
use Rattle.std.specs.List.{AllByRecursion}
use Rattle.mm_base.specs.declared.symbols.Label.{Label}
use Rattle.mm_base.specs.declared.tree.Tree.{Tree}
use Rattle.mm_base.specs.declared.kinds.Kinds.{Kinds}
use Rattle.mm_model.specs.Productions.{TypedVariable}
use Rattle.mm_model.specs.Book.{Database, Assertion}
use Rattle.mm_model.specs.BookFacts.{VariablesDiffer}
use Rattle.solve_laws.specs.Instances.{IsClosedTree}
use Rattle.written_model.specs.Opened.{IsOpened}
use Rattle.again_laws.specs.Leaves.{typed_leaves}

-- each variable of the tree is one of these
abbrev pub HasOnly : List TypedVariable → Tree → Type 0
HasOnly vars t = (v : TypedVariable) → Contains (typed_leaves t) v → Contains vars v

-- the variable stands in the conclusion or in a `$e`
abbrev pub StandsIn : Assertion → TypedVariable → Type 0
StandsIn a v = Contains (typed_leaves a.tree) v ⊎ ((j : ℕ) × (h : Tree) × (slice_get a.hyps j ≡ Some h) × Contains (typed_leaves h) v)

-- an assertion's trees have no open leaf, their variables are those of its frame, each of these stands in them, and they differ
pub record IsWhole (a : Assertion) : Type 0 where
  pub closed : IsClosedTree a.tree
  pub hyps_closed : AllByRecursion IsClosedTree a.hyps
  pub known : HasOnly a.vars a.tree
  pub hyps_known : AllByRecursion (HasOnly a.vars) a.hyps
  pub all_stand : (v : TypedVariable) → Contains a.vars v → StandsIn a v
  pub differ : VariablesDiffer a.vars

abbrev pub AssertionsAreWhole : Type 0
AssertionsAreWhole = (kinds : Kinds) (db : Database) (l : Label) (a : Assertion) → IsOpened kinds db → db.usable l ≡ Some a → IsWhole a
