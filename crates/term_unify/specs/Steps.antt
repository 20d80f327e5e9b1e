-- Part of the proof, and not of the claim, but for `HaveSameTree`: bindings that one unification makes.
use Rattle.std.specs.Prelude.{◌≡◌, ℕ, ◌==◌, ◌&&◌, if◌then◌else◌, Option, Some, None, true, List, ◌++◌}
use Rattle.std.specs.List.{AllByRecursion}
use Rattle.mm_base.specs.declared.tree.Tree.{Tree}
use Rattle.term_model.specs.declared.shape.Shape.{Shape}
use Rattle.term_model.specs.Links.{Link}
use Rattle.term_model.specs.Store.{Store, tree_at, trees_at, Solution}
use Rattle.term_model.specs.Terms.{Term, term_at, children_of, is_free}

-- a free node is never the target of a node that is not free
abbrev pub IsOriented : List Term → Link → Type 0
IsOriented nodes link = is_free (term_at nodes link.to) ≡ true → is_free (term_at nodes link.from) ≡ true

-- the store has more bindings, and is otherwise the same
pub record Extends (old new : Store) : Type 0 where
  pub nodes : new.nodes ≡ old.nodes
  pub ready : new.ready ≡ old.ready
  pub more : List Link
  pub links : new.links ≡ old.links ++ more
  pub oriented : AllByRecursion (IsOriented old.nodes) more

-- each solution with that property is one of the new store
abbrev pub Forces : Store → Store → (List Tree → Type 0) → Type 0
Forces old new P = (trees : List Tree) → Solution old.nodes old.links trees → P trees → Solution new.nodes new.links trees

-- no solution has that property
abbrev pub Excludes : Store → (List Tree → Type 0) → Type 0
Excludes s P = (trees : List Tree) → Solution s.nodes s.links trees → P trees → ⊥

abbrev pub HaveSameTree : ℕ → ℕ → List Tree → Type 0
HaveSameTree i j trees = tree_at trees i ≡ tree_at trees j

abbrev pub HaveSameChildren : Store → ℕ → ℕ → List Tree → Type 0
HaveSameChildren s i j trees = trees_at trees (children_of (term_at s.nodes i)) ≡ trees_at trees (children_of (term_at s.nodes j))

abbrev pub KeepsSolutions : Store → Store → Type 0
KeepsSolutions old new = (trees : List Tree) → Solution old.nodes old.links trees → Solution new.nodes new.links trees

abbrev pub HasNone : Store → Type 0
HasNone s = (trees : List Tree) → Solution s.nodes s.links trees → ⊥

-- how many pairs of children two shapes have to be merged, if they are of one kind
abbrev pub pairs_of : Shape → Shape → Option ℕ
pairs_of (Shape.Var x c) (Shape.Var y d) = if x.0 == y.0 && c.0.0 == d.0.0 then Some 0 else None
pairs_of (Shape.Node l c n) (Shape.Node m d h) = if (l.0 == m.0 && c.0.0 == d.0.0) && n == h then Some n else None
pairs_of first second = None
