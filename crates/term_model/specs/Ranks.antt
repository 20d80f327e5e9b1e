-- Numbers by which a walk down the trees of a store ends.
use Rattle.std.specs.Prelude.{◌≡◌, ℕ, ◌<◌, Some, List, length, slice_index_or, slice_get}
use Rattle.term_model.specs.declared.shape.Id.{Id}
use Rattle.term_model.specs.Terms.{Term, term_at, children_of}
use Rattle.term_model.specs.Links.{Link, end_of}

-- the number of a node's end
abbrev pub end_rank : List Link → List ℕ → ℕ → ℕ
end_rank links ranks i = slice_index_or ranks (end_of links i) 0

-- each child of a node's end has a smaller number, and all are less than the count of nodes
pub record AreRanked (nodes : List Term) (links : List Link) (ranks : List ℕ) : Type 0 where
  pub falls : (i k : ℕ) (child : Id) → i < length nodes → slice_get (children_of (term_at nodes (end_of links i))) k ≡ Some child → end_rank links ranks child.0 < end_rank links ranks i
  pub few : (i : ℕ) → i < length nodes → end_rank links ranks i < length nodes

-- a node has a number below this one
abbrev pub IsAbove : List Term → List Link → ℕ → ℕ → Type 0
IsAbove nodes links depth i = (ranks : List ℕ) × AreRanked nodes links ranks × (end_rank links ranks i < depth)
