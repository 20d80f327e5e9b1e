-- A store that has got more nodes.
use Rattle.std.specs.Prelude.{◌≡◌, ℕ, ◌<◌, List, ◌++◌}
use Rattle.term_model.specs.declared.shape.Id.{Id}
use Rattle.term_model.specs.Terms.{Term}
use Rattle.term_model.specs.Store.{Store, IsSolved}
use Rattle.std.specs.List.{AllByRecursion}
use Rattle.chain_laws.specs.declared.leaves.WorkNode.{WorkNode}
use Rattle.chain_laws.specs.declared.leaves.VariableNode.{VariableNode}
use Rattle.chain_laws.specs.Adding.{Rooted, Listed}

-- nodes were added at the end, and no binding
pub record IsGrown (old new : Store) : Type 0 where
  pub more : List Term
  pub nodes : new.nodes ≡ old.nodes ++ more
  pub links : new.links ≡ old.links
  pub solved : IsSolved old.nodes old.links → IsSolved new.nodes new.links

-- these nodes, with this one of them
pub record IsRooted (r : Rooted) (nodes : List Term) (id : Id) : Type 0 where
  pub nodes_are : nodes ≡ r.nodes
  pub root : id.0 ≡ r.root

-- these nodes, with these of them
pub record AreListed (r : Listed) (nodes : List Term) (ids : List Id) : Type 0 where
  pub nodes_are : nodes ≡ r.nodes
  pub roots : ids ≡ r.roots

-- nodes of a store with so many nodes
abbrev pub AreWorksIn : ℕ → List WorkNode → Type 0
AreWorksIn n works = AllByRecursion (λ (w : WorkNode). w.node < n) works

abbrev pub AreVariablesIn : ℕ → List VariableNode → Type 0
AreVariablesIn n vars = AllByRecursion (λ (v : VariableNode). v.node < n) vars

abbrev pub AreIdsIn : ℕ → List Id → Type 0
AreIdsIn n ids = AllByRecursion (λ (id : Id). id.0 < n) ids
