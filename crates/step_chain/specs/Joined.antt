-- Pairs of nodes that are joined.
use Rattle.std.specs.Prelude.{◌≡◌, ℕ, ◌<◌, List, map, ◌++◌}
use Rattle.std.specs.List.{AllByRecursion}
use Rattle.term_model.specs.declared.shape.Id.{Id}
use Rattle.term_model.specs.Links.{Link}
use Rattle.term_model.specs.Store.{Store}
use Rattle.chain_laws.specs.Layout.{NodePair}

abbrev pub pair_of : Id × Id → NodePair
pair_of p = (p.0.0, p.1.0)

abbrev pub pairs_of : List (Id × Id) → List NodePair
pairs_of pairs = map pair_of pairs

abbrev pub ArePairsIn : ℕ → List (Id × Id) → Type 0
ArePairsIn n pairs = AllByRecursion (λ (p : Id × Id). (p.0.0 < n) × (p.1.0 < n)) pairs

-- bindings were added at the end, and nothing else
pub record KeepsNodes (old new : Store) : Type 0 where
  pub nodes : new.nodes ≡ old.nodes
  pub ready : new.ready ≡ old.ready
  pub more : List Link
  pub links : new.links ≡ old.links ++ more
