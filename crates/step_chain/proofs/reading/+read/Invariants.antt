use Rattle.std.proofs.Common.{◌≡◌, ◌-◌, map, take}
use Rattle.term_model.specs.declared.shape.Id.{Id}
use Rattle.term_model.specs.Terms.{term_at, children_of}
use Rattle.chain_laws.specs.Leaves.{leaf_at}
use Rattle.chain_laws.specs.Reading.{read}
use Rattle.step_chain.proofs.reading.+read.Given as goal

abbrev pub decreases-read : goal.decreases-read
decreases-read l = l.depth

abbrev pub invariant-loop-k : goal.invariant-loop-k
invariant-loop-k l = l.trees.items ≡ map (λ (id : Id). read l.arena.nodes l.arena.links (leaf_at l.arena.links l.works) (l.depth - 1) id.0) (take l.k (children_of (term_at l.arena.nodes l.end.0)))
