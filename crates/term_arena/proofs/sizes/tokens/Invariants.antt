use Rattle.std.proofs.Common.{◌≡◌, ◌<◌, ◌+◌, length, take, drop}
use Rattle.std.specs.List.{AllByRecursion, sum_by}
use Rattle.term_model.specs.declared.shape.Id.{Id}
use Rattle.term_model.specs.Terms.{term_at, constants_of}
use Rattle.term_model.specs.Sizes.{saturated, size_at}
use Rattle.term_arena.proofs.sizes.tokens.Given as goal

abbrev pub invariant-loop-child : goal.invariant-loop-child
invariant-loop-child l = record {
  within : AllByRecursion (λ (id : Id). id.0 < length l.terms.nodes) (drop l.child-index l.child-items);
  total : l.total ≡ saturated (constants_of (term_at l.terms.nodes l.node) + sum_by (λ (id : Id). size_at l.sizes id.0) (take l.child-index l.child-items));
}
