use Rattle.std.proofs.Common.{◌≡◌, true, take}
use Rattle.std.specs.List.{list_all}
use Rattle.written_model.specs.Found as spec
use Rattle.ref_search.proofs.closed.+is_ground.Given as goal

abbrev pub invariant-loop-child : goal.invariant-loop-child
invariant-loop-child l = list_all spec.is_ground (take l.child-index l.child-items) ≡ true
