use Rattle.std.proofs.Common.{nat_eq, take}
use Rattle.std.specs.HashMap.{get}
use Rattle.proof_tree.specs.Adding.{IsTable}
use Rattle.proof_tree.specs.Given.{given_proofs}
use Rattle.proof_tree.proofs.building.add_steps.Given as goal

abbrev pub invariant-loop-step : goal.invariant-loop-step
invariant-loop-step l = IsTable l.graph (given_proofs l.frames (get nat_eq l.floats) (take l.step-index l.steps)) l.proofs.items
