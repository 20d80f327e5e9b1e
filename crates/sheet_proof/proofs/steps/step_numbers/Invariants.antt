use Rattle.std.proofs.Common.{◌≡◌, take}
use Rattle.sheet_proof.specs.Steps as spec
use Rattle.sheet_proof.proofs.steps.step_numbers.Given as goal

-- the numbers of the places so far
abbrev pub invariant-loop-place : goal.invariant-loop-place
invariant-loop-place l = l.numbers.items ≡ spec.step_numbers (take l.place-index l.places)
