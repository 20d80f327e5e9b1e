use Rattle.std.proofs.Common.{◌≤◌, length, take}
use Rattle.stack_verify.specs.Lookups.{IsIndexOf}
use Rattle.stack_verify.proofs.found.HypLabels.of.Given as goal

abbrev pub invariant-loop-place : goal.invariant-loop-place
invariant-loop-place l = record { count : length l.index.labels ≤ l.place; index : IsIndexOf (take l.place l.hyps) l.index }
