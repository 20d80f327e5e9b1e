use Rattle.std.proofs.Common.{◌≡◌, drop}
use Rattle.stack_verify.specs.Pairs.{first_failing}
use Rattle.stack_verify.specs.Taken.{taken}
use Rattle.stack_verify.proofs.pairs.first_failing.Given as goal

abbrev pub invariant-loop-pair : goal.invariant-loop-pair
invariant-loop-pair l = first_failing l.known l.rule (taken l.entries) (drop l.pair-index l.pairs) ≡ first_failing l.known l.rule (taken l.entries) l.pairs
