use Rattle.sheet_unify.specs.Judged.{IsPushedTo}
use Rattle.sheet_unify.proofs.judging.push_all.Given as goal

abbrev pub invariant-loop-i : goal.invariant-loop-i
invariant-loop-i l = IsPushedTo l.i l.initial.chain l.chain
