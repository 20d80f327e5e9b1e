use Rattle.std.proofs.Common.{◌≡◌, take}
use Rattle.mm_database.specs.Variables.{frame_variables}
use Rattle.mm_database.proofs.variables.frame_variables.Given as goal

abbrev pub invariant-loop-hyp : goal.invariant-loop-hyp
invariant-loop-hyp l = l.vars.items ≡ frame_variables (take l.hyp-index l.hyps)
