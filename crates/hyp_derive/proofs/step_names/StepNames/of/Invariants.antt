use Rattle.std.proofs.Common.{take}
use Rattle.hyp_derive.specs.Naming.{HaveSameNames}
use Rattle.hyp_derive.proofs.NewNameLaws.{names_of}
use Rattle.hyp_derive.proofs.step_names.StepNames.of.Given as goal

abbrev pub invariant-loop-item : goal.invariant-loop-item
invariant-loop-item l = HaveSameNames l.used (names_of (take l.item-index l.item-items))
