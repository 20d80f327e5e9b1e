use Rattle.hyp_derive.proofs.NewNameLaws.{AreDerived}
use Rattle.hyp_derive.proofs.step_names.StepNames.derive_all.Given as goal

abbrev pub invariant-loop : goal.invariant-loop
invariant-loop l = AreDerived l.fn.self l.self l.names.items l.counter
