use Rattle.std.proofs.Common.{◌≡◌, take}
use Rattle.mm_model.specs.Productions.{typed_variables}
use Rattle.chain_laws.specs.Adding.{numbered}
use Rattle.step_chain.proofs.copies.own_variables.Given as goal

abbrev pub invariant-loop-hyp : goal.invariant-loop-hyp
invariant-loop-hyp l = l.variables.items ≡ numbered l.first (typed_variables (take l.hyp-index l.hyps))
