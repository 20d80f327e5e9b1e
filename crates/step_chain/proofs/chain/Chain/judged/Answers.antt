use Rattle.std.proofs.Common.{sym, ap, ◌∙◌, length, List}
use Rattle.step_chain.specs.declared.judged.Pushed.{Pushed}
use Rattle.step_chain.specs.Values.{judged_in}
use Rattle.step_chain.proofs.AnswerLaws.{judged_below, judged_used}
use Rattle.step_chain.proofs.chain.Chain.judged.Goals as goal

pub judged_of-requires : goal.judged_of-requires
judged_of-requires c = judged_below _ c.args.self.now c.self.view_is c.self.invariant (length c.as_slice.result.now) c.args.i (ap length c.as_slice.ensures.value) c.requires

pub returns-clause-used : goal.returns-clause-used
returns-clause-used c =
    judged_used _ c.args.self.now c.self.view_is c.self.invariant c.args.i c.judged_of.result.now
    (ap (λ (ps : List Pushed). judged_in ps c.args.i) (sym c.as_slice.ensures.value) ∙ c.judged_of.ensures)
