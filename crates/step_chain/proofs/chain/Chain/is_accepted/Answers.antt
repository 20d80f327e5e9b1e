use Rattle.std.proofs.Common.{ap, ◌∙◌, is_some, List}
use Rattle.step_chain.specs.declared.judged.Pushed.{Pushed}
use Rattle.step_chain.specs.Values.{kept_at}
use Rattle.step_chain.proofs.AnswerLaws.{accepted_true, accepted_told}
use Rattle.step_chain.proofs.chain.Chain.is_accepted.Goals as goal

pub returns-clause-accepted : goal.returns-clause-accepted
returns-clause-accepted c =
    accepted_true _ c.args.self.now c.self.view_is c.self.invariant c.fits_at.result c.args.i (c.fits_at.ensures ∙ ap (λ (ps : List Pushed). is_some (kept_at ps c.args.i)) c.as_slice.ensures.value)

pub returns-clause-judged : goal.returns-clause-judged
returns-clause-judged c =
    accepted_told _ c.args.self.now c.self.view_is c.self.invariant c.fits_at.result c.args.i (c.fits_at.ensures ∙ ap (λ (ps : List Pushed). is_some (kept_at ps c.args.i)) c.as_slice.ensures.value)
