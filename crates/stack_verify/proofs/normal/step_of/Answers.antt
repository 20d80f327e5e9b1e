use Rattle.std.proofs.Common.{◌∙◌, sym}
use Rattle.stack_verify.proofs.LabelSteps.{hyp_passed, hyp_step, other_passed, other_step}
use Rattle.stack_verify.proofs.normal.step_of.Goals as goal

pub returns-in-Some-clause-others : goal.returns-in-Some-clause-others
returns-in-Some-clause-others c =
    λ hyps h. hyp_passed hyps c.args.others.now c.args.name.now c.in-Some.number (sym (c.place.ensures hyps h) ∙ c.in-Some.is)
    (sym c.is_unknown.ensures ∙ c.if-is_unknown.false)

pub returns-in-Some-clause-step : goal.returns-in-Some-clause-step
returns-in-Some-clause-step c = λ hyps h.
    c.unmarked-in-Some.ensures ∙ hyp_step hyps c.args.others.now c.args.name.now c.in-Some.number (sym (c.place.ensures hyps h) ∙ c.in-Some.is) (sym c.is_unknown.ensures ∙ c.if-is_unknown.false)

pub returns-in_ok-step-in-None-clause-others : goal.returns-in_ok-step-in-None-clause-others
returns-in_ok-step-in-None-clause-others c = λ hyps h.
    other_passed hyps c.args.others.now c.other_step.new.others c.args.name.now (sym (c.place.ensures hyps h) ∙ c.in-None.is)
    (sym c.is_unknown.ensures ∙ c.if-is_unknown.false) c.in_ok-step-in-None.ensures.others

pub returns-in_ok-step-in-None-clause-step : goal.returns-in_ok-step-in-None-clause-step
returns-in_ok-step-in-None-clause-step c = λ hyps h.
    other_step hyps c.other_step.new.others c.args.name.now c.in_ok-step-in-None.step (sym (c.place.ensures hyps h) ∙ c.in-None.is)
    (sym c.is_unknown.ensures ∙ c.if-is_unknown.false) c.in_ok-step-in-None.ensures.step
