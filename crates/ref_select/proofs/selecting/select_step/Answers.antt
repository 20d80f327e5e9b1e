use Rattle.std.proofs.Common.{sym, ap, ◌∙◌}
use Rattle.std.proofs.lemmas.Result.{IfOk-weaker}
use Rattle.ref_select.specs.Asked.{refs}
use Rattle.ref_select.proofs.AnswerLaws.{not_there, there}
use Rattle.ref_select.proofs.selecting.select_step.Goals as goal

pub returns-in-None : goal.returns-in-None
returns-in-None c =
    not_there c.args.db.now c.args.written.now c.args.name.now c.as_slice-steps.result.now (ap refs c.as_slice-steps.ensures.value ∙ c.in_ok-listed.ensures) (sym c.number_of.ensures ∙ c.in-None.is)

pub returns : goal.returns
returns c =
    IfOk-weaker c.select_at.result _ _
    (λ sel h. there c.args.db.now c.args.written.now c.args.name.now c.as_slice-steps.result.now (ap refs c.as_slice-steps.ensures.value ∙ c.in_ok-listed.ensures) c.in-Some.number sel
    (sym c.number_of.ensures ∙ c.in-Some.is) h) c.select_at.ensures
