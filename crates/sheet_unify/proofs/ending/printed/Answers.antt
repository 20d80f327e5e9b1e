use Rattle.std.proofs.Common.{IfErr, subst}
use Rattle.std.proofs.lemmas.Result.{IfOk-weaker, IfErr-weaker}
use Rattle.written_model.specs.WrittenSteps.{steps_in}
use Rattle.written_steps.specs.Drafts.{items_in}
use Rattle.sheet_unify.specs.Ended.{ForBooks, IsEndFault, IsLargeFault, IsPrintedIn, IsPrintedWith}
use Rattle.sheet_unify.proofs.EndLaws.{end_faulty, large_faulty, printed_fits}
use Rattle.sheet_unify.proofs.ending.printed.Goals as goal

pub returns-in-Ok-clause-printed : goal.returns-in-Ok-clause-printed
returns-in-Ok-clause-printed c =
    let d = c.args.db.now in
    let es = steps_in (items_in d c.args.items) in
    let s = c.args.written in
    IfOk-weaker c.with_text.result (IsPrintedWith s c.in-Ok.proof) (λ p. ForBooks d c.args.options.now (λ db. IsPrintedIn db c.args.options.now s es c.args.finished p))
    (λ p h. printed_fits d c.args.options.now s es c.args.finished c.in-Ok.proof p c.in-Ok.ensures.proof h) c.with_text.ensures.text

pub returns-in-Ok-clause-fault : goal.returns-in-Ok-clause-fault
returns-in-Ok-clause-fault c =
    let d = c.args.db.now in
    let es = steps_in (items_in d c.args.items) in
    let s = c.args.written in
    IfErr-weaker c.with_text.result (IsLargeFault s c.in-Ok.proof) (IsEndFault d c.args.options.now s es c.args.finished)
    (λ f h. large_faulty d c.args.options.now s es c.args.finished c.in-Ok.proof f c.in-Ok.ensures.proof h) c.with_text.ensures.fault

pub returns-in-Err-clause-fault : goal.returns-in-Err-clause-fault
returns-in-Err-clause-fault c =
    let d = c.args.db.now in
    end_faulty d c.args.options.now c.args.written (steps_in (items_in d c.args.items)) c.args.finished c.in-Err.fault c.in-Err.ensures.fault
