use Rattle.std.proofs.Common.{subst}
use Rattle.std.proofs.lemmas.Result.{IfOk-weaker, IfErr-weaker}
use Rattle.sheet_unify.specs.Ended.{AreChecked, IsSizeFault, IsSmall, IsStepFault}
use Rattle.sheet_unify.proofs.EndLaws.{IsFoundName, name_faulty, none_ambiguous, step_faulty}
use Rattle.sheet_unify.proofs.ending.check_items.Goals as goal

pub returns-in-Some-clause-fault : goal.returns-in-Some-clause-fault
returns-in-Some-clause-fault c =
    let d = c.args.db.now in
    let items = c.args.items.now in
    name_faulty d c.args.place items c.in-Some.name (subst (IsFoundName d c.args.place items) c.in-Some.is c.in-Ok.ensures)

pub returns-in-None-clause-checked : goal.returns-in-None-clause-checked
returns-in-None-clause-checked c =
    let d = c.args.db.now in
    let items = c.args.items.now in
    IfOk-weaker c.check_size.result (λ _. IsSmall d c.args.place items) (λ _. AreChecked d c.args.place items)
    (λ _ h. record { no_ambiguous = none_ambiguous d c.args.place items (subst (IsFoundName d c.args.place items) c.in-None.is c.in-Ok.ensures); small = h })
    c.check_size.ensures.small

pub returns-in-None-clause-fault : goal.returns-in-None-clause-fault
returns-in-None-clause-fault c =
    let d = c.args.db.now in
    let items = c.args.items.now in
    IfErr-weaker c.check_size.result (IsSizeFault d c.args.place items) (IsStepFault d c.args.place items)
    (λ f h. step_faulty d c.args.place items (subst (IsFoundName d c.args.place items) c.in-None.is c.in-Ok.ensures) f h) c.check_size.ensures.fault
