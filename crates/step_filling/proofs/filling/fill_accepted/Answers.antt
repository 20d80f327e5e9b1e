use Rattle.std.proofs.Common.{ap, sym, length, None, Some}
use Rattle.step_filling.specs.Filled.{IsOwnFault, IsNextFault}
use Rattle.step_filling.proofs.StepLaws.{on_ok, if_err, wanted_as, accepted_put, long_fault, own_fault}
use Rattle.step_filling.proofs.filling.fill_accepted.Goals as goal

pub returns-in-Some-clause-fault : goal.returns-in-Some-clause-fault
returns-in-Some-clause-fault c =
    let w = c.in_ok-wanted.wanted in
    long_fault c.args.trees.now c.args.i c.args.step.now c.args.accepted.now c.args.filling.now c.requires.next c.requires.judged c.requires.used c.as_slice-found.result.now c.in-Some.tokens
    (wanted_as c.args.trees.now c.args.i c.args.step.now c.args.accepted.now (length c.as_slice.result.now) w.long
    (Some c.in-Some.tokens) w.trees.items c.as_slice-found.result.now (ap length c.as_slice.ensures) c.in-Some.is
    (sym c.as_slice-found.ensures.value) c.in_ok-wanted.ensures)
    c.long_wanted.result c.long_wanted.ensures

pub returns-clause-put : goal.returns-clause-put
returns-clause-put c =
    let w = c.in_ok-wanted.wanted in
    on_ok c.put_wanted.result
    (λ put. accepted_put c.args.trees.now c.args.i c.args.step.now c.args.accepted.now c.args.filling.now c.requires.next c.requires.judged
    c.requires.used c.put_wanted.new.filling c.as_slice-found.result.now
    (wanted_as c.args.trees.now c.args.i c.args.step.now c.args.accepted.now
    (length c.as_slice.result.now) w.long None w.trees.items c.as_slice-found.result.now (ap length c.as_slice.ensures) c.in-None.is
    (sym c.as_slice-found.ensures.value) c.in_ok-wanted.ensures) put) c.put_wanted.ensures.put

pub returns-clause-fault : goal.returns-clause-fault
returns-clause-fault c =
    let w = c.in_ok-wanted.wanted in
    let h = c.args.trees.now in
    if_err (IsOwnFault h c.args.i c.args.step.now.name) (IsNextFault h c.args.filling.now c.args.step.now) c.put_wanted.result
    (λ e f. own_fault h c.args.i c.args.step.now c.args.accepted.now c.args.filling.now c.requires.next c.requires.judged c.requires.used
    c.as_slice-found.result.now
    (wanted_as h c.args.i c.args.step.now c.args.accepted.now (length c.as_slice.result.now) w.long None w.trees.items c.as_slice-found.result.now
    (ap length c.as_slice.ensures) c.in-None.is (sym c.as_slice-found.ensures.value) c.in_ok-wanted.ensures) e f) c.put_wanted.ensures.fault
