use Rattle.std.proofs.Common.{true, sym, subst}
use Rattle.written_model.specs.WrittenSteps.{steps_in}
use Rattle.written_steps.specs.Drafts.{items_in}
use Rattle.sheet_unify.specs.Ended.{IsProofFault}
use Rattle.sheet_unify.proofs.EndLaws.{proof_fits, proof_faulty}
use Rattle.sheet_unify.proofs.ending.finished_proof.Goals as goal

pub returns-in-Ok-written_proof-clause-proof : goal.returns-in-Ok-written_proof-clause-proof
returns-in-Ok-written_proof-clause-proof c =
    let d = c.args.db.now in
    proof_fits d c.args.options.now c.args.written.now
    (steps_in
    (items_in d
    c.args.items)) c.in-Ok.theorem c.in-Ok.ensures c.in-Ok-written_proof.proof c.in-Ok-written_proof.ensures.text c.in-Ok-written_proof.ensures.few

pub returns-clause-fault : goal.returns-clause-fault
returns-clause-fault c =
    let d = c.args.db.now in
    let es = steps_in (items_in d c.args.items) in
    subst (IsProofFault d c.args.options.now c.args.written.now es true) (sym c.from.ensures)
    (proof_faulty d c.args.options.now c.args.written.now es c.in-Ok.theorem c.in-Ok.ensures c.in-Err-written_proof.fault c.in-Err-written_proof.ensures.told)
