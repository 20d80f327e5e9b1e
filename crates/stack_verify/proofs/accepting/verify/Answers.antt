use Rattle.std.proofs.Common.{◌≡◌, ℕ, Option, None, subst}
use Rattle.std.specs.Prelude.{IfErr, OnOk}
use Rattle.mm_model.specs.Statements.{statements}
use Rattle.proof_model.specs.DatabaseProofs.{frames_of_database}
use Rattle.proof_model.specs.Machine.{MachineFault}
use Rattle.stack_verify.specs.Faults.{IsFault}
use Rattle.stack_verify.proofs.FoundLaw.{fault_same}
use Rattle.stack_verify.proofs.accepting.verify.Goals as goal

pub returns-clause-accepted : goal.returns-clause-accepted
returns-clause-accepted c = λ text read.
    let same =
    fault_same
    (frames_of_database
    (statements
    text)) c.args.theorem.now c.args.code.now c.find_label-absent.result c.as_slice.result.now c.as_slice-2.result.now c.in_ok-mandatory.mandatory.items c.in_ok-labels.labels.items
    c.as_slice-3.result.now c.as_slice-4.result.now c.as_slice-steps.result.now c.as_slice.ensures c.as_slice-2.ensures c.as_slice-3.ensures.value c.as_slice-4.ensures.value c.as_slice-steps.ensures
    (c.find_label-absent.ensures text read) (c.in_ok-mandatory.ensures text read) (c.in_ok-labels.ensures text read) in
    subst (λ (o : Option (ℕ × MachineFault)). OnOk c.run.result (o ≡ None)) same c.run.ensures.fine

pub returns-clause-first_fault : goal.returns-clause-first_fault
returns-clause-first_fault c = λ text read.
    let same =
    fault_same
    (frames_of_database
    (statements
    text)) c.args.theorem.now c.args.code.now c.find_label-absent.result c.as_slice.result.now c.as_slice-2.result.now c.in_ok-mandatory.mandatory.items c.in_ok-labels.labels.items
    c.as_slice-3.result.now c.as_slice-4.result.now c.as_slice-steps.result.now c.as_slice.ensures c.as_slice-2.ensures c.as_slice-3.ensures.value c.as_slice-4.ensures.value c.as_slice-steps.ensures
    (c.find_label-absent.ensures text read) (c.in_ok-mandatory.ensures text read) (c.in_ok-labels.ensures text read) in
    subst (λ (o : Option (ℕ × MachineFault)). IfErr c.run.result (λ e. IsFault e o)) same c.run.ensures.fault
