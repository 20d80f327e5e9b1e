use Rattle.mm_model.specs.Statements.{statements}
use Rattle.stack_verify.specs.Theorems.{labels_of_hyps}
use Rattle.fault_lines.specs.NamedFaults.{told}
use Rattle.mmp_run.proofs.Verdicts.{said_code, said_machine, said_accepted, accepted_proof, proof_at, range_of, code_told, no_statement_fault}
use Rattle.mmp_run.proofs.verify.judge.Goals as goal

pub returns-in-Err-clause-verdict : goal.returns-in-Err-clause-verdict
returns-in-Err-clause-verdict c =
    let t = c.in-Some.ensures.some c.args.text.now c.requires.contents in
    let p = proof_at (statements c.args.text.now) c.args.name.now c.in-Some.label t (range_of c.proofs_stand.ensures c.args.text.now c.args.name.now c.in-Some.label t c.requires.no_fault) in
    said_code c.args.text.now c.args.name.now c.in-Some.label t (told c.in_ok-fault-in-Err.fault)
    (code_told (labels_of_hyps t.frame.hyps) t.words c.in-Err.fault (told c.in_ok-fault-in-Err.fault)
    (c.in-Err.ensures.fault t.frame t.words p) c.in_ok-fault-in-Err.ensures.told c.in_ok-fault-in-Err.ensures.fault)

pub returns-in-Ok-verify-clause-verdict : goal.returns-in-Ok-verify-clause-verdict
returns-in-Ok-verify-clause-verdict c =
    let t = c.in-Some.ensures.some c.args.text.now c.requires.contents in
    let p = proof_at (statements c.args.text.now) c.args.name.now c.in-Some.label t (range_of c.proofs_stand.ensures c.args.text.now c.args.name.now c.in-Some.label t c.requires.no_fault) in
    let e = c.in_ok-theorem.ensures c.args.text.now t.frame c.requires.contents (no_statement_fault c.args.text.now c.requires.no_fault) t.frame_is in
    said_accepted c.args.text.now c.args.name.now c.in-Some.label t c.in_ok-theorem.theorem c.in-Ok.code e
    (c.in-Ok.ensures.sound t.frame t.words p) (c.in-Ok.ensures.code t.frame t.words p) (c.in-Ok-verify.ensures.accepted c.args.text.now c.requires.contents)

pub returns-in-Ok-verify-clause-proof : goal.returns-in-Ok-verify-clause-proof
returns-in-Ok-verify-clause-proof c =
    let t = c.in-Some.ensures.some c.args.text.now c.requires.contents in
    let p = proof_at (statements c.args.text.now) c.args.name.now c.in-Some.label t (range_of c.proofs_stand.ensures c.args.text.now c.args.name.now c.in-Some.label t c.requires.no_fault) in
    let e = c.in_ok-theorem.ensures c.args.text.now t.frame c.requires.contents (no_statement_fault c.args.text.now c.requires.no_fault) t.frame_is in
    accepted_proof c.args.text.now c.args.name.now c.in-Some.label t c.in_ok-theorem.theorem c.in-Ok.code e
    (c.in-Ok.ensures.sound t.frame t.words p) (c.in-Ok.ensures.code t.frame t.words p) (c.in-Ok-verify.ensures.accepted c.args.text.now c.requires.contents)

pub returns-clause-verdict : goal.returns-clause-verdict
returns-clause-verdict c =
    let t = c.in-Some.ensures.some c.args.text.now c.requires.contents in
    let p = proof_at (statements c.args.text.now) c.args.name.now c.in-Some.label t (range_of c.proofs_stand.ensures c.args.text.now c.args.name.now c.in-Some.label t c.requires.no_fault) in
    let e = c.in_ok-theorem.ensures c.args.text.now t.frame c.requires.contents (no_statement_fault c.args.text.now c.requires.no_fault) t.frame_is in
    said_machine c.args.text.now c.args.name.now c.in-Some.label t c.in_ok-theorem.theorem c.in-Ok.code _ e
    (c.in-Ok.ensures.sound t.frame t.words p) (c.in-Ok.ensures.code t.frame t.words p)
    (c.in_ok-fault-in-Err-verify.ensures.fault _ (c.in-Err-verify.ensures.first_fault c.args.text.now c.requires.contents))
