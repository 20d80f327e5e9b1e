use Rattle.std.proofs.Common.{◌≡◌, ℕ, List, None, ap, length, subst, ◌∙◌}
use Rattle.std.specs.Prelude.{IfErr, IfOk, OnOk}
use Rattle.mm_model.specs.declared.frames.Hyp.{Hyp}
use Rattle.proof_model.specs.DatabaseProofs.{IsCodeOf, proof_code_fault}
use Rattle.proof_model.specs.ProofCode.{AreInRange}
use Rattle.stack_verify.specs.Proofs.{IsProofCodeFault, names_in}
use Rattle.stack_verify.specs.Theorems.{labels_of_hyps}
use Rattle.stack_verify.proofs.ProofRanges.{hyps_are, proof_read}
use Rattle.stack_verify.proofs.coding.proof_code.Goals as goal

pub returns-clause-sound : goal.returns-clause-sound
returns-clause-sound c = λ f proof h.
    let text = c.args.text.now in
    let hyps = hyps_are c.in-Some.frame f c.frame.result c.as_slice-2.result.now c.in-Some.is (c.frame.ensures text c.requires ∙ h.frame) c.as_slice-2.ensures in
    let words =
    proof_read text c.args.label c.in-Some-proof_start.from c.min.result (names_in text c.as_slice.result.now) proof c.proof_start.result
    (c.proof_start.ensures text c.requires) c.in-Some-proof_start.is h.words c.min.ensures
    (ap (names_in text) c.as_slice.ensures.value ∙ c.in_ok-spans.ensures.words) in
    subst (λ (l : List Hyp). OnOk c.code_of.result (proof_code_fault (labels_of_hyps l) proof ≡ None)) hyps
    (subst
    (λ (l : List (List ℕ)). OnOk c.code_of.result
    (proof_code_fault (labels_of_hyps c.as_slice-2.result.now) l ≡ None)) words c.code_of.ensures.sound)

pub returns-clause-code : goal.returns-clause-code
returns-clause-code c = λ f proof h.
    let text = c.args.text.now in
    let hyps = hyps_are c.in-Some.frame f c.frame.result c.as_slice-2.result.now c.in-Some.is (c.frame.ensures text c.requires ∙ h.frame) c.as_slice-2.ensures in
    let words =
    proof_read text c.args.label c.in-Some-proof_start.from c.min.result (names_in text c.as_slice.result.now) proof c.proof_start.result
    (c.proof_start.ensures text c.requires) c.in-Some-proof_start.is h.words c.min.ensures
    (ap (names_in text) c.as_slice.ensures.value ∙ c.in_ok-spans.ensures.words) in
    subst (λ (l : List Hyp). IfOk c.code_of.result (λ code. IsCodeOf (labels_of_hyps l) proof code)) hyps
    (subst
    (λ (l : List (List ℕ)). IfOk c.code_of.result
    (λ code. IsCodeOf (labels_of_hyps c.as_slice-2.result.now) l code)) words c.code_of.ensures.code)

pub returns-clause-fault : goal.returns-clause-fault
returns-clause-fault c = λ f proof h.
    let text = c.args.text.now in
    let hyps = hyps_are c.in-Some.frame f c.frame.result c.as_slice-2.result.now c.in-Some.is (c.frame.ensures text c.requires ∙ h.frame) c.as_slice-2.ensures in
    let words =
    proof_read text c.args.label c.in-Some-proof_start.from c.min.result (names_in text c.as_slice.result.now) proof c.proof_start.result
    (c.proof_start.ensures text c.requires) c.in-Some-proof_start.is h.words c.min.ensures
    (ap (names_in text) c.as_slice.ensures.value ∙ c.in_ok-spans.ensures.words) in
    subst (λ (l : List Hyp). IfErr c.code_of.result (λ e. IsProofCodeFault (labels_of_hyps l) proof e)) hyps
    (subst
    (λ (l : List (List ℕ)). IfErr c.code_of.result
    (λ e. IsProofCodeFault (labels_of_hyps c.as_slice-2.result.now) l e)) words c.code_of.ensures.fault)

pub returns-clause-in_range : goal.returns-clause-in_range
returns-clause-in_range c = λ f proof h.
    let hyps = hyps_are c.in-Some.frame f c.frame.result c.as_slice-2.result.now c.in-Some.is (c.frame.ensures c.args.text.now c.requires ∙ h.frame) c.as_slice-2.ensures in
    subst (λ (l : List Hyp). IfOk c.code_of.result (λ code. AreInRange (length (labels_of_hyps l)) (length code.labels) 0 code.steps)) hyps c.code_of.ensures.in_range
