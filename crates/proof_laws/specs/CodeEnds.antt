-- A proof and its compressed code.
use Rattle.std.specs.Prelude.{◌≡◌, List, Ok}
use Rattle.std.specs.List.{AllByRecursion}
use Rattle.proof_model.specs.declared.theorem.Theorem.{Theorem}
use Rattle.proof_model.specs.Arities.{HasArities}
use Rattle.proof_model.specs.Codes.{normal_code, code_of_proof}
use Rattle.proof_model.specs.Machine.{Formula, Frames, Accepts, stack_after}
use Rattle.proof_model.specs.Proofs.{Proof, postorder}
use Rattle.proof_laws.specs.Labels.{IsNoGap}

-- where the labels of a proof end with a stack, its compressed code ends with the same
abbrev pub CodeEndsAsLabels : Frames → Theorem → Type 0
CodeEndsAsLabels frames theorem = (p : Proof) (stack : List Formula) → HasArities frames theorem p
    → stack_after frames theorem (normal_code theorem.mandatory (postorder p)) ≡ Ok stack → stack_after frames theorem (code_of_proof theorem.mandatory p) ≡ Ok stack

-- and where its code ends with a stack, its labels do, if none of them is `?`
abbrev pub LabelsEndAsCode : Frames → Theorem → Type 0
LabelsEndAsCode frames theorem = (p : Proof) (stack : List Formula) → HasArities frames theorem p → AllByRecursion IsNoGap (postorder p)
    → stack_after frames theorem (code_of_proof theorem.mandatory p) ≡ Ok stack → stack_after frames theorem (normal_code theorem.mandatory (postorder p)) ≡ Ok stack

-- so the code is accepted where the labels are
abbrev pub CodeIsAccepted : Frames → Theorem → Type 0
CodeIsAccepted frames theorem = (p : Proof) → HasArities frames theorem p
    → Accepts frames theorem (normal_code theorem.mandatory (postorder p)) → Accepts frames theorem (code_of_proof theorem.mandatory p)

-- and the labels where the code is
abbrev pub LabelsAreAccepted : Frames → Theorem → Type 0
LabelsAreAccepted frames theorem = (p : Proof) → HasArities frames theorem p → AllByRecursion IsNoGap (postorder p)
    → Accepts frames theorem (code_of_proof theorem.mandatory p) → Accepts frames theorem (normal_code theorem.mandatory (postorder p))
