-- What the program says of a proof. This is part of the proof, and not of the claim.
use Rattle.std.specs.Prelude.{◌≡◌, ℕ, List, None}
use Rattle.call_answers.specs.Verified as said
use Rattle.fault_lines.specs.FaultLines.{code_faults, proof_faults}
use Rattle.fault_lines.specs.NamedFaults.{told, IsNamed}
use Rattle.mm_base.specs.declared.symbols.Label.{Label}
use Rattle.mm_model.specs.Statements.{statements}
use Rattle.mmp_run.specs.declared.verify.Refusal.{Refusal}
use Rattle.mmp_run.specs.declared.verify.Refusal.TheVariants as refusal
use Rattle.mmp_run.specs.declared.verify.Verdict.{Verdict}
use Rattle.mmp_run.specs.declared.verify.Verdict.TheVariants as verdict
use Rattle.mmp_run.specs.Theorems.{IsTheorem}
use Rattle.proof_model.specs.declared.code.Code.{Code}
use Rattle.proof_model.specs.DatabaseProofs.{frames_of_database, theorem_of_frame, proof_code_fault, IsCodeOf}
use Rattle.proof_model.specs.Machine.{Accepts}
use Rattle.stack_verify.specs.Theorems.{labels_of_hyps}

abbrev pub told_refusal : Refusal → said.Verdict
told_refusal refusal.NoTheorem = said.no_theorem
told_refusal (refusal.BadCode f) = said.bad_code (told f)
told_refusal (refusal.BadProof f) = said.refused (told f)

abbrev pub told_verdict : Verdict → said.Verdict
told_verdict (verdict.Refused r) = told_refusal r
told_verdict (verdict.Accepted p) = said.accepted

-- its fault has the name of its code
abbrev pub IsNamedRefusal : Refusal → Type 0
IsNamedRefusal refusal.NoTheorem = Unit {0}
IsNamedRefusal (refusal.BadCode f) = IsNamed code_faults f
IsNamedRefusal (refusal.BadProof f) = IsNamed proof_faults f

abbrev pub IsNamedVerdict : Verdict → Type 0
IsNamedVerdict (verdict.Refused r) = IsNamedRefusal r
IsNamedVerdict (verdict.Accepted p) = Unit {0}

-- the label is that of the theorem with this name, and the code that of its proof, which is accepted
pub record IsAcceptedProof (text name : List ℕ) (label : Label) (code : Code) : Type 0 where
  pub theorem : IsTheorem (statements text) name label
  pub sound : proof_code_fault (labels_of_hyps theorem.frame.hyps) theorem.words ≡ None
  pub is_code : IsCodeOf (labels_of_hyps theorem.frame.hyps) theorem.words code
  pub accepts : Accepts (frames_of_database (statements text)) (theorem_of_frame (statements text) theorem.frame) code

abbrev pub IsProvedBy : List ℕ → List ℕ → Verdict → Type 0
IsProvedBy text name (verdict.Refused r) = Unit {0}
IsProvedBy text name (verdict.Accepted p) = IsAcceptedProof text name p.label p.code
