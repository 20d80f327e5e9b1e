-- What the text of a database and a label give. This is part of the proof, and not of the claim.
use Rattle.std.specs.Prelude.{◌≡◌, ℕ, List, []}
use Rattle.call_answers.specs.declared.ending.Ending.{Ending}
use Rattle.call_answers.specs.Verified.{Verdict, no_theorem, bad_code, refused, accepted, IsVerdict}
use Rattle.fault_lines.specs.FaultLines.{code_line, proof_line, no_theorem_line, accepted_line}
use Rattle.mm_base.specs.declared.status.Status.TheVariants.{Finished, Proof}
use Rattle.mmp_run.specs.Refusals.{refusal}
use Rattle.sheet_text.specs.Layout.{ended}

-- one line: in the output where the proof is accepted, and else in the log
abbrev pub ending_of : List ℕ → Verdict → Ending
ending_of theorem no_theorem = refusal Proof (no_theorem_line theorem)
ending_of theorem (bad_code f) = refusal Proof (code_line f)
ending_of theorem (refused f) = refusal Proof (proof_line f)
ending_of theorem accepted = record { out = ended (accepted_line theorem); log = []; status = Finished }

-- the ending for a label over a database without a fault: what is said of it, as a line
pub record IsVerified (theorem database : List ℕ) (end : Ending) : Type 0 where
  pub verdict : Verdict
  pub is_verdict : IsVerdict database theorem verdict
  pub says : end ≡ ending_of theorem verdict
