-- What `verify` says of a label over a database without a fault.
use Rattle.std.specs.Prelude.{◌≡◌, ℕ, List, Option, Some, None, MatchOption, option_map, option_and_then}
use Rattle.mm_model.specs.Faults.{Fault, fault}
use Rattle.mm_model.specs.Names.{Name, label_named}
use Rattle.mm_model.specs.Statements.{Statement, statements, labels}
use Rattle.mm_model.specs.Frames.{frame_of}
use Rattle.proof_model.specs.declared.theorem.Theorem.{Theorem}
use Rattle.proof_model.specs.declared.code.Code.{Code}
use Rattle.proof_model.specs.Machine.{Frames, MachineFault, machine_code, proof_fault}
use Rattle.proof_model.specs.DatabaseProofs.{frames_of_database, theorem_of_frame, proof_of, proof_code_fault, IsCodeOf}

-- the database has no such theorem; or the first fault of the proof's code; or that of the machine, at the number of its step; or the proof is accepted
pub data Verdict : Type 0 where
  no_theorem accepted : Verdict
  bad_code refused : Fault → Verdict

-- what the `$p` with this label has to prove, and the words of its proof; none where the label is that of no `$p`
abbrev pub theorem_named : List Statement → Name → Option (Theorem × List Name)
theorem_named ss name =
    option_and_then (λ l. option_and_then (λ f. option_map (λ words. (theorem_of_frame ss f, words)) (proof_of ss l)) (frame_of ss l)) (label_named (labels ss) name)

abbrev pub verdict_of : Option (ℕ × MachineFault) → Verdict
verdict_of None = accepted
verdict_of (Some f) = refused (fault f.0 (machine_code f.1))

-- the first fault of the code of a proof; without one, what the machine says of its code
abbrev pub IsProofVerdict : Frames → Theorem → List Name → Verdict → Type 0
IsProofVerdict frames theorem words verdict =
    MatchOption (proof_code_fault theorem.mandatory words)
    ((code : Code) × IsCodeOf theorem.mandatory words code × (verdict ≡ verdict_of (proof_fault frames theorem code)))
    (λ f. verdict ≡ bad_code f)

-- what is said of a label over these statements
abbrev pub IsVerdictOver : List Statement → Name → Verdict → Type 0
IsVerdictOver ss name verdict =
    MatchOption (theorem_named ss name) (verdict ≡ no_theorem) (λ t. IsProofVerdict (frames_of_database ss) t.0 t.1 verdict)

-- what is said of a label over the text of a database
abbrev pub IsVerdict : List ℕ → Name → Verdict → Type 0
IsVerdict text name verdict = IsVerdictOver (statements text) name verdict
