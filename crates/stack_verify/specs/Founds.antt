-- A run of steps whose labels have been looked up. This is part of the proof, and not of the claim.
use Rattle.std.specs.Prelude.{ℕ, suc, List, [], ◌∷◌, length, slice_get, slice_index_or, Option, Some, None, Result, Ok, Err}
use Rattle.mm_model.specs.declared.frames.Hyp.{Hyp}
use Rattle.proof_model.specs.declared.code.What.{What}
use Rattle.proof_model.specs.declared.code.What.TheVariants as what
use Rattle.proof_model.specs.declared.code.Step.{Step}
use Rattle.proof_model.specs.declared.theorem.Theorem.{Theorem}
use Rattle.proof_model.specs.Machine.{MachineFault, State, not_earlier, unknown, and_then, push, apply_frame, use_kept, keep_top, numbered, start, ended_fault}
use Rattle.stack_verify.specs.declared.run.Found.{Found}
use Rattle.stack_verify.specs.declared.run.Found.TheVariants as found

abbrev pub use_hyp_at : Option Hyp → State → Result State MachineFault
use_hyp_at None st = Err not_earlier
use_hyp_at (Some h) st = Ok (push h.formula st)

abbrev pub use_found : Theorem → Found → State → Result State MachineFault
use_found theorem (found.Hyp k) st = use_hyp_at (slice_get theorem.hyps k) st
use_found theorem (found.Assertion f) st = apply_frame theorem f.now st
use_found theorem found.Nothing st = Err not_earlier

-- a number that no label of a table has stands for what is absent
abbrev pub use_found_what : Theorem → Found → List Found → List Found → What → State → Result State MachineFault
use_found_what theorem absent mandatory labels (what.Hyp k) st = use_found theorem (slice_index_or mandatory k absent) st
use_found_what theorem absent mandatory labels (what.Listed k) st = use_found theorem (slice_index_or labels k absent) st
use_found_what theorem absent mandatory labels (what.Again k) st = use_kept (slice_get st.kept k) st
use_found_what theorem absent mandatory labels what.Unknown st = Err unknown

abbrev pub use_found_step : Theorem → Found → List Found → List Found → Step → State → Result State MachineFault
use_found_step theorem absent mandatory labels s st = and_then (λ next. Ok (keep_top s.marked next)) (use_found_what theorem absent mandatory labels s.what st)

abbrev pub run_found : Theorem → Found → List Found → List Found → ℕ → List Step → State → Result State (ℕ × MachineFault)
run_found theorem absent mandatory labels n [] st = Ok st
run_found theorem absent mandatory labels n (s ∷ ss) st = and_then (run_found theorem absent mandatory labels (suc n) ss) (numbered n (use_found_step theorem absent mandatory labels s st))

-- the first fault of the run
abbrev pub found_fault : Theorem → Found → List Found → List Found → List Step → Option (ℕ × MachineFault)
found_fault theorem absent mandatory labels steps = ended_fault theorem (length steps) (run_found theorem absent mandatory labels 0 steps start)
