-- Proofs that are accepted, and what their steps push.
use Rattle.std.specs.Prelude.{◌≡◌, ℕ, List, Some, Result, Ok}
use Rattle.mm_base.specs.declared.kinds.Kinds.{Kinds}
use Rattle.mm_base.specs.declared.symbols.Label.{Label}
use Rattle.mm_model.specs.declared.frames.Frame.{Frame}
use Rattle.mm_model.specs.Names.{Name}
use Rattle.mm_model.specs.Statements.{statements}
use Rattle.mm_model.specs.Frames.{frame_of}
use Rattle.proof_model.specs.declared.code.Code.{Code}
use Rattle.proof_model.specs.declared.code.Step.{Step}
use Rattle.proof_model.specs.declared.theorem.Theorem.{Theorem}
use Rattle.proof_model.specs.DatabaseProofs.{frames_of_database, theorem_of_frame}
use Rattle.proof_model.specs.Machine.{Frames, MachineFault, State, Accepts, run_steps}
use Rattle.mm_database.specs.Opened.{Opened, IsOpened}

-- the database is opened from a text in which this code is an accepted proof of the assertion of the label
pub record HasProof (kinds : Kinds) (d : Opened) (label : Label) (code : Code) : Type 0 where
  pub text : List ℕ
  pub opened : IsOpened kinds text d
  pub frame : Frame
  pub frame_is : frame_of (statements text) label ≡ Some frame
  pub accepts : Accepts (frames_of_database (statements text)) (theorem_of_frame (statements text) frame) code

-- the machine ends behind these steps without a fault
pub record Runs (frames : Frames) (theorem : Theorem) (labels : List Name) (steps : List Step) (st : State) : Type 0 where
  pub number : ℕ
  pub last : State
  pub is : run_steps frames theorem labels number steps st ≡ Ok last

-- a part of a step leads to a state
pub record Passes (result : Result State MachineFault) : Type 0 where
  pub next : State
  pub is : result ≡ Ok next
