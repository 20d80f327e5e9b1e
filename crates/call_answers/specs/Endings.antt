-- What an answer has for the output and for the log, and its status.
use Rattle.std.specs.Prelude.{◌≡◌, Bool, List, ℕ, [], flat_map, if◌then◌else◌, None}
use Rattle.call_answers.specs.declared.ending.Ending.{Ending}
use Rattle.call_answers.specs.Verified.{Verdict, no_theorem, accepted, bad_code}
use Rattle.call_answers.specs.Verified as verified
use Rattle.fault_lines.specs.FaultLines.{refusal_line, code_line, proof_line, no_theorem_line, accepted_line}
use Rattle.mm_base.specs.declared.status.Status.{Status}
use Rattle.mm_base.specs.declared.status.Status.TheVariants as status
use Rattle.mm_model.specs.Names.{Name}
use Rattle.mm_model.specs.Book.{Database}
use Rattle.sheet_text.specs.Layout.{ended}
use Rattle.written_model.specs.declared.options.Options.{Options}
use Rattle.written_model.specs.ProvesItself.{proof_tokens, ProvesItself, IsFixed}
use Rattle.written_model.specs.Written.{Writing, Answer, Answers, wrote, refused, written_text, written_log}

-- nothing in the output, one line in the log
pub record Refuses (end : Ending) (s : Status) (line : List ℕ) : Type 0 where
  pub out : end.out ≡ []
  pub log : end.log ≡ ended line
  pub status : end.status ≡ s

abbrev pub status_of : Bool → Status
status_of finished = if finished then status.Finished else status.Unfinished

-- the written text and the report
pub record Shows (db : Database) (options : Options) (w : Writing) (end : Ending) : Type 0 where
  pub out : end.out ≡ written_text db options w
  pub log : end.log ≡ flat_map ended (written_log db options w)
  pub status : end.status ≡ status_of w.finished

abbrev pub Gives : Database → Options → Answer → Ending → Type 0
Gives db options (refused r) end = Refuses end status.Sheet (refusal_line r)
Gives db options (wrote w) end = Shows db options w end

-- a worksheet over a database without a fault: the answer is its first fault, or the worksheet with its most general
-- formulas; a finished one carries a proof that is accepted for what is printed, an unfinished one none; and again it is written as it is
pub record Unifies (db : Database) (options : Options) (sheet : List ℕ) (end : Ending) : Type 0 where
  pub answer : Answer
  pub answers : Answers db sheet options answer
  pub gives : Gives db options answer end
  pub proves : end.status ≡ status.Finished → ProvesItself db options end.out
  pub no_proof : end.status ≡ status.Unfinished → proof_tokens end.out ≡ None
  pub again : (w : Writing) → answer ≡ wrote w → IsFixed db options end.out w.finished

-- what a verdict on a proof is told by: one line in the output where the proof is accepted, and else one in the log
abbrev pub Tells : Name → Verdict → Ending → Type 0
Tells theorem no_theorem end = Refuses end status.Proof (no_theorem_line theorem)
Tells theorem (bad_code f) end = Refuses end status.Proof (code_line f)
Tells theorem (verified.refused f) end = Refuses end status.Proof (proof_line f)
Tells theorem accepted end = end ≡ record { out = ended (accepted_line theorem); log = []; status = status.Finished }
