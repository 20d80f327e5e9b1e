-- What a call may answer, before anything is written. This is part of the proof, and not of the claim.
use Rattle.std.specs.Prelude.{◌≡◌, ◌≢◌, ℕ, List, [], Option, MatchOption, Some, IfSome, IsNone, false}
use Rattle.call_answers.specs.declared.ending.Ending.{Ending}
use Rattle.call_answers.specs.CallAnswers.{CallAnswer, database_of, no_files}
use Rattle.call_answers.specs.CommandLine.{Command}
use Rattle.call_answers.specs.Given.{IsReadFault, is_written}
use Rattle.mm_base.specs.Outside.{Files}
use Rattle.mm_base.specs.declared.status.Status.TheVariants.{Words, Read, Write, Memory}
use Rattle.mmp_run.specs.Refusals.{usage}

-- an ending that a call may have for this command, whatever the store tells
pub record MayEnd (command : Command) (told : Option Files) (before now : List ℕ → ℕ) (end : Ending) : Type 0 where
  pub due : end.status ≢ Read → IfSome told (λ files. CallAnswer files (Some command) end)
  pub without_files : IsNone (database_of command) → CallAnswer no_files (Some command) end
  pub read : end.status ≡ Read → IsReadFault command told before now end
  pub not_words : end.status ≢ Words
  pub not_write : end.status ≢ Write
  pub not_memory : end.status ≢ Memory
  pub silent : is_written end.status ≡ false → end.out ≡ []

-- an ending that a call may have for these words
pub record MayEndFor (command : Option Command) (told : Option Files) (before now : List ℕ → ℕ) (end : Ending) : Type 0 where
  pub by_words : MatchOption command (end ≡ usage) (λ c. MayEnd c told before now end)
