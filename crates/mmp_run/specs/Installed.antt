-- What the texts of a database and of a worksheet give where its theorem is to be put in. This is part of the proof, and not of
-- the claim.
use Rattle.std.specs.Prelude.{◌≡◌, ◌<◌, ◌≤◌, ℕ, true, false, List, length}
use Rattle.call_answers.specs.declared.ending.Ending.{Ending}
use Rattle.call_answers.specs.PutsIn.{PutsIn, ShowsReport, ShowsText}
use Rattle.install_model.specs.InstallAnswers.{theorem_there_line, database_too_large_line}
use Rattle.install_model.specs.Installed.{installed_text}
use Rattle.mm_base.specs.declared.status.Status.TheVariants as status
use Rattle.mm_base.specs.Limits.{most_database_bytes}
use Rattle.mm_model.specs.Book.{Database, IsDatabaseOf}
use Rattle.mmp_run.specs.Refusals.{refusal}
use Rattle.written_model.specs.declared.options.Options.{Options}
use Rattle.written_model.specs.Written.{Writing}

module _ (db : Database) (options : Options) (w : Writing) (text : List ℕ) where
  -- the text with the theorem is too large, or it is written
  pub data TellsText (end : Ending) : Type 0 where
    large : most_database_bytes < length (installed_text db options w text)
        → end ≡ refusal status.Sheet (database_too_large_line (length (installed_text db options w text))) → TellsText end
    put_in : length (installed_text db options w text) ≤ most_database_bytes → ShowsText db options w (installed_text db options w text) end → TellsText end

  -- what is told of a written worksheet
  pub data TellsInstall (end : Ending) : Type 0 where
    is_there : w.bound.existing ≡ true → end ≡ refusal status.Sheet theorem_there_line → TellsInstall end
    is_open : w.bound.existing ≡ false → w.finished ≡ false → ShowsReport db options w end → TellsInstall end
    done : w.bound.existing ≡ false → w.finished ≡ true → TellsText end → TellsInstall end

-- the answer to a worksheet over the text of a database without a fault
pub record IsInstalled (options : Options) (database sheet : List ℕ) (end : Ending) : Type 0 where
  pub db : Database
  pub is_database : IsDatabaseOf options.kinds database db
  pub puts_in : PutsIn db options database sheet end
