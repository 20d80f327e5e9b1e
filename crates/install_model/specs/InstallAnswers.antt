-- The answer to a worksheet whose theorem is to be put into the database.
use Rattle.std.specs.Prelude.{◌≡◌, ℕ, ◌<◌, ◌≤◌, true, false, List, [], ◌∷◌, length, decimal, codes}
use Rattle.fault_lines.specs.FaultLines.{sheet_error}
use Rattle.fault_lines.specs.Refusals.{Refusal}
use Rattle.install_model.specs.Installed.{installed_text}
use Rattle.mm_model.specs.Book.{Database}
use Rattle.mm_base.specs.Limits.{most_database_bytes}
use Rattle.written_model.specs.declared.options.Options.{Options}
use Rattle.written_model.specs.Written.{Writing, Answers, refused, wrote}

-- 80: the theorem is one of the database
abbrev pub theorem_there_line : List ℕ
theorem_there_line = sheet_error (codes "80" ∷ codes "TheoremThere" ∷ codes "at" ∷ codes "line" ∷ codes "1" ∷ [])

-- 81: the text with the theorem has so many bytes
abbrev pub database_too_large_line : ℕ → List ℕ
database_too_large_line n = sheet_error (codes "81" ∷ codes "DatabaseTooLarge" ∷ codes "bytes" ∷ decimal n ∷ [])

-- a refusal of the worksheet; its theorem is in the database; it is not finished; the text would be too large; or the text
pub data InstallAnswer : Type 0 where
  bad_sheet : Refusal → InstallAnswer
  theorem_there : InstallAnswer
  unfinished : Writing → InstallAnswer
  too_large : ℕ → InstallAnswer
  put_in : Writing → List ℕ → InstallAnswer

-- which of them it is, of a worksheet over the database of a text
pub data Installs (db : Database) (options : Options) (text sheet : List ℕ) : InstallAnswer → Type 0 where
  refuses : {r : Refusal} → Answers db sheet options (refused r) → Installs db options text sheet (bad_sheet r)
  is_there : {w : Writing} → Answers db sheet options (wrote w) → w.bound.existing ≡ true → Installs db options text sheet theorem_there
  is_open : {w : Writing} → Answers db sheet options (wrote w) → w.bound.existing ≡ false → w.finished ≡ false → Installs db options text sheet (unfinished w)
  is_large : {w : Writing} → Answers db sheet options (wrote w) → w.bound.existing ≡ false → w.finished ≡ true
      → most_database_bytes < length (installed_text db options w text) → Installs db options text sheet (too_large (length (installed_text db options w text)))
  is_put_in : {w : Writing} → Answers db sheet options (wrote w) → w.bound.existing ≡ false → w.finished ≡ true
      → length (installed_text db options w text) ≤ most_database_bytes → Installs db options text sheet (put_in w (installed_text db options w text))
