-- What becomes of a worksheet that is finished as it stands, but for its size.
use Rattle.std.specs.Prelude.{◌≡◌, ℕ, Bool, true, if◌then◌else◌, None}
use Rattle.std.specs.List.{AllZip}
use Rattle.fault_lines.specs.Refusals.{Refusal, at_line, too_much, too_much_written, proof_too_long, too_large, told_number}
use Rattle.mm_model.specs.Faults.{fault}
use Rattle.mm_model.specs.Book.{Database}
use Rattle.sheet_text.specs.declared.sheet.Sheet.{Sheet}
use Rattle.sheet_text.specs.declared.sheet.SheetStep.{SheetStep}
use Rattle.sheet_text.specs.Layout.{steps}
use Rattle.written_model.specs.declared.report.ReportVerdict.{ReportVerdict}
use Rattle.written_model.specs.declared.report.ReportVerdict.TheVariants as report
use Rattle.written_model.specs.Report.{step_clash}
use Rattle.written_model.specs.Written.{Writing, Answer, refused, wrote, written_step}
use Rattle.written_model.specs.WrittenSteps.{WrittenStep, steps_in}

-- a fault of size: 50, 74, 76, 77 and 79
pub data IsOfSize : Refusal → Type 0 where
  long_text : IsOfSize (at_line (fault 1 50))
  much : (n : ℕ) → IsOfSize (too_much (told_number n))
  large : (n : ℕ) → IsOfSize (too_large (told_number n))
  much_written : (n : ℕ) → IsOfSize (too_much_written (told_number n))
  long_proof : (n : ℕ) → IsOfSize (proof_too_long (told_number n))

abbrev pub fitting_verdict : Bool → ReportVerdict
fitting_verdict hyp = if hyp then report.Hyp else report.Fits

-- a step is written as it is, fits over the places that it lists, in their order, or is a hypothesis, and has no clash
pub record FitsAsGiven (db : Database) (s : SheetStep) (e : WrittenStep) : Type 0 where
  pub as_it_is : written_step db e ≡ record s { line = 0 }
  pub verdict : e.verdict ≡ fitting_verdict s.hyp
  pub no_clash : step_clash e.by ≡ None

-- it is finished with its steps as they are, or has a fault of size
pub data BecomesFinished (db : Database) (sheet : Sheet) : Answer → Type 0 where
  finished : {w : Writing} → AllZip (FitsAsGiven db) (steps sheet) (steps_in w.items) → w.finished ≡ true → BecomesFinished db sheet (wrote w)
  of_size : {r : Refusal} → IsOfSize r → BecomesFinished db sheet (refused r)
