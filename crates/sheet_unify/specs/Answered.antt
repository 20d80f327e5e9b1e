-- What the unifier answers to a worksheet.
use Rattle.std.specs.Prelude.{◌≡◌, ℕ, List, Option, Some, None, IfSome}
use Rattle.fault_lines.specs.Refusals as refusal
use Rattle.fault_lines.specs.Refusals.{Refusal, at_line}
use Rattle.mm_model.specs.Book.{Database}
use Rattle.mm_model.specs.Faults.{fault}
use Rattle.sheet_bind.specs.Found.{number_of}
use Rattle.sheet_read.specs.Faults.{code_of}
use Rattle.sheet_text.specs.declared.sheet.Sheet.{Sheet}
use Rattle.sheet_text.specs.Reads.{Reads}
use Rattle.sheet_text.specs.TextFaults.{text_fault}
use Rattle.sheet_unify.specs.declared.faults.UnifyFault.TheVariants as faults
use Rattle.sheet_unify.specs.declared.faults.UnifyFault.{UnifyFault}
use Rattle.sheet_unify.specs.declared.outcome.Outcome.{Outcome}
use Rattle.written_model.specs.declared.options.Options.{Options}
use Rattle.written_model.specs.ProvesItself.{IsFixed}
use Rattle.written_model.specs.WrittenSteps.{steps_in, trees}
use Rattle.written_model.specs.Written.{Writing, Answers, wrote, refused, written_sheet, written_proof, written_text, written_report}

-- the text has no fault, and says the sheet
pub record SaysSheet (text : List ℕ) (sheet : Sheet) : Type 0 where
  pub sound : text_fault text ≡ None
  pub reads : Reads text sheet

-- the place of the theorem, whether it is one of the database, the sheet, the proof, the text, the report, the given pairs, the trees
-- of the steps and the end are those of what the worksheet becomes
pub record IsWritten (db : Database) (options : Options) (w : Writing) (outcome : Outcome) : Type 0 where
  pub place : outcome.place ≡ w.bound.place
  pub existing : outcome.existing ≡ w.bound.existing
  pub sheet : outcome.sheet ≡ written_sheet db options w
  pub proof : outcome.proof ≡ written_proof db options w
  pub text : outcome.text ≡ written_text db options w
  pub report : outcome.report ≡ written_report db options w
  pub given : outcome.given ≡ w.bound.pairs
  pub trees_are : outcome.trees ≡ trees (steps_in w.items)
  pub finished : outcome.finished ≡ w.finished

-- the worksheet is written, and this is what came of it; unifying its text again writes the same bytes, with the same end
pub record IsOutcome (db : Database) (text : List ℕ) (options : Options) (outcome : Outcome) : Type 0 where
  pub writing : Writing
  pub answers : Answers db text options (wrote writing)
  pub written : IsWritten db options writing outcome
  pub again : IsFixed db options outcome.text outcome.finished

-- the refusal that a fault stands for; none where memory ran out
abbrev pub refusal_of : UnifyFault → Option Refusal
refusal_of (faults.Sheet code line) = Some (at_line (fault line (code_of code)))
refusal_of faults.TooBig = Some (at_line (fault 1 50))
refusal_of (faults.Bind code line) = Some (at_line (fault line (number_of code)))
refusal_of (faults.TooMuch n) = Some (refusal.too_much n)
refusal_of (faults.FormulaTooLong name n) = Some (refusal.formula_too_long name n)
refusal_of (faults.TooLarge n) = Some (refusal.too_large n)
refusal_of (faults.TooMuchWritten n) = Some (refusal.too_much_written n)
refusal_of (faults.WrittenTwoTrees name) = Some (refusal.written_two_trees name)
refusal_of (faults.ProofTooLong n) = Some (refusal.proof_too_long n)
refusal_of faults.Memory = None

-- the worksheet is refused by this fault, its first; nothing is said of it where memory ran out
abbrev pub IsFaultOf : Database → List ℕ → Options → UnifyFault → Type 0
IsFaultOf db text options f = IfSome (refusal_of f) (λ r. Answers db text options (refused r))
