-- The trial of the program by itself: what is told of the worksheet that the trial's becomes.
use Rattle.std.specs.Prelude.{◌≡◌, ℕ, Bool, true, false, List, [], ◌∷◌, length, find, flat_map, count_by, if◌then◌else◌, Option, option_map, decimal, codes}
use Rattle.std.specs.List.{after_first}
use Rattle.std.specs.Option.{option_map_or}
use Rattle.std.specs.Str.{bytes_eq}
use Rattle.call_answers.specs.declared.ending.Ending.{Ending}
use Rattle.call_answers.specs.CommandLine.{options_in}
use Rattle.call_answers.specs.Endings.{Refuses, status_of}
use Rattle.fault_lines.specs.FaultLines.{refusal_line}
use Rattle.mm_base.specs.declared.status.Status.TheVariants as status
use Rattle.mm_model.specs.Book.{Database, IsDatabaseOf}
use Rattle.mm_model.specs.Names.{Name}
use Rattle.sheet_text.specs.Layout.{ended, spaced}
use Rattle.sheet_text.specs.Lines.{lines_not_blank, tokens}
use Rattle.sheet_text.specs.SheetStatements.{opens_proof}
use Rattle.trial_texts.specs.TrialTexts.{trial_database, trial_sheet}
use Rattle.written_model.specs.declared.options.Options.{Options}
use Rattle.written_model.specs.declared.report.ReportVerdict.{ReportVerdict}
use Rattle.written_model.specs.declared.report.ReportVerdict.TheVariants as report
use Rattle.written_model.specs.Report.{last_line}
use Rattle.written_model.specs.WrittenSteps.{WrittenStep, steps_in}
use Rattle.written_model.specs.Written.{Writing, Answer, Answers, refused, wrote, written_text}

-- those of a command without options
abbrev pub trial_options : Options
trial_options = options_in []

abbrev pub is_fits : ReportVerdict → Bool
is_fits report.Fits = true
is_fits _ = false

-- the letters in a token of a proof's line; none in its end
abbrev pub letters_in : Name → List ℕ
letters_in t = if bytes_eq t (codes "$.") then [] else t

-- the letters behind the brackets, by the tokens of the line of a proof, where there is one
abbrev pub letter_count : Option (List Name) → ℕ
letter_count line = option_map_or (λ ts. length (flat_map letters_in (after_first (bytes_eq (codes ")")) ts))) line 0

-- the tokens of the first line of a text that begins with `$=`
abbrev pub proof_line : List ℕ → Option (List Name)
proof_line text = option_map tokens (find opens_proof (lines_not_blank text))

abbrev pub counted : List ℕ → ℕ → List ℕ
counted what n = spaced (what ∷ decimal n ∷ [])

-- four lines: the steps, those that fit, the letters of the proof, and whether it is finished
abbrev pub trial_report : ℕ → ℕ → ℕ → Bool → List (List ℕ)
trial_report steps fits letters finished = counted (codes "steps") steps ∷ counted (codes "fits") fits ∷ counted (codes "letters") letters ∷ last_line finished ∷ []

-- those of a written worksheet
abbrev pub trial_lines : Database → Writing → List (List ℕ)
trial_lines db w =
    trial_report (length (steps_in w.items)) (count_by (λ (e : WrittenStep). is_fits e.verdict) (steps_in w.items)) (letter_count (proof_line (written_text db trial_options w))) w.finished

abbrev pub TellsTrial : Database → Answer → Ending → Type 0
TellsTrial db (refused r) end = Refuses end status.Sheet (refusal_line r)
TellsTrial db (wrote w) end = end ≡ record { out = flat_map ended (trial_lines db w); log = []; status = status_of w.finished }

-- the answer of `trial`: what the worksheet of so many blocks becomes over the database, in four lines
pub record IsTried (count : ℕ) (end : Ending) : Type 0 where
  pub db : Database
  pub is_database : IsDatabaseOf trial_options.kinds trial_database db
  pub answer : Answer
  pub answers : Answers db (trial_sheet count) trial_options answer
  pub tells : TellsTrial db answer end
