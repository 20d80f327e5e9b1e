-- What a trial tells, from the outcome of unifying its worksheet over its database.
use Rattle.std.proofs.Common.{◌≡◌, ◌≤◌, ◌^◌, ℕ, ◌+◌, Bool, cond, List, [], ◌∷◌, length, map, Option, Some, None, IsSome, Result, Ok, Err, IfOk}
use Rattle.std.proofs.Common.{refl, sym, ◌∙◌, ap, subst, arith, inl, inr, false, true}
use Rattle.std.specs.Prelude.{count_by, flat_map}
use Rattle.std.specs.List.{fold}
use Rattle.std.proofs.lemmas.Bool.{cases_lt}
use Rattle.std.proofs.lemmas.List.{length-map}
use Rattle.call_answers.specs.declared.ending.Ending.{Ending}
use Rattle.call_answers.specs.Endings.{status_of}
use Rattle.call_answers.specs.Trial.{IsTried, is_fits, letter_count, proof_line, trial_options, trial_report}
use Rattle.mm_base.specs.declared.errors.Memory as memory
use Rattle.mm_database.specs.Books.{database_of}
use Rattle.mm_database.specs.Faults.{IsDbFault, IsTold, fault_of}
use Rattle.mm_database.specs.Opened as opened
use Rattle.mm_database.specs.declared.faults.DbFault.{DbFault}
use Rattle.mm_database.specs.declared.faults.DbFault.TheVariants as fault
use Rattle.mm_model.specs.Book.{Database}
use Rattle.mm_model.specs.Faults.{Fault}
use Rattle.mm_model.specs.Statements.{database_fault}
use Rattle.mmp_run.specs.Tried.{TellsOutcome}
use Rattle.mmp_run.proofs.Stands.{stands}
use Rattle.sheet_text.specs.Layout.{ended}
use Rattle.sheet_unify.specs.Answered.{IsOutcome}
use Rattle.sheet_unify.specs.declared.outcome.Outcome.{Outcome}
use Rattle.trial_texts.specs.TrialTexts.{trial_database, trial_sheet}
use Rattle.written_model.specs.declared.options.Options.{Options}
use Rattle.written_model.specs.declared.report.ReportLine.{ReportLine}
use Rattle.written_model.specs.Written.{Writing, Answers, wrote, written, HasNoLateFault, LateFault, written_text, written_report}
use Rattle.written_model.specs.WrittenSteps.{steps_in}

-- ---- the database

pub short_database : length trial_database ≤ 2 ^ 28
unfolding trial_database
short_database = omega arith

sound_database : database_fault trial_database ≡ None
unfolding trial_database
sound_database = refl

pub no_database_fault : (text : List ℕ) → text ≡ trial_database → database_fault text ≡ None
no_database_fault text e = ap database_fault e ∙ sound_database

none_is_some : (o : Option Fault) → None ≡ o → IsSome o → ⊥
none_is_some None e some = let clash : false ≡ true = some in absurd (cc)
none_is_some (Some f) e some = let clash : None ≡ Some f = e in absurd (cc)

-- a text without a fault is not refused
pub not_refused : (f : DbFault) → (f ≡ fault.Memory → ⊥) → IsTold f → IsDbFault f None → ⊥
not_refused f other told is = let s = stands f None other told is in none_is_some (fault_of f) s.is s.has

pub no_fault_told : (text : List ℕ) (f : DbFault) → text ≡ trial_database → IsDbFault f (database_fault text) → IsDbFault f None
no_fault_told text f e is = subst (λ (o : Option Fault). IsDbFault f o) (no_database_fault text e) is

-- ---- the worksheet that was written

late_none : (db : Database) (text : List ℕ) (options : Options) (w : Writing) → Answers db text options (wrote w) → HasNoLateFault db options w
late_none db text options w (written e writes late) = late

pub short_text : (db : Database) (text : List ℕ) (options : Options) (outcome : Outcome) → IsOutcome db text options outcome → length outcome.text ≤ 2 ^ 24
short_text db text options outcome is = elim (cases_lt (2 ^ 24) (length (written_text db options is.writing))) [
  | inl long ↦ absurd (late_none db text options is.writing is.answers 4 _ (LateFault.large long))
  | inr short ↦ subst (λ (t : List ℕ). length t ≤ 2 ^ 24) (sym is.written.text) short
]

counts : {X Y : Type 0} (p : Y → Bool) (f : X → Y) (n : ℕ) (xs : List X) → fold (λ (a : ℕ) (y : Y). a + cond (p y) 1 0) n (map f xs) ≡ fold (λ (a : ℕ) (x : X). a + cond (p (f x)) 1 0) n xs
counts p f n [] = refl
counts p f n (x ∷ xs) = counts p f (n + cond (p (f x)) 1 0) xs

count_by-map : {X Y : Type 0} (p : Y → Bool) (f : X → Y) (xs : List X) → count_by p (map f xs) ≡ count_by (λ x. p (f x)) xs
count_by-map p f xs = counts p f 0 xs

abbrev ending : ℕ → ℕ → ℕ → Bool → Ending
ending steps fits letters finished = record { out = flat_map ended (trial_report steps fits letters finished); log = []; status = status_of finished }

abbrev fits_in : List ReportLine → ℕ
fits_in report = count_by (λ (line : ReportLine). is_fits line.verdict) report

pub tried_written : (blocks : ℕ) (d : opened.Opened) (outcome : Outcome) (end : Ending) → opened.IsOpened trial_options.kinds trial_database d
    → IsOutcome (database_of trial_options.kinds trial_database d.rows d.parsed) (trial_sheet blocks) trial_options outcome → TellsOutcome outcome end → IsTried blocks end
tried_written blocks d outcome end is is_outcome tells =
    let db = database_of trial_options.kinds trial_database d.rows d.parsed in
    let w = is_outcome.writing in
    record {
      db = db;
      is_database = is.database;
      answer = wrote w;
      answers = is_outcome.answers;
      tells =
          tells
          ∙ ap (λ (r : List ReportLine). ending (length r) (fits_in r) (letter_count (proof_line outcome.text)) outcome.finished) is_outcome.written.report
          ∙ ap
          (λ (t : List ℕ). ending (length (written_report db trial_options w)) (fits_in (written_report db trial_options w))
          (letter_count (proof_line t)) outcome.finished) is_outcome.written.text
          ∙ ap
          (λ (b : Bool). ending (length (written_report db trial_options w)) (fits_in (written_report db trial_options w))
          (letter_count (proof_line (written_text db trial_options w))) b) is_outcome.written.finished
          ∙ ap (λ (n : ℕ). ending n (fits_in (written_report db trial_options w)) (letter_count (proof_line (written_text db trial_options w))) w.finished) (length-map (steps_in w.items) _)
          ∙ ap (λ (n : ℕ). ending (length (steps_in w.items)) n (letter_count (proof_line (written_text db trial_options w))) w.finished)
          (count_by-map (λ (line : ReportLine). is_fits line.verdict) _ (steps_in w.items));
    }

pub tried_ok : (blocks : ℕ) (options : Options) (d : opened.Opened) (outcome : Outcome) (end : Result Ending memory.Memory) → options ≡ trial_options
    → opened.IsOpened trial_options.kinds trial_database d
    → IsOutcome (database_of options.kinds trial_database d.rows d.parsed) (trial_sheet blocks) options outcome → IfOk end (TellsOutcome outcome) → IfOk end (IsTried blocks)
tried_ok blocks options d outcome (Err e) same is is_outcome tells = tt
tried_ok blocks options d outcome (Ok end) same is is_outcome tells =
    tried_written blocks d outcome end is
    (subst (λ (o : Options). IsOutcome (database_of o.kinds trial_database d.rows d.parsed) (trial_sheet blocks) o outcome) same is_outcome) tells
