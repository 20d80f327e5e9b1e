-- The answer to a worksheet of which one step is asked about: the assertions that it fits.
use Rattle.std.specs.Prelude.{◌≡◌, ℕ, Bool, true, false, not, ◌&&◌, List, [], ◌∷◌, flat_map, find, Contains, Option, Some, None, codes}
use Rattle.std.specs.List.{list_all}
use Rattle.std.specs.Str.{bytes_eq}
use Rattle.fault_lines.specs.FaultLines.{sheet_error}
use Rattle.fault_lines.specs.Refusals.{Refusal}
use Rattle.mm_base.specs.declared.symbols.Label.{Label}
use Rattle.mm_model.specs.Names.{Name}
use Rattle.mm_model.specs.Book.{Database, label_name}
use Rattle.sheet_text.specs.Layout.{ended}
use Rattle.written_model.specs.declared.options.Options.{Options}
use Rattle.written_model.specs.declared.report.ReportVerdict.TheVariants as report
use Rattle.written_model.specs.Found.{is_ground, is_ground_place}
use Rattle.written_model.specs.Fitting.{AreFitting}
use Rattle.written_model.specs.WrittenSteps.{WrittenStep, steps_in}
use Rattle.written_model.specs.Written.{Writing, Answers, refused, wrote}

-- no hypothesis, no `?`, and no work variable in its formula or those of its places
abbrev pub is_closed : List WrittenStep → WrittenStep → Bool
is_closed es e = not e.hyp && is_ground e.tree && list_all (is_ground_place es) e.places

-- the written step of a name
abbrev pub step_named : Writing → Name → Option WrittenStep
step_named w name = find (λ (e : WrittenStep). bytes_eq e.name name) (steps_in w.items)

-- all labels that fit a step of a written worksheet, whatever its reference is, in the order of the database
abbrev pub AreSelected : Database → Options → Writing → WrittenStep → List Label → Type 0
AreSelected db options w e ls = AreFitting db w.bound.place options.dv w.bound.pairs (steps_in w.items) e ls

-- ---- the answer

-- 82: no written step has the name
abbrev pub no_such_step_line : Name → List ℕ
no_such_step_line name = sheet_error (codes "82" ∷ codes "NoSuchStep" ∷ codes "step" ∷ name ∷ [])

-- 83: the step is a hypothesis, lists a `?`, or has a work variable in its formula or in that of one of its places
abbrev pub step_open_line : Name → List ℕ
step_open_line name = sheet_error (codes "83" ∷ codes "StepOpen" ∷ codes "step" ∷ name ∷ [])

-- the labels, one on each line
abbrev pub selected_text : Database → List Label → List ℕ
selected_text db ls = flat_map (λ l. ended (label_name db l)) ls

-- a refusal of the worksheet; it has no such step; the step is open; or the labels that it fits
pub data SelectAnswer : Type 0 where
  bad_sheet : Refusal → SelectAnswer
  no_such_step : SelectAnswer
  step_open : SelectAnswer
  fits : List Label → SelectAnswer

-- which of them it is, of the step with a name in a worksheet over a database
pub data Selects (db : Database) (options : Options) (sheet : List ℕ) (name : Name) : SelectAnswer → Type 0 where
  refuses : {r : Refusal} → Answers db sheet options (refused r) → Selects db options sheet name (bad_sheet r)
  is_not_there : {w : Writing} → Answers db sheet options (wrote w) → step_named w name ≡ None → Selects db options sheet name no_such_step
  is_open : {w : Writing} {e : WrittenStep} → Answers db sheet options (wrote w) → step_named w name ≡ Some e → is_closed (steps_in w.items) e ≡ false
      → Selects db options sheet name step_open
  selects : {w : Writing} {e : WrittenStep} {ls : List Label} → Answers db sheet options (wrote w) → step_named w name ≡ Some e → is_closed (steps_in w.items) e ≡ true
      → AreSelected db options w e ls → Selects db options sheet name (fits ls)

-- the law: the reference that the search found for a step is the first label that fits it
abbrev pub FoundIsTheFirst : Type 0
FoundIsTheFirst = (db : Database) (options : Options) (sheet : List ℕ) (w : Writing) (e : WrittenStep) (ls : List Label) → Answers db sheet options (wrote w)
    → Contains (steps_in w.items) e → e.verdict ≡ report.Found → AreSelected db options w e ls
    → (l : Label) × (more : List Label) × (ls ≡ l ∷ more) × (e.reference ≡ Some (label_name db l))
