-- Marks of the steps below `qed`, and whether a marked step is done. This is part of the proof, and not of the claim.
use Rattle.std.specs.Prelude.{◌≡◌, ◌<◌, ◌⊎◌, ◌↔◌, ℕ, IsTrue, Bool, true, false, not, ◌&&◌, ◌||◌, List, length, fold, slice_get, slice_set}
use Rattle.std.specs.Prelude.{slice_index_or, if◌then◌else◌, Option, Some, codes}
use Rattle.mm_base.specs.declared.symbols.Pair.{Pair}
use Rattle.mm_model.specs.Names.{Name}
use Rattle.sheet_text.specs.declared.sheet.Given.{Given}
use Rattle.sheet_text.specs.declared.sheet.Given.TheVariants as given
use Rattle.written_model.specs.declared.options.DvMode.{DvMode}
use Rattle.written_model.specs.Found.{is_ground}
use Rattle.written_model.specs.ProofTrees.{Below, is_complete}
use Rattle.written_model.specs.WrittenSteps.{Use, WrittenStep}
use Rattle.written_model.specs.Report.{step_clash, step_lack}
use Rattle.written_model.specs.declared.report.ReportLine.{ReportLine}

-- the mark of the step that a place names; one past the last stays unmarked
abbrev pub mark_place : List Bool → Given → List Bool
mark_place marks given.Gap = marks
mark_place marks (given.Step k) = slice_set marks k true

abbrev pub mark_places : List Bool → List Given → List Bool
mark_places marks places = fold mark_place marks places

-- with its places where it is reached; else the marks stay
abbrev pub mark_step : Bool → List Bool → ℕ → List Given → List Bool
mark_step reached marks n places = if reached then mark_places (slice_set marks n true) places else marks

-- a step that is marked or is `qed`
abbrev pub IsReached : List Bool → ℕ → Name → Type 0
IsReached marks n name = (slice_index_or marks n false ≡ true) ⊎ (name ≡ codes "qed")

-- it is marked with its places; else the marks stay
pub record IsStepMarked (old : List Bool) (n : ℕ) (name : Name) (places : List Given) (new : List Bool) : Type 0 where
  pub reached : Bool
  pub is_reached : IsTrue reached ↔ IsReached old n name
  pub new_is : new ≡ mark_step reached old n places

-- just the steps are marked that are `qed` or are listed on the way to it
pub record AreMarked (es : List WrittenStep) (marks : List Bool) : Type 0 where
  pub count : length marks ≡ length es
  pub sound : (i : ℕ) → slice_get marks i ≡ Some true → Below es i
  pub whole : (i : ℕ) → Below es i → slice_get marks i ≡ Some true

-- the step does not keep its worksheet from being finished
abbrev pub is_done : DvMode → List Pair → Bool → WrittenStep → Bool
is_done mode allowed is_below e = if is_below then is_ground e.tree && is_complete mode allowed e else (not e.hyp || is_ground e.tree)

-- so the step of a number, and those below a number
abbrev pub IsDoneAt : DvMode → List Pair → List WrittenStep → List Bool → ℕ → Type 0
IsDoneAt mode allowed es marks i = (e : WrittenStep) → slice_get es i ≡ Some e → is_done mode allowed (slice_index_or marks i false) e ≡ true

pub record AreDone (mode : DvMode) (allowed : List Pair) (es : List WrittenStep) (marks : List Bool) (n : ℕ) : Type 0 where
  pub each : (i : ℕ) → i < n → IsDoneAt mode allowed es marks i

-- the clash and the lack of a line are those of a use
pub record IsToldOf (mode : DvMode) (allowed : List Pair) (o : Option Use) (line : ReportLine) : Type 0 where
  pub clash : line.clash ≡ step_clash o
  pub lack : line.lack ≡ step_lack mode allowed o
