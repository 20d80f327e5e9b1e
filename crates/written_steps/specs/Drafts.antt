-- The steps of a draft, as the definitions have them.
use Rattle.std.specs.Prelude.{◌≡◌, ℕ, List, length, map, filter_map, option_map, option_and_then, Option, Some, None}
use Rattle.std.specs.List.{AllByRecursion}
use Rattle.std.specs.Option.{ForSome}
use Rattle.std.specs.Borrow.{Bor}
use Rattle.mm_base.specs.declared.kinds.Kinds.{Kinds}
use Rattle.mm_base.specs.declared.symbols.Label.{Label}
use Rattle.mm_model.specs.Book.{Database, Assertion}
use Rattle.mm_frames.specs.Contents.{frame_at}
use Rattle.mm_database.specs.Books.{usable_with, database_of}
use Rattle.mm_database.specs.Opened.{Opened, IsOpened}
use Rattle.written_model.specs.WrittenSteps.{Use, WrittenStep, WrittenItem, comment, step}
use Rattle.written_steps.specs.declared.draft.StepUse.{StepUse}
use Rattle.written_steps.specs.declared.draft.DraftStep.{DraftStep}
use Rattle.written_steps.specs.declared.draft.DraftItem.{DraftItem}
use Rattle.written_steps.specs.declared.draft.DraftItem.TheVariants as draft

-- the database of the definitions that was opened from a text
abbrev pub book : Kinds → List ℕ → Opened → Database
book kinds text d = database_of kinds text d.rows d.parsed

-- a fact of each text from which a database is opened
abbrev pub ForEachText : Opened → Type 0 → Type 0
ForEachText d P = (kinds : Kinds) (text : List ℕ) → IsOpened kinds text d → P

-- the usable assertion of a label, by what is kept of it
abbrev pub usable_in : Opened → Label → Option Assertion
usable_in d l = usable_with d.parsed l (frame_at d.contents l)

-- the assertion with the values of its variables
abbrev pub use_in : Opened → StepUse → Option Use
use_in d u = option_map (λ (a : Assertion). record { assertion = a; values = u.values }) (usable_in d u.label)

abbrev pub step_in : Opened → DraftStep → WrittenStep
step_in d s = record {
  hyp = s.hyp;
  name = s.name;
  places = s.places;
  reference = s.reference;
  tree = s.tree;
  verdict = s.verdict;
  by = option_and_then (use_in d) s.by;
}

abbrev pub item_in : Opened → DraftItem → WrittenItem
item_in d (draft.Comment lines) = comment lines
item_in d (draft.Step s) = step (step_in d s)

abbrev pub items_in : Opened → List DraftItem → List WrittenItem
items_in d items = map (item_in d) items

-- ---- drafts that are sound

-- the label is that of a usable assertion, and each of its variables has a value
pub record IsSoundUse (d : Opened) (u : StepUse) : Type 0 where
  pub assertion : Assertion
  pub is_usable : usable_in d u.label ≡ Some assertion
  pub count : length u.values ≡ length assertion.vars

abbrev pub IsSoundStep : Opened → DraftStep → Type 0
IsSoundStep d s = ForSome s.by (IsSoundUse d)

abbrev pub IsSoundItem : Opened → DraftItem → Type 0
IsSoundItem d (draft.Comment lines) = Unit {0}
IsSoundItem d (draft.Step s) = IsSoundStep d s

abbrev pub AreSound : Opened → List DraftItem → Type 0
AreSound d items = AllByRecursion (IsSoundItem d) items

-- the steps among items, in order
abbrev pub step_of : DraftItem → Option DraftStep
step_of (draft.Comment lines) = None
step_of (draft.Step s) = Some s

abbrev pub drafts_in : List DraftItem → List DraftStep
drafts_in items = filter_map step_of items

-- what references stand for
abbrev pub refs : List (Bor DraftStep) → List DraftStep
refs steps = map (λ (s : Bor DraftStep). s.now) steps
