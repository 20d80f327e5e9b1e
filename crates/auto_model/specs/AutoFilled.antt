-- Steps without places, filled with the first assertion and the first earlier steps that serve.
use Rattle.std.specs.Prelude.{◌≡◌, ℕ, zero, suc, Bool, true, false, not, ◌&&◌, List, [], ◌∷◌, map, filter, flat_map, slice_get, is_none, Option, Some, None}
use Rattle.std.specs.List.{range_with_len}
use Rattle.std.specs.Option.{option_map_or}
use Rattle.fault_lines.specs.Refusals.{Refusal}
use Rattle.mm_base.specs.declared.symbols.Label.{Label}
use Rattle.mm_model.specs.Statements.{is_empty}
use Rattle.mm_model.specs.Book.{Database, label_name}
use Rattle.sheet_text.specs.declared.sheet.Given.TheVariants as given
use Rattle.sheet_text.specs.declared.sheet.Sheet.{Sheet}
use Rattle.sheet_text.specs.Layout.{layout}
use Rattle.solve_model.specs.Firsts.{IsFirstOrNone}
use Rattle.written_model.specs.declared.options.Options.{Options}
use Rattle.written_model.specs.Fitting.{all_labels}
use Rattle.written_model.specs.Found.{Choice, FitsUse, Fits, is_ground}
use Rattle.written_model.specs.WrittenSteps.{Use, WrittenStep, WrittenItem, comment, step, steps_in}
use Rattle.written_model.specs.Opened.{IsOpened}
use Rattle.written_model.specs.Written.{Writing, Answer, Answers, refused, wrote, written_item, written_sheet, written_text}
use Rattle.auto_model.specs.declared.auto.Auto.{Auto}

-- no hypothesis, no place, and no work variable
abbrev pub is_unfilled : WrittenStep → Bool
is_unfilled e = not e.hyp && is_empty e.places && is_ground e.tree

-- the number names a step without a work variable
abbrev pub is_ground_number : List WrittenStep → ℕ → Bool
is_ground_number es k = option_map_or (λ (e : WrittenStep). is_ground e.tree) (slice_get es k) false

-- the earlier steps of step number k that it may take
abbrev pub earlier_steps : List WrittenStep → ℕ → List ℕ
earlier_steps es k = filter (is_ground_number es) (range_with_len 0 k)

-- so many elements of a list in turn, each as often as one likes, in lexicographic order of their positions
abbrev pub tuples : {X : Type 0} → ℕ → List X → List (List X)
tuples zero xs = [] ∷ []
tuples (suc n) xs = flat_map (λ x. map (λ more. x ∷ more) (tuples n xs)) xs

-- one to three steps
abbrev pub step_tuples : List ℕ → List (List ℕ)
step_tuples earlier = flat_map (λ n. tuples n earlier) (1 ∷ 2 ∷ 3 ∷ [])

abbrev pub choice_of : Label → List ℕ → Choice
choice_of l ks = record { label = l; places = map (λ k. given.Step k) ks }

-- all labels in the order of the database, each with all tuples; of these only those of as many steps as it has `$e` can serve
abbrev pub auto_choices : Database → List ℕ → List Choice
auto_choices db earlier = flat_map (λ l. map (choice_of l) (step_tuples earlier)) (all_labels db)

-- the first assertion that serves step number k, with the first tuple, or none
abbrev pub IsAutoChoice : Database → Options → Writing → ℕ → WrittenStep → Option Choice → Type 0
IsAutoChoice db options w k e o =
    IsFirstOrNone (Fits db w.bound.place options.dv w.bound.pairs (steps_in w.items) e) (auto_choices db (earlier_steps (steps_in w.items) k)) o

-- ---- the worksheet with its steps filled

-- a step without a reference gets the first assertion that serves, where one does; any other step stays
pub data IsFilled (db : Database) (options : Options) (w : Writing) (k : ℕ) (e : WrittenStep) : WrittenStep → Type 0 where
  stays : (is_none e.reference && is_unfilled e) ≡ false → IsFilled db options w k e e
  none : (is_none e.reference && is_unfilled e) ≡ true → IsAutoChoice db options w k e None → IsFilled db options w k e e
  filled : (c : Choice) → (is_none e.reference && is_unfilled e) ≡ true → IsAutoChoice db options w k e (Some c)
      → IsFilled db options w k e (record e { reference = Some (label_name db c.label); places = c.places })

-- the items from step number k on
abbrev pub AreFilledFrom : Database → Options → Writing → ℕ → List WrittenItem → List WrittenItem → Type 0
AreFilledFrom db options w k [] behind = behind ≡ []
AreFilledFrom db options w k (comment lines ∷ items) behind = (more : List WrittenItem) × (behind ≡ comment lines ∷ more) × AreFilledFrom db options w k items more
AreFilledFrom db options w k (step e ∷ items) behind =
    (f : WrittenStep) × (more : List WrittenItem) × (behind ≡ step f ∷ more) × IsFilled db options w k e f × AreFilledFrom db options w (suc k) items more

-- the written worksheet with these items
abbrev pub filled_sheet : Database → Options → Writing → List WrittenItem → Sheet
filled_sheet db options w items = record (written_sheet db options w) { items = map (written_item db) items }

-- the answer to a worksheet whose steps are filled: the first fault of it, or the answer to what it becomes with them,
-- without a proof
pub data AutoAnswers (db : Database) (text : List ℕ) (options : Options) : Answer → Type 0 where
  bad_text : {r : Refusal} → Answers db text options (refused r) → AutoAnswers db text options (refused r)
  again : {w : Writing} (items : List WrittenItem) {answer : Answer} → Answers db text options (wrote w) → AreFilledFrom db options w 0 w.items items
      → Answers db (layout (filled_sheet db options w items) None) options answer → AutoAnswers db text options answer

-- the law: what was filled over the database of a text without a fault is filled again as it is
abbrev pub FillingAgainChangesNothing : Type 0
FillingAgainChangesNothing = (db : Database) (options : Options) (text : List ℕ) (w : Writing) → IsOpened options.kinds db → AutoAnswers db text options (wrote w)
    → (v : Writing) × AutoAnswers db (written_text db options w) options (wrote v) × (written_text db options v ≡ written_text db options w)

-- ---- what the function that fills one step gives

-- the assertion, the tuple, and the values of its variables in their one use
pub record IsAuto (db : Database) (options : Options) (w : Writing) (k : ℕ) (e : WrittenStep) (a : Auto) : Type 0 where
  pub first : IsAutoChoice db options w k e (Some (choice_of a.label a.places))
  pub by : Use
  pub fits : FitsUse db w.bound.place options.dv w.bound.pairs (steps_in w.items) e (choice_of a.label a.places) by
  pub trees : a.trees ≡ by.values
