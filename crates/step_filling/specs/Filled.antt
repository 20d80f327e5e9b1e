-- What becomes of the items of a worksheet, as the code reads it off a chain.
use Rattle.std.specs.Prelude.{◌≡◌, ℕ, suc, ◌+◌, ◌++◌, List, ◌∷◌, length, map, fold, filter_map, slice_get, slice_index_or, Some, None, Result, Ok, Err}
use Rattle.mm_base.specs.declared.symbols.Label.{Label}
use Rattle.mm_base.specs.declared.tree.Tree.{Tree}
use Rattle.mm_model.specs.Names.{Name}
use Rattle.sheet_text.specs.declared.sheet.SheetItem.{SheetItem}
use Rattle.sheet_text.specs.declared.sheet.SheetItem.TheVariants as item
use Rattle.sheet_text.specs.declared.sheet.SheetStep.{SheetStep}
use Rattle.sheet_text.specs.Layout.{step_of_item}
use Rattle.solve_model.specs.declared.verdict.Verdict.{Verdict}
use Rattle.solve_model.specs.declared.verdict.Verdict.TheVariants as verdict
use Rattle.solve_model.specs.Solutions.{Asked, formula}
use Rattle.solve_model.specs.Verdicts.{Judgement, stands}
use Rattle.written_model.specs.WrittenSteps.{WrittenStep, steps_in, trees}
use Rattle.sheet_text.specs.declared.sheet.Given.{Given}
use Rattle.sheet_text.specs.declared.sheet.Given.TheVariants as given
use Rattle.written_model.specs.declared.report.ReportVerdict.TheVariants as report
use Rattle.written_model.specs.Filled.{Filling, new_trees, derived_names, wanted_by, written_place, reported, fill, fill_item}
use Rattle.hyp_derive.specs.Naming.{HaveSameNames}
use Rattle.written_steps.specs.declared.draft.DraftStep.{DraftStep}
use Rattle.step_chain.specs.declared.judged.Accepted.{Accepted}
use Rattle.step_chain.specs.Ordered.{reordered}
use Rattle.step_chain.specs.Steps.{step_at}
use Rattle.step_chain.specs.Held.{Held, judgements_of, OfEachBook}
use Rattle.step_chain.specs.Values.{value_of}
use Rattle.step_chain.specs.Answers.{IsShort, constants_of, values_of, OfAccepted, OfKept, IsAcceptedAs}
use Rattle.step_filling.specs.declared.fault.FillFault.{FillFault}
use Rattle.step_filling.specs.declared.fault.FillFault.TheVariants as fault
use Rattle.step_filling.specs.Kept.{Kept, draft_of, filling_in, IsInStep, AreMade, IsOwnPut}
use Rattle.step_filling.specs.Wanted.{AreShort, IsTooLong}

-- the formula of the step of this name was read, unless it is too long
abbrev pub IsOwnRead : (Label → ℕ) → Name → Tree → Result Tree FillFault → Type 0
IsOwnRead constants name t (Ok u) = (u ≡ t) × IsShort constants t
IsOwnRead constants name t (Err (fault.TooLong m n)) = (m ≡ name) × IsTooLong constants t n
IsOwnRead constants name t (Err fault.LongValue) = ⊥
IsOwnRead constants name t (Err fault.Memory) = Unit {0}

abbrev pub formula_of : Held → ℕ → Tree
formula_of h i = formula h.bound (value_of h) i

module _ (h : Held) (f : Filling) where
  -- the number of the next step, its judgement, and what is wanted for it
  abbrev pub next_number : ℕ
  next_number = length f.numbers

  abbrev pub next_judgement : Judgement
  next_judgement = slice_index_or (judgements_of h) next_number (stands verdict.NoRef)

  abbrev pub next_wanted : List Tree
  next_wanted = wanted_by (value_of h) next_judgement

  abbrev pub new_before : List Tree → ℕ
  new_before before = length (new_trees (trees (steps_in f.items)) before)

  abbrev pub used_names : List Name → List Name
  used_names used = used ++ map (λ (e : WrittenStep). e.name) (steps_in f.items)

  -- of the next step the first formula that is too long has so many tokens and stands with this name
  pub data IsLongNext (used : List Name) (s : SheetStep) : Name → ℕ → Type 0 where
    own : (n : ℕ) → AreShort (constants_of h) next_wanted → IsTooLong (constants_of h) (formula_of h next_number) n → IsLongNext used s s.name n
    wanted : (before : List Tree) (t : Tree) (more : List Tree) (name : Name) (n : ℕ) → next_wanted ≡ before ++ t ∷ more → AreShort (constants_of h) before → IsTooLong (constants_of h) t n
        → slice_get (derived_names (suc (new_before before)) (used_names used)) (new_before before) ≡ Some name → IsLongNext used s name n

  -- no formula of the next step is too long, but a value of it is
  pub record IsLongValueNext : Type 0 where
    pub wanted : AreShort (constants_of h) next_wanted
    pub own : IsShort (constants_of h) (formula_of h next_number)
    pub long : (y : Asked) × IsAcceptedAs h next_number y × (AreShort (constants_of h) (values_of h next_number y) → ⊥)

-- an item is put in, where the worksheet's steps have some names
pub record IsPutWith (h : Held) (old new : Kept) (i : SheetItem) (used : List Name) : Type 0 where
  pub in_step : IsInStep h.book used new
  pub filled : OfEachBook h (λ db. filling_in h.book new ≡ fill_item used h.bound (value_of h) (judgements_of h) (filling_in h.book old) i)

abbrev pub step_count : SheetItem → ℕ
step_count (item.Comment lines) = 0
step_count (item.Step s) = 1

pub record IsPut (h : Held) (old new : Kept) (i : SheetItem) : Type 0 where
  pub count : length new.numbers ≡ length old.numbers + step_count i
  pub with_names : (used : List Name) → IsInStep h.book used old → IsPutWith h old new i used
  pub short : OfEachBook h (λ db. AreShort (constants_of h) old.trees → AreShort (constants_of h) new.trees)

-- why the next step is not put in
abbrev pub IsNextFault : Held → Kept → SheetStep → FillFault → Type 0
IsNextFault h k s (fault.TooLong name n) = (used : List Name) → IsInStep h.book used k → OfEachBook h (λ db. IsLongNext h (filling_in h.book k) used s name n)
IsNextFault h k s fault.LongValue = OfEachBook h (λ db. IsLongValueNext h (filling_in h.book k))
IsNextFault h k s fault.Memory = Unit {0}

-- the values were read, unless one of them is too long
abbrev pub AreValuesRead : (Label → ℕ) → List Tree → Result (List Tree) FillFault → Type 0
AreValuesRead constants ts (Ok us) = us ≡ ts
AreValuesRead constants ts (Err (fault.TooLong name n)) = ⊥
AreValuesRead constants ts (Err fault.LongValue) = AreShort constants ts → ⊥
AreValuesRead constants ts (Err fault.Memory) = Unit {0}

abbrev pub accepted_places : Held → ℕ → List ℕ → List ℕ → List ℕ → List Given
accepted_places h i numbers order more = map (written_place numbers) (reordered (step_at h.bound i).places order) ++ map (λ k. given.Step k) more

-- an accepted step as it is written
pub record IsOwnAccepted (h : Held) (i : ℕ) (numbers : List ℕ) (s : SheetStep) (x : Accepted) (more : List ℕ) (own : DraftStep) : Type 0 where
  pub tree : Tree
  pub values : List Tree
  pub is : own ≡ draft_of s (accepted_places h i numbers x.order more) tree report.Fits (Some (record { label = x.label; values = values }))
  pub tree_is : OfEachBook h (λ db. (tree ≡ formula_of h i) × IsShort (constants_of h) (formula_of h i))
  pub values_are : OfAccepted h i (λ y. values ≡ values_of h i y)
  pub count : length values ≡ length x.variables

-- an accepted step of this formula, with these places
pub record IsUsedStep (h : Held) (i : ℕ) (s : SheetStep) (label : Label) (places : List Given) (tree : Tree) (own : DraftStep) : Type 0 where
  pub values : List Tree
  pub is : own ≡ draft_of s places tree report.Fits (Some (record { label = label; values = values }))
  pub values_are : OfAccepted h i (λ y. values ≡ values_of h i y)
  pub count : OfKept h i (λ x. length values ≡ length x.variables)

-- why the values are not put in
abbrev pub IsUseFault : Held → ℕ → FillFault → Type 0
IsUseFault h i (fault.TooLong m n) = ⊥
IsUseFault h i fault.LongValue = OfAccepted h i (λ y. AreShort (constants_of h) (values_of h i y) → ⊥)
IsUseFault h i fault.Memory = Unit {0}

-- the formula is too long; or it is not, and a value is
abbrev pub IsOwnFault : Held → ℕ → Name → FillFault → Type 0
IsOwnFault h i name (fault.TooLong m n) = OfEachBook h (λ db. (m ≡ name) × IsTooLong (constants_of h) (formula_of h i) n)
IsOwnFault h i name fault.LongValue = OfAccepted h i (λ y. IsShort (constants_of h) (formula_of h i) × (AreShort (constants_of h) (values_of h i y) → ⊥))
IsOwnFault h i name fault.Memory = Unit {0}

-- the name of the new step that would stand for a tree behind these
abbrev pub IsLongNamed : Kept → List Tree → ℕ → FillFault → Type 0
IsLongNamed k before n (fault.TooLong name m) = (m ≡ n) × ((used : List Name) → HaveSameNames k.names used
    → slice_get (derived_names (suc (length (new_trees k.trees before))) used) (length (new_trees k.trees before)) ≡ Some name)
IsLongNamed k before n fault.LongValue = ⊥
IsLongNamed k before n fault.Memory = Unit {0}

-- new steps are put in, and the step behind them
pub record IsFilledPut (old new : Kept) (made : List Tree) (own : DraftStep) : Type 0 where
  pub mid : Kept
  pub are_made : AreMade old mid made
  pub own_put : IsOwnPut mid new own

-- an accepted step for which these trees are wanted is put in, behind the new steps that it needs
pub record IsWantedPut (h : Held) (i : ℕ) (s : SheetStep) (x : Accepted) (wanted : List Tree) (old new : Kept) : Type 0 where
  pub own : DraftStep
  pub accepted : IsOwnAccepted h i old.numbers s x (fill old.trees wanted).places own
  pub put : IsFilledPut old new (fill old.trees wanted).made own

-- a step that is not accepted is put in
pub record IsStandingPut (s : SheetStep) (tree : Tree) (v : Verdict) (old new : Kept) : Type 0 where
  pub own : DraftStep
  pub is : own ≡ draft_of s (map (written_place old.numbers) s.places) tree (reported v) None
  pub put : IsOwnPut old new own

-- ---- several items

abbrev pub filled_behind : Held → List Name → Filling → List SheetItem → Filling
filled_behind h used f items = fold (fill_item used h.bound (value_of h) (judgements_of h)) f items

pub record ArePutWith (h : Held) (old new : Kept) (items : List SheetItem) (used : List Name) : Type 0 where
  pub in_step : IsInStep h.book used new
  pub filled : OfEachBook h (λ db. filling_in h.book new ≡ filled_behind h used (filling_in h.book old) items)

pub record ArePut (h : Held) (old new : Kept) (items : List SheetItem) : Type 0 where
  pub count : length new.numbers ≡ length old.numbers + length (filter_map step_of_item items)
  pub with_names : (used : List Name) → IsInStep h.book used old → ArePutWith h old new items used
  pub short : OfEachBook h (λ db. AreShort (constants_of h) old.trees → AreShort (constants_of h) new.trees)

-- behind a front of the items, of which no formula is too long, the next step's first formula that is too long
pub record IsLongAmong (h : Held) (old : Kept) (items : List SheetItem) (name : Name) (n : ℕ) : Type 0 where
  pub front : List SheetItem
  pub step : SheetStep
  pub rest : List SheetItem
  pub items_are : items ≡ front ++ item.Step step ∷ rest
  pub long : (used : List Name) → IsInStep h.book used old → OfEachBook h (λ db. AreShort (constants_of h) old.trees
      → AreShort (constants_of h) (trees (steps_in (filled_behind h used (filling_in h.book old) front).items)) × IsLongNext h (filled_behind h used (filling_in h.book old) front) used step name n)

-- behind a front of the items, of which no formula is too long, nor of the next step, a value of that step that is too long
pub record IsLongValueAmong (h : Held) (old : Kept) (items : List SheetItem) : Type 0 where
  pub front : List SheetItem
  pub step : SheetStep
  pub rest : List SheetItem
  pub items_are : items ≡ front ++ item.Step step ∷ rest
  pub long : (used : List Name) → IsInStep h.book used old → OfEachBook h (λ db. AreShort (constants_of h) old.trees
      → AreShort (constants_of h) (trees (steps_in (filled_behind h used (filling_in h.book old) front).items)) × IsLongValueNext h (filled_behind h used (filling_in h.book old) front))

abbrev pub IsFaultAmong : Held → Kept → List SheetItem → FillFault → Type 0
IsFaultAmong h k items (fault.TooLong name n) = IsLongAmong h k items name n
IsFaultAmong h k items fault.LongValue = IsLongValueAmong h k items
IsFaultAmong h k items fault.Memory = Unit {0}

-- why an item is not put in
abbrev pub IsMemory : FillFault → Type 0
IsMemory (fault.TooLong name n) = ⊥
IsMemory fault.LongValue = ⊥
IsMemory fault.Memory = Unit {0}

abbrev pub IsItemFault : Held → Kept → SheetItem → FillFault → Type 0
IsItemFault h k (item.Comment lines) e = IsMemory e
IsItemFault h k (item.Step s) e = IsNextFault h k s e

-- no fault of a formula
abbrev pub IsValueFault : FillFault → Type 0
IsValueFault (fault.TooLong name n) = ⊥
IsValueFault fault.LongValue = Unit {0}
IsValueFault fault.Memory = Unit {0}
