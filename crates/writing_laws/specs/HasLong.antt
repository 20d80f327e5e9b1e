-- The first formula that is too long, by the front of a worksheet.
use Rattle.std.specs.Prelude.{◌≡◌, ◌++◌, ◌⊎◌, Contains, ℕ, suc, List, [], ◌∷◌, length, map, fold, slice_get, slice_index_or, Some, None}
use Rattle.std.specs.List.{AllByRecursion}
use Rattle.mm_base.specs.declared.tree.Tree.{Tree}
use Rattle.mm_model.specs.Names.{Name}
use Rattle.mm_model.specs.Book.{Database}
use Rattle.sheet_text.specs.declared.sheet.Sheet.{Sheet}
use Rattle.sheet_text.specs.declared.sheet.SheetItem.{SheetItem}
use Rattle.sheet_text.specs.declared.sheet.SheetItem.TheVariants as item
use Rattle.sheet_text.specs.declared.sheet.SheetStep.{SheetStep}
use Rattle.sheet_text.specs.Layout.{step_names}
use Rattle.sheet_text.specs.TextFaults.{text_fault}
use Rattle.solve_model.specs.declared.bound.Bound.{Bound}
use Rattle.solve_model.specs.declared.verdict.Verdict.TheVariants as verdict
use Rattle.solve_model.specs.Firsts.{IsFirstIn}
use Rattle.solve_model.specs.Solutions.{Valuation, formula}
use Rattle.solve_model.specs.Verdicts.{Judgement, stands}
use Rattle.written_model.specs.declared.options.Options.{Options}
use Rattle.written_model.specs.Opened.{IsOpened}
use Rattle.written_model.specs.WrittenSteps.{WrittenStep, steps_in, trees}
use Rattle.written_model.specs.Filled.{Filling, new_trees, derived_names, wanted_by, fill_item, filled_items}
use Rattle.fault_lines.specs.Refusals.{formula_too_long, told_number}
use Rattle.written_model.specs.Written.{Writing, Writes, refused, IsLate, IsTooLong, Answers, after_filling}
use Rattle.writing_laws.specs.HasWriting.{IsSolved}
use Rattle.writing_laws.specs.TokenCounts.{formula_count, IsLong}

abbrev pub AreShort : Database → List Tree → Type 0
AreShort db ts = AllByRecursion (λ t. IsLong db t → ⊥) ts

-- the step's formula is too long
abbrev pub IsLongStep : Database → WrittenStep → Type 0
IsLongStep db e = IsLong db e.tree

module _ (db : Database) (names : List Name) (bound : Bound) (g : Valuation) (judgements : List Judgement) where
  -- what a front of the worksheet is filled to
  abbrev pub filled_front : List SheetItem → Filling
  filled_front front = fold (fill_item names bound g judgements) (record { items = []; numbers = [] }) front

  -- the number of the next step, and its judgement
  abbrev pub next_number : List SheetItem → ℕ
  next_number front = length (filled_front front).numbers

  abbrev pub next_judgement : List SheetItem → Judgement
  next_judgement front = slice_index_or judgements (next_number front) (stands verdict.NoRef)

  abbrev pub next_wanted : List SheetItem → List Tree
  next_wanted front = wanted_by g (next_judgement front)

  abbrev pub front_trees : List SheetItem → List Tree
  front_trees front = trees (steps_in (filled_front front).items)

  -- the names that a new step may not take
  abbrev pub used_names : List SheetItem → List Name
  used_names front = names ++ map (λ (e : WrittenStep). e.name) (steps_in (filled_front front).items)

  -- behind a front, the first formula that is too long is the next step's own, or one that is wanted for it: that is no
  -- earlier one, and stands as a new step with the next derived name
  pub data IsFirstLong (front : List SheetItem) (s : SheetStep) : Name → Tree → Type 0 where
    own : AreShort db (next_wanted front) → IsLong db (formula bound g (next_number front)) → IsFirstLong front s s.name (formula bound g (next_number front))
    wanted : (before : List Tree) (t : Tree) (more : List Tree) (name : Name) → next_wanted front ≡ before ++ t ∷ more → AreShort db before → IsLong db t
        → slice_get (derived_names (suc (length (new_trees (front_trees front) before))) (used_names front)) (length (new_trees (front_trees front) before)) ≡ Some name
        → IsFirstLong front s name t

-- a tree that is too long is a new one behind trees that are not
abbrev pub LongIsNew : Database → Type 0
LongIsNew db = (earlier before : List Tree) (t : Tree) (more : List Tree) → AreShort db earlier → AreShort db before → IsLong db t
    → (rest : List Tree) × (new_trees earlier (before ++ t ∷ more) ≡ new_trees earlier before ++ t ∷ rest)

-- a front grows: a comment adds no formula; and of the next step a formula is too long, or none is of the longer front
pub record GrowsShort (db : Database) (names : List Name) (bound : Bound) (g : Valuation) (judgements : List Judgement) : Type 0 where
  pub comment : (front : List SheetItem) (lines : List Name) → AreShort db (front_trees db names bound g judgements front)
      → AreShort db (front_trees db names bound g judgements (front ++ item.Comment lines ∷ []))
  pub step : (front : List SheetItem) (s : SheetStep) → AreShort db (front_trees db names bound g judgements front)
      → AreShort db (next_wanted db names bound g judgements front) → (IsLong db (formula bound g (next_number db names bound g judgements front)) → ⊥)
      → AreShort db (front_trees db names bound g judgements (front ++ item.Step s ∷ []))
  pub told : (front : List SheetItem) (s : SheetStep) → AreShort db (front_trees db names bound g judgements front)
      → ((name : Name) × (t : Tree) × IsFirstLong db names bound g judgements front s name t) ⊎ AreShort db (front_trees db names bound g judgements (front ++ item.Step s ∷ []))

abbrev pub IsFrontOf : {X : Type 0} → List X → List X → Type 0
IsFrontOf {X} xs ys = (more : List X) × (ys ≡ xs ++ more)

-- what is filled of a front of a worksheet is a front of what is filled
abbrev pub FrontStays : Type 0
FrontStays = (names : List Name) (bound : Bound) (g : Valuation) (judgements : List Judgement) (front rest : List SheetItem)
    → IsFrontOf (filled_items names bound g judgements front) (filled_items names bound g judgements (front ++ rest))

module _ (db : Database) (options : Options) (w : Writing) where
  -- the first filled step that is too long is the first written one, with the same name and as many tokens
  abbrev pub FilledIsLate : Type 0
  FilledIsLate = (text : List ℕ) (d : WrittenStep) → Writes db text options w → IsFirstIn (IsLongStep db) (steps_in (after_filling db options w)) d
      → IsLate db options w (formula_too_long d.name (told_number (formula_count db d.tree)))

  abbrev pub IsLongBehind : List SheetItem → SheetStep → Name → Tree → Type 0
  IsLongBehind front s name t = AreShort db (front_trees db (step_names w.read) w.bound w.value w.judgements front) × IsFirstLong db (step_names w.read) w.bound w.value w.judgements front s name t

  -- it is known by the front of the worksheet
  abbrev pub FrontIsLate : Type 0
  FrontIsLate = (text : List ℕ) (front rest : List SheetItem) (s : SheetStep) (name : Name) (t : Tree) → Writes db text options w → w.read.items ≡ front ++ item.Step s ∷ rest
      → IsLongBehind front s name t → IsLate db options w (formula_too_long name (told_number (formula_count db t)))

  -- where no filled formula is too long, no written one is
  abbrev pub ShortIsNotLate : Type 0
  ShortIsNotLate = (text : List ℕ) → Writes db text options w → AreShort db (trees (steps_in (after_filling db options w)))
      → (e : WrittenStep) → Contains (steps_in w.items) e → IsTooLong db options w e → ⊥

-- a worksheet that was read, judged and solved, in whose front a formula is too long, has that as its answer
abbrev pub LongIsAnswered : Type 0
LongIsAnswered = (db : Database) (text : List ℕ) (options : Options) (read : Sheet) (bound : Bound) (judgements : List Judgement) (value : Valuation)
    (front rest : List SheetItem) (s : SheetStep) (name : Name) (t : Tree)
    → IsOpened options.kinds db → text_fault text ≡ None → IsSolved db text read bound judgements value
    → read.items ≡ front ++ item.Step s ∷ rest
    → AreShort db (front_trees db (step_names read) bound value judgements front) → IsFirstLong db (step_names read) bound value judgements front s name t
    → Answers db text options (refused (formula_too_long name (told_number (formula_count db t))))
