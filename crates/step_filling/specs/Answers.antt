-- What is answered of a worksheet whose steps are all judged.
use Rattle.std.specs.Prelude.{◌≡◌, ℕ, ◌++◌, List, ◌∷◌}
use Rattle.mm_model.specs.Names.{Name}
use Rattle.sheet_text.specs.declared.sheet.Sheet.{Sheet}
use Rattle.sheet_text.specs.declared.sheet.SheetItem.{SheetItem}
use Rattle.sheet_text.specs.declared.sheet.SheetItem.TheVariants as item
use Rattle.sheet_text.specs.declared.sheet.SheetStep.{SheetStep}
use Rattle.sheet_text.specs.Layout.{step_names}
use Rattle.written_model.specs.WrittenSteps.{steps_in, trees}
use Rattle.written_model.specs.Filled.{filled_items}
use Rattle.written_steps.specs.declared.draft.DraftItem.{DraftItem}
use Rattle.written_steps.specs.Drafts.{items_in, AreSound}
use Rattle.writing_laws.specs.HasLong.{filled_front}
use Rattle.step_chain.specs.Held.{Held, judgements_of, OfEachBook}
use Rattle.step_chain.specs.Values.{value_of}
use Rattle.step_chain.specs.Answers.{constants_of}
use Rattle.step_filling.specs.declared.fault.FillFault.{FillFault}
use Rattle.step_filling.specs.declared.fault.FillFault.TheVariants as fault
use Rattle.step_filling.specs.Wanted.{AreShort}
use Rattle.step_filling.specs.Filled.{IsLongNext, IsLongValueNext}

-- the items are those of the definitions
pub record AreFilled (h : Held) (sheet : Sheet) (items : List DraftItem) : Type 0 where
  pub sound : AreSound h.book items
  pub filled : OfEachBook h (λ db. items_in h.book items ≡ filled_items (step_names sheet) h.bound (value_of h) (judgements_of h) sheet.items)
  pub short : OfEachBook h (λ db. AreShort (constants_of h) (trees (steps_in (items_in h.book items))))

pub record IsLong (h : Held) (sheet : Sheet) (name : Name) (n : ℕ) : Type 0 where
  pub front : List SheetItem
  pub step : SheetStep
  pub rest : List SheetItem
  pub items_are : sheet.items ≡ front ++ item.Step step ∷ rest
  pub short : OfEachBook h (λ db. AreShort (constants_of h) (trees (steps_in (filled_front db (step_names sheet) h.bound (value_of h) (judgements_of h) front).items)))
  pub long : OfEachBook h (λ db. IsLongNext h (filled_front db (step_names sheet) h.bound (value_of h) (judgements_of h) front) (step_names sheet) step name n)

-- no formula of a front and of the step behind it is too long, but a value of that step is
pub record IsLongValueOf (h : Held) (sheet : Sheet) : Type 0 where
  pub front : List SheetItem
  pub step : SheetStep
  pub rest : List SheetItem
  pub items_are : sheet.items ≡ front ++ item.Step step ∷ rest
  pub short : OfEachBook h (λ db. AreShort (constants_of h) (trees (steps_in (filled_front db (step_names sheet) h.bound (value_of h) (judgements_of h) front).items)))
  pub value : OfEachBook h (λ db. IsLongValueNext h (filled_front db (step_names sheet) h.bound (value_of h) (judgements_of h) front))

abbrev pub IsFillFault : Held → Sheet → FillFault → Type 0
IsFillFault h sheet (fault.TooLong name n) = IsLong h sheet name n
IsFillFault h sheet fault.LongValue = IsLongValueOf h sheet
IsFillFault h sheet fault.Memory = Unit {0}
