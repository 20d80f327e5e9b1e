-- The values of accepted steps.
use Rattle.std.specs.Prelude.{◌≡◌, ℕ, List, slice_get, Some}
use Rattle.std.specs.List.{AllByRecursion}
use Rattle.mm_model.specs.Book.{Database}
use Rattle.sheet_text.specs.declared.sheet.Sheet.{Sheet}
use Rattle.sheet_text.specs.Reads.{Reads}
use Rattle.solve_model.specs.declared.bound.BoundStep.{BoundStep}
use Rattle.solve_model.specs.declared.bound.Bound.{Bound}
use Rattle.solve_model.specs.Bound.{Binds}
use Rattle.written_model.specs.Existence.{IsPlaceIn}
use Rattle.step_chain.specs.Held.{Held, OfEachBook}
use Rattle.step_filling.specs.Answers.{IsLongValueOf}
use Rattle.filling_laws.specs.Counted.{IsJudgedChain}

-- each place of a step names a step before it
abbrev pub PlacesComeBefore : Bound → Type 0
PlacesComeBefore bound = (k : ℕ) (b : BoundStep) → slice_get bound.steps k ≡ Some b → AllByRecursion (IsPlaceIn k) b.places

-- so it is with what a text says, where it is bound
abbrev pub BoundComesBefore : Type 0
BoundComesBefore = (db : Database) (text : List ℕ) (s : Sheet) (bound : Bound) → Reads text s → Binds db s bound → PlacesComeBefore bound

-- no value is too long where no formula up to its step is
abbrev pub ValuesAreShort : Type 0
ValuesAreShort = (h : Held) (sheet : Sheet) → OfEachBook h (λ db. IsJudgedChain h db → PlacesComeBefore h.bound → IsLongValueOf h sheet → ⊥)
