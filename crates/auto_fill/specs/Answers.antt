-- What fills one step of a worksheet.
use Rattle.std.specs.Prelude.{◌≡◌, ℕ, List, slice_get, Option, Some, None}
use Rattle.mm_base.specs.declared.kinds.Kinds.{Kinds}
use Rattle.mm_base.specs.declared.symbols.Pair.{Pair}
use Rattle.mm_base.specs.declared.tree.Tree.{Tree}
use Rattle.mm_model.specs.Book.{Database}
use Rattle.written_model.specs.declared.options.Options.{Options}
use Rattle.written_model.specs.WrittenSteps.{WrittenStep, steps_in, trees}
use Rattle.written_model.specs.Written.{Writing}
use Rattle.mm_database.specs.Opened.{Opened, IsOpened}
use Rattle.auto_model.specs.AutoFilled.{IsAuto, IsAutoChoice}
use Rattle.auto_model.specs.declared.auto.Auto.{Auto}
use Rattle.ref_search.specs.Searching.{book}
use Rattle.ref_search.specs.Wholes.{IsAllowed}

-- the worksheet stands at the place with these pairs, its steps have these formulas, and this is its step of that number
pub record IsStepOf (place : ℕ) (allowed : Option (List Pair)) (formulas : List Tree) (k : ℕ) (options : Options) (w : Writing) (e : WrittenStep) : Type 0 where
  pub place_is : w.bound.place ≡ place
  pub allowed_are : IsAllowed options.dv w.bound.pairs allowed
  pub formulas_are : trees (steps_in w.items) ≡ formulas
  pub step_is : slice_get (steps_in w.items) k ≡ Some e

-- the assertion and the tuple that the step is filled with; or none serves
abbrev pub IsFilledBy : Database → Options → Writing → ℕ → WrittenStep → Option Auto → Type 0
IsFilledBy db options w k e None = IsAutoChoice db options w k e None
IsFilledBy db options w k e (Some a) = IsAuto db options w k e a

-- so in each worksheet that has them, and each text from which the database is opened
abbrev pub IsAnswer : Opened → ℕ → Option (List Pair) → List Tree → ℕ → Option Auto → Type 0
IsAnswer d place allowed formulas k o =
    (kinds : Kinds) (text : List ℕ) (options : Options) (w : Writing) (e : WrittenStep) → IsOpened kinds text d
    → IsStepOf place allowed formulas k options w e → IsFilledBy (book kinds text d) options w k e o
