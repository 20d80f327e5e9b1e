-- Filled steps with their new work variables named and their references found. This is part of the proof, and not of the claim.
use Rattle.std.specs.Prelude.{ℕ, List}
use Rattle.std.specs.List.{AllZip}
use Rattle.mm_base.specs.declared.kinds.Kinds.{Kinds}
use Rattle.mm_database.specs.Opened.{Opened, IsOpened}
use Rattle.solve_model.specs.declared.bound.Bound.{Bound}
use Rattle.step_naming.specs.Named.{AreNamed}
use Rattle.step_searching.specs.Searched.{ItemIsSearched}
use Rattle.written_model.specs.declared.options.DvMode.{DvMode}
use Rattle.written_model.specs.WrittenSteps.{steps_in}
use Rattle.written_steps.specs.declared.draft.DraftItem.{DraftItem}
use Rattle.written_steps.specs.Drafts.{book, items_in, AreSound}

-- the items are searched, from those that the filled ones are once they are named
pub record AreFound (d : Opened) (bound : Bound) (mode : DvMode) (filled items : List DraftItem) : Type 0 where
  pub named : List DraftItem
  pub are_named : AreNamed d bound filled named
  pub sound : AreSound d items
  pub searched : (kinds : Kinds) (text : List ℕ) → IsOpened kinds text d
      → AllZip (ItemIsSearched (book kinds text d) bound.place mode bound.pairs (steps_in (items_in d named))) (items_in d named) (items_in d items)
