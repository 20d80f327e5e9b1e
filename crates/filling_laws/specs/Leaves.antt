-- The fresh leaves of what is filled.
use Rattle.std.specs.Prelude.{◌≤◌, List, length}
use Rattle.mm_base.specs.Limits.{most_work_size}
use Rattle.mm_model.specs.Names.{Name}
use Rattle.sheet_text.specs.declared.sheet.SheetItem.{SheetItem}
use Rattle.written_model.specs.WrittenSteps.{steps_in, trees}
use Rattle.written_model.specs.Filled.{filled_items}
use Rattle.step_chain.specs.Held.{Held, judgements_of, OfEachBook, IsHeld}
use Rattle.step_chain.specs.Values.{value_of}
use Rattle.step_naming.specs.Named.{AreSmallLeaves}
use Rattle.filling_laws.specs.Counted.{IsJudgedChain}

-- where the store has few nodes, the numbers of the fresh leaves are small
abbrev pub LeavesAreSmall : Type 0
LeavesAreSmall = (h : Held) → IsHeld h → OfEachBook h (λ db. IsJudgedChain h db → length h.nodes ≤ most_work_size
    → (names : List Name) (items : List SheetItem) → AreSmallLeaves (trees (steps_in (filled_items names h.bound (value_of h) (judgements_of h) items))))
