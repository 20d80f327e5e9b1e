use Rattle.std.proofs.Common.{◌≡◌, take}
use Rattle.std.specs.List.{filter_map}
use Rattle.sheet_text.specs.Layout.{step_of_item}
use Rattle.ref_select.specs.Asked.{refs}
use Rattle.ref_select.proofs.asked.steps_of.Given as goal

abbrev pub invariant-loop-item : goal.invariant-loop-item
invariant-loop-item l = refs l.steps.items ≡ filter_map step_of_item (take l.item-index l.items)
