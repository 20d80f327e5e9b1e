use Rattle.std.proofs.Common.{◌≡◌, map, take, slice_index_or}
use Rattle.sheet_text.specs.declared.sheet.Given.TheVariants as given
use Rattle.written_steps.proofs.places.in_order.Given as goal

abbrev pub invariant-loop-number : goal.invariant-loop-number
invariant-loop-number l = l.ordered.items ≡ map (λ k. slice_index_or l.places k given.Gap) (take l.number-index l.order)
