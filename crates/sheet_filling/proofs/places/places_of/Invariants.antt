use Rattle.std.proofs.Common.{◌≡◌, map, take}
use Rattle.sheet_text.specs.declared.sheet.Given.TheVariants as given
use Rattle.sheet_filling.proofs.places.places_of.Given as goal

abbrev pub invariant-loop-number : goal.invariant-loop-number
invariant-loop-number l = l.places.items ≡ map (λ k. given.Step k) (take l.number-index l.numbers)
