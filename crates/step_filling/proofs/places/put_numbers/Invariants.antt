use Rattle.std.proofs.Common.{◌≡◌, ◌++◌, map, take}
use Rattle.sheet_text.specs.declared.sheet.Given.TheVariants as given
use Rattle.step_filling.proofs.places.put_numbers.Given as goal

abbrev pub invariant-loop-number : goal.invariant-loop-number
invariant-loop-number l = l.written.items ≡ l.initial.written.items ++ map (λ k. given.Step k) (take l.number-index l.more)
