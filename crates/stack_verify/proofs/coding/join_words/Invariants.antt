use Rattle.std.proofs.Common.{◌≡◌, ◌∷◌, take}
use Rattle.std.specs.List.{join_with_byte}
use Rattle.stack_verify.specs.Proofs.{name_in, names_in}
use Rattle.stack_verify.proofs.coding.join_words.Given as goal

abbrev pub invariant-loop-span : goal.invariant-loop-span
invariant-loop-span l = l.joined.items ≡ join_with_byte 32 (name_in l.text l.fn.first ∷ names_in l.text (take l.span-index l.others))
