use Rattle.std.proofs.Common.{◌≡◌, take}
use Rattle.proof_export.specs.Places.{key_of}
use Rattle.proof_export.proofs.places.key_of.Given as goal

abbrev pub invariant-loop-symbol : goal.invariant-loop-symbol
invariant-loop-symbol l = l.key.items ≡ key_of (take l.symbol-index l.formula)
