use Rattle.std.proofs.Common.{nat_eq, take}
use Rattle.std.specs.HashMap.{get}
use Rattle.proof_tree.specs.Given.{PutsName}
use Rattle.proof_tree.proofs.floats.put_names.Given as goal

abbrev pub invariant-loop-symbol : goal.invariant-loop-symbol
invariant-loop-symbol l = PutsName l.name (take l.symbol-index l.symbols) (get nat_eq l.initial.labels) (get nat_eq l.labels)
