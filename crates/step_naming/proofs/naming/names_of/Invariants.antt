use Rattle.std.proofs.Common.{take}
use Rattle.leaf_names.specs.Named.{IsNamesOf}
use Rattle.step_naming.specs.Named.{formulas}
use Rattle.step_naming.proofs.naming.names_of.Given as goal

abbrev pub invariant-loop-item : goal.invariant-loop-item
invariant-loop-item l = IsNamesOf l.db l.bound (formulas (take l.item-index l.items)) l.names
