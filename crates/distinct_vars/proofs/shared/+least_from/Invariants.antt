use Rattle.std.proofs.Common.{◌≡◌, fold, take}
use Rattle.distinct_vars.specs.Shared.{lesser_from}
use Rattle.distinct_vars.proofs.VariableLaws.{over_tree}
use Rattle.distinct_vars.proofs.shared.+least_from.Given as goal

abbrev pub invariant-loop-child : goal.invariant-loop-child
invariant-loop-child l = l.least ≡ fold (over_tree (lesser_from l.low)) l.initial.least (take l.child-index l.child-items)
