use Rattle.std.proofs.Common.{◌≡◌, fold, take}
use Rattle.distinct_vars.specs.NeededPairs.{put_number}
use Rattle.distinct_vars.proofs.VariableLaws.{over_tree}
use Rattle.distinct_vars.proofs.crossings.+add_variables.Given as goal

abbrev pub invariant-loop-child : goal.invariant-loop-child
invariant-loop-child l = l.numbers.keys ≡ fold (over_tree put_number) l.initial.numbers.keys (take l.child-index l.child-items)
