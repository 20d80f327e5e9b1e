use Rattle.step_filling.proofs.NameLaws.{IsPutTo}
use Rattle.step_filling.proofs.kept.put_derived.Given as goal

abbrev pub invariant-loop-tree : goal.invariant-loop-tree
invariant-loop-tree l = IsPutTo l.initial.items.items l.items.items l.initial.index l.index l.initial.names l.names l.yielded
