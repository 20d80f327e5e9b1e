use Rattle.std.proofs.Common.{◌≡◌, fold, take}
use Rattle.hyp_derive.proofs.HashLaws.{mix_tree}
use Rattle.hyp_derive.proofs.hash.+tree_hash.Given as goal

abbrev pub invariant-loop-child : goal.invariant-loop-child
invariant-loop-child l = l.hash ≡ fold mix_tree l.initial.hash (take l.child-index l.child-items)
