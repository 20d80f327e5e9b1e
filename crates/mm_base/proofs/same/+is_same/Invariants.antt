use Rattle.std.proofs.Common.{◌≡◌, drop, map}
use Rattle.mm_base.specs.SameTrees.{same_tree, all_pass}
use Rattle.mm_base.proofs.same.+is_same.Given as goal

abbrev pub invariant-loop-i : goal.invariant-loop-i
invariant-loop-i l = all_pass (map same_tree l.parts) l.other_parts ≡ all_pass (map same_tree (drop l.i l.parts)) (drop l.i l.other_parts)
