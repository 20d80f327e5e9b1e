use Rattle.std.proofs.Common.{◌≡◌, [], fold, take}
use Rattle.hyp_derive.proofs.FillLaws.{state, step}
use Rattle.hyp_derive.proofs.indexed.fill_from.Given as goal

abbrev pub invariant-loop-tree : goal.invariant-loop-tree
invariant-loop-tree l =
    (l.made ≡ (fold (step l.earlier) (state [] []) (take l.tree-index l.wanted)).made)
    × (l.places.items ≡ (fold (step l.earlier) (state [] []) (take l.tree-index l.wanted)).places)
