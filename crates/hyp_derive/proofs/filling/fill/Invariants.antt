use Rattle.std.proofs.Common.{◌≡◌, [], fold, take}
use Rattle.hyp_derive.proofs.FillLaws.{state, step}
use Rattle.hyp_derive.proofs.filling.fill.Given as goal

abbrev pub invariant-loop-tree : goal.invariant-loop-tree
invariant-loop-tree l =
    (l.made.items ≡ (fold (step l.known) (state [] []) (take l.tree-index l.tree-items)).made)
    × (l.places.items ≡ (fold (step l.known) (state [] []) (take l.tree-index l.tree-items)).places)
