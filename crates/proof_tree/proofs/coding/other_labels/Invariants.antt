use Rattle.std.proofs.Common.{◌≡◌, List, ℕ, map, take}
use Rattle.mm_model.specs.Frames.{without_repeats}
use Rattle.proof_tree.specs.Coding.{ArePlaces, label_of}
use Rattle.proof_tree.proofs.coding.other_labels.Given as goal

abbrev pub invariant-loop-number : goal.invariant-loop-number
invariant-loop-number l = (list : List (List ℕ)) → ArePlaces list l.mandatory.names l.mandatory.places.items → l.labels ≡ without_repeats list (map (label_of l.nodes) (take l.number-index l.order))
