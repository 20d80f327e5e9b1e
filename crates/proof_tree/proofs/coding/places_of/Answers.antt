use Rattle.proof_tree.proofs.NameLaws.{places_none}
use Rattle.proof_tree.proofs.coding.places_of.Goals as goal

pub loop-place-init : goal.loop-place-init
loop-place-init c = places_none c.new.result c.new-2.result.items c.new.ensures c.new-2.ensures.items
