use Rattle.proof_tree.specs.Given.{item_at}
use Rattle.proof_tree.proofs.BuildLaws.{filter_more}
use Rattle.proof_tree.proofs.building.placed.Goals as goal

pub loop-place-preserved : goal.loop-place-preserved
loop-place-preserved c =
    filter_more
    (item_at
    c.args.proofs.now) c.args.places.now c.loop-place.place-index c.loop-place.numbers.items c.put_placed.new.numbers.items c.loop-place-test.true c.loop-place.invariant c.in_ok-put_placed.ensures
