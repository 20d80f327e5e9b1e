use Rattle.sheet_proof.proofs.Small.{numbers_more}
use Rattle.sheet_proof.proofs.steps.step_numbers.Goals as goal

pub loop-place-preserved : goal.loop-place-preserved
loop-place-preserved c =
    numbers_more c.args.places.now c.loop-place.place-index _ c.loop-place.numbers.items c.put_number.new.numbers.items c.loop-place-test.true c.loop-place.invariant c.in_ok-put_number.ensures
