use Rattle.std.proofs.Common.{arith, take}
use Rattle.std.proofs.lemmas.List.{length-take-le}
use Rattle.stack_verify.proofs.Lookup.{index_more}
use Rattle.stack_verify.proofs.found.HypLabels.of.Goals as goal

pub loop-place-preserved : goal.loop-place-preserved
loop-place-preserved c = record {
  count = omega (arith, c.in_ok-add.ensures.grown);
  index = index_more c.add.new.self c.args.hyps.now c.loop-place.place c.index-hyps-place.result c.loop-place-test.true c.index-hyps-place.is
      (c.in_ok-add.ensures.added (take c.loop-place.place c.args.hyps.now) (length-take-le c.loop-place.place c.args.hyps.now (omega arith)) c.loop-place.invariant.index);
}
