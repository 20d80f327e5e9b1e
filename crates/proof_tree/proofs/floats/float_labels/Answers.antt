use Rattle.std.proofs.Common.{nat_eq}
use Rattle.std.specs.HashMap.{get}
use Rattle.proof_tree.proofs.FloatLaws.{more_floats}
use Rattle.proof_tree.proofs.floats.float_labels.Goals as goal

pub loop-hyp-preserved : goal.loop-hyp-preserved
loop-hyp-preserved c =
    more_floats c.args.hyps.now c.loop-hyp.hyp-index c.hyp-item.result (get nat_eq c.loop-hyp.labels) (get nat_eq c.put_float.new.labels) c.loop-hyp-test.true c.hyp-item.is c.loop-hyp.invariant
    c.in_ok-put_float.ensures
