use Rattle.std.proofs.Common.{arith}
use Rattle.hyp_derive.proofs.NewNameLaws.{no_end}
use Rattle.hyp_derive.proofs.step_names.least_new.Goals as goal

pub unreachable-requires : goal.unreachable-requires
unreachable-requires c =
    no_end c.args.names.now c.loop-number.number c.loop-number.invariant (omega (arith, c.loop-number-test.false, c.count.ensures)) (omega (arith, c.count.ensures, c.count.type_inv))
