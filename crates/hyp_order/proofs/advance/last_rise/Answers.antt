use Rattle.std.proofs.Common.{◌-◌, length, arith}
use Rattle.hyp_order.proofs.FallLaws.{end_falls, falls_before}
use Rattle.hyp_order.proofs.advance.last_rise.Goals as goal

pub loop-i-init : goal.loop-i-init
loop-i-init c = (omega arith, end_falls c.args.order.now (length c.args.order.now - 1) (omega arith))

pub loop-i-preserved : goal.loop-i-preserved
loop-i-preserved c =
    (omega arith, falls_before c.args.order.now (c.loop-i.i - 1 - 1) (c.loop-i.i - 1) (omega arith) (omega arith) c.if-order-i.false c.loop-i.invariant.1)
