use Rattle.std.proofs.Common.{arith}
use Rattle.proof_tree.proofs.PartLaws.{parts_so_far}
use Rattle.proof_tree.proofs.order.push_parts.Goals as goal

pub loop-left-preserved : goal.loop-left-preserved
loop-left-preserved c = (
  omega (arith, c.loop-left.invariant.0),
  parts_so_far c.args.below.now c.loop-left.left _ c.args.number c.args.pending.now.items c.loop-left.pending.items c.push-in-loop-left.new.self.items
      (omega arith) (omega (arith, c.loop-left.invariant.0)) c.loop-left.invariant.1
      c.in_ok-push-2.ensures.items,
)
