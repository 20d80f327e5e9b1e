use Rattle.std.proofs.Common.{◌<◌, get_or, length, slice_set, ap, refl, arith}
use Rattle.std.proofs.Common.{length-set}
use Rattle.proof_tree.proofs.GraphLaws.{all_at}
use Rattle.proof_tree.proofs.UseLaws.{uses_begun, uses_more}
use Rattle.proof_tree.proofs.order.count_uses.Goals as goal

pub loop-number-init : goal.loop-number-init
loop-number-init c = uses_begun c.args.uses.now (λ n. omega (arith, c.type_inv.uses n))

pub loop-number-preserved : goal.loop-number-preserved
loop-number-preserved c =
    uses_more c.args.below.now c.loop-number.number-index (get_or c.args.below.now c.loop-number.number-index 0) c.args.uses.now c.loop-number.uses _ c.loop-number-test.true refl
    (all_at (λ k. k < length c.args.uses.now) c.args.below.now c.loop-number.number-index 0 c.requires c.loop-number-test.true)
    (length-set c.loop-number.uses (get_or c.args.below.now c.loop-number.number-index 0) c.saturating_add.result)
    (ap (λ v. slice_set c.loop-number.uses (get_or c.args.below.now c.loop-number.number-index 0) v) (let e = c.saturating_add.ensures in omega (arith, e))) c.loop-number.invariant
