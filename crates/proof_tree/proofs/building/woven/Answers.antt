use Rattle.std.proofs.Common.{◌≡◌, ap, sym, subst}
use Rattle.std.proofs.Common.{ℕ, List}
use Rattle.proof_tree.proofs.BuildLaws.{IsWoven, woven_float, woven_essential, woven_done, woven_begun}
use Rattle.proof_tree.proofs.building.woven.Goals as goal
use Rattle.proof_tree.proofs.building.woven.Goals.{then-hyp+in_ok-put_item, else-hyp+in_ok-put_item-2}

moved : (hyps : List _) (xs ys : List ℕ) (i a b c d : ℕ) (ns ms : List ℕ) → c ≡ a → d ≡ b → ms ≡ ns → IsWoven hyps xs ys i a b ns → IsWoven hyps xs ys i c d ms
moved hyps xs ys i a b c d ns ms e f g w =
    subst (λ k. IsWoven hyps xs ys i k d ms) (sym e) (subst (λ k. IsWoven hyps xs ys i a k ms) (sym f) (subst (IsWoven hyps xs ys i a b) (sym g) w))

pub loop-hyp-init : goal.loop-hyp-init
loop-hyp-init c = woven_begun c.args.hyps.now c.args.floating.now c.args.essential.now c.new-numbers.result.items c.new-numbers.ensures.items

pub loop-hyp-preserved : goal.loop-hyp-preserved
loop-hyp-preserved c =
    elim c.if-hyp.branch [
      | then-hyp+in_ok-put_item w ↦
          moved c.args.hyps.now c.args.floating.now c.args.essential.now _ _ _ c.if-hyp.floating_at c.if-hyp.essential_at w.put_item.new.numbers.items
          c.if-hyp.numbers.items w.floating_at-is w.essential_at-is
          (ap (λ v. v.items) w.numbers-is)
          (woven_float c.args.hyps.now c.args.floating.now c.args.essential.now c.loop-hyp.hyp-index c.loop-hyp.floating_at c.loop-hyp.essential_at
          c.hyp-item.result c.loop-hyp.numbers.items w.put_item.new.numbers.items
          c.loop-hyp-test.true c.hyp-item.is w.if-hyp.true w.in_ok-put_item.ensures c.loop-hyp.invariant)
      | else-hyp+in_ok-put_item-2 w ↦
          moved c.args.hyps.now c.args.floating.now c.args.essential.now _ _ _ c.if-hyp.floating_at c.if-hyp.essential_at
          w.put_item-else-hyp.new.numbers.items c.if-hyp.numbers.items w.floating_at-is w.essential_at-is
          (ap (λ v. v.items) w.numbers-is)
          (woven_essential c.args.hyps.now c.args.floating.now c.args.essential.now c.loop-hyp.hyp-index c.loop-hyp.floating_at
          c.loop-hyp.essential_at c.hyp-item.result c.loop-hyp.numbers.items w.put_item-else-hyp.new.numbers.items
          c.loop-hyp-test.true c.hyp-item.is w.if-hyp.false w.in_ok-put_item-2.ensures c.loop-hyp.invariant)
    ]

pub returns : goal.returns
returns c =
    woven_done c.args.hyps.now c.args.floating.now c.args.essential.now c.loop-hyp.hyp-index c.loop-hyp.floating_at c.loop-hyp.essential_at
    c.loop-hyp.numbers.items c.loop-hyp-test.false c.loop-hyp.invariant
