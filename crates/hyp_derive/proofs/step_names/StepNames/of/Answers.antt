use Rattle.std.proofs.Common.{List, ℕ, take, sym, subst}
use Rattle.hyp_derive.specs.Naming.{HaveSameNames}
use Rattle.hyp_derive.proofs.NewNameLaws.{names_of, item_more}
use Rattle.hyp_derive.proofs.step_names.StepNames.of.Goals as goal

pub loop-item-preserved : goal.loop-item-preserved
loop-item-preserved c =
    subst (λ (names : List (List ℕ)). HaveSameNames c.put_item.new.names names)
    (sym (item_more c.as_slice-item-items.result.now c.loop-item.item-index c.item-item.result c.loop-item-test.true c.item-item.is))
    (c.in_ok-put_item.ensures (names_of (take c.loop-item.item-index c.as_slice-item-items.result.now)) c.loop-item.invariant)
