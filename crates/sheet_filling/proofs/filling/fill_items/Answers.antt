use Rattle.std.proofs.Common.{subst, sym, ◌∙◌}
use Rattle.sheet_filling.specs.Filled.{AreFilledTo}
use Rattle.sheet_filling.proofs.ItemLaws.{all_filled, one_filled}
use Rattle.sheet_filling.proofs.filling.fill_items.Goals as goal

pub loop-item-preserved : goal.loop-item-preserved
loop-item-preserved c =
    one_filled c.args.db.now c.args.written.now c.args.items.items c.in-Some.item c.in_ok-fill_item.field-0 c.next.new.self.rest.items c.loop-item.filled.items c.push.new.self.items
    c.loop-item.number c.in_ok-next.next
    (subst (λ left. AreFilledTo c.args.db.now c.args.written.now c.args.items.items left c.loop-item.filled.items c.loop-item.number) c.in-Some.ensures.steps.0 c.loop-item.invariant)
    c.in_ok-fill_item.ensures c.in_ok-next.ensures c.in_ok-push.ensures.items

pub returns : goal.returns
returns c =
    all_filled c.args.db.now c.args.written.now c.args.items.items c.loop-item.item-iterator.rest.items c.loop-item.filled.items c.from_vec.result c.loop-item.number
    (sym c.loop-item.item-iterator.rest.ok.0 ∙ c.in-None.ensures.steps.0) c.from_vec.ensures c.loop-item.invariant
