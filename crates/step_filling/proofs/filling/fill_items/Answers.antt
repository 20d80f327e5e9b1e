use Rattle.std.proofs.Common.{subst, ◌∙◌, List}
use Rattle.sheet_text.specs.declared.sheet.SheetItem.{SheetItem}
use Rattle.step_chain.specs.Held.{Held}
use Rattle.step_filling.specs.Filled.{ArePut, IsFaultAmong}
use Rattle.step_filling.proofs.ItemLaws.{whole_filled, whole_fault}
use Rattle.step_filling.proofs.filling.fill_items.Goals as goal

pub returns-in-Err-clause-fault : goal.returns-in-Err-clause-fault
returns-in-Err-clause-fault c =
    whole_fault c.args.chain.now c.args.sheet.now c.in_ok-filling.filling c.in_ok-filling.ensures c.in-Err.fault
    (subst (λ (h : Held). IsFaultAmong h c.in_ok-filling.filling c.args.sheet.now.items c.in-Err.fault) c.in_ok-trees.ensures
    (subst (λ (is : List SheetItem). IsFaultAmong c.in_ok-trees.trees c.in_ok-filling.filling is c.in-Err.fault) c.as_slice.ensures c.in-Err.ensures.fault))

pub returns-clause-filled : goal.returns-clause-filled
returns-clause-filled c =
    whole_filled c.args.chain.now c.args.sheet.now c.in_ok-filling.filling c.in_ok-filling.ensures c.fill_each.new.filling
    (subst (λ (h : Held). ArePut h c.in_ok-filling.filling c.fill_each.new.filling c.args.sheet.now.items) c.in_ok-trees.ensures
    (subst (λ (is : List SheetItem). ArePut c.in_ok-trees.trees c.in_ok-filling.filling c.fill_each.new.filling is) c.as_slice.ensures c.in-Ok.ensures.put))
    c.from_vec.result (c.from_vec.ensures ∙ c.into_items.ensures)
