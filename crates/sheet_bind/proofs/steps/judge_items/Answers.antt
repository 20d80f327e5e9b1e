use Rattle.std.proofs.Common.{subst}
use Rattle.sheet_text.specs.declared.sheet.SheetItem.{SheetItem}
use Rattle.sheet_bind.specs.Judging.{scene_of, state_of, IsAdded}
use Rattle.sheet_bind.proofs.JudgeLaws.{runs_more}
use Rattle.sheet_bind.proofs.steps.judge_items.Goals as goal

pub loop-item-preserved : goal.loop-item-preserved
loop-item-preserved c =
    let g = scene_of c.args.here.now in
    runs_more g _ (state_of c.loop-item.judging) (state_of c.add_item.new.judging) c.args.items.now c.loop-item.item-index c.item-item.result c.loop-item-test.true c.loop-item.invariant
    (subst (λ (x : SheetItem). IsAdded g x (state_of c.loop-item.judging) (state_of c.add_item.new.judging)) c.item-item.is c.in_ok-add_item.ensures)
