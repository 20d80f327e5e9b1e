use Rattle.std.proofs.Common.{refl, subst}
use Rattle.sheet_filling.specs.Filled.{AreItemsFilled}
use Rattle.sheet_filling.proofs.ItemLaws.{sheet_filled}
use Rattle.sheet_filling.proofs.filling.fill_sheet.Goals as goal

pub returns : goal.returns
returns c =
    sheet_filled c.args.db.now c.args.written.now c.args.sheet _ c.in_ok-items.items
    (subst (λ is. AreItemsFilled c.args.db.now c.args.written.now 0 is c.in_ok-items.items) c.into_vec.ensures c.in_ok-items.ensures) refl
