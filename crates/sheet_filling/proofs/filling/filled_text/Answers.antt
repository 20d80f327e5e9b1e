use Rattle.std.proofs.lemmas.Result.{IfOk-weaker}
use Rattle.sheet_filling.proofs.ItemLaws.{text_filled}
use Rattle.sheet_filling.proofs.filling.filled_text.Goals as goal

pub returns : goal.returns
returns c =
    IfOk-weaker c.layout.result _ _
    (λ t h. text_filled c.args.db.now c.args.written.now c.args.sheet c.in_ok-filled.filled t h c.in_ok-filled.ensures) c.layout.ensures.text
