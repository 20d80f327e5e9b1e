use Rattle.sheet_print.proofs.Marks.{cleared}
use Rattle.sheet_print.proofs.index.clear.Goals as goal

pub returns : goal.returns
returns c = cleared _ _ _ c.start.ensures.place c.start.ensures.number (c.fill.ensures.after (λ y e. e))
