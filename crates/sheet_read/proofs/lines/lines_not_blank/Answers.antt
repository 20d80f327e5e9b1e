use Rattle.std.proofs.Common.{ap, ◌∙◌, List}
use Rattle.sheet_read.specs.declared.lines.TextLine.{TextLine}
use Rattle.sheet_read.specs.Parts.{lines_in}
use Rattle.sheet_read.proofs.TextLines.{keeps-first}
use Rattle.sheet_read.proofs.lines.lines_not_blank.Goals as goal

pub loop-line-init : goal.loop-line-init
loop-line-init c =
    keeps-first (lines_in c.new-lines.result.items) c.into_iter-line-iterator.result c.args.text.now
    (ap (λ (ls : List TextLine). lines_in ls) c.new-lines.ensures.items)
    (c.into_iter-line-iterator.ensures.into_iter_gives ∙ c.lines_with_terminator-line-items.ensures.value)
