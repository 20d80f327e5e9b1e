use Rattle.std.proofs.Common.{◌∙◌, ap, List}
use Rattle.sheet_read.specs.declared.lines.TextLine.{TextLine}
use Rattle.sheet_read.specs.Parts.{lines_in}
use Rattle.sheet_read.proofs.WholeLaw.{sheet-read, fault-read}
use Rattle.sheet_read.proofs.reading.read_sheet.Goals as goal

pub returns-in-Ok-clause-reads : goal.returns-in-Ok-clause-reads
returns-in-Ok-clause-reads c =
    sheet-read c.args.text.now (lines_in c.as_slice.result.now) c.in_ok-lines.past c.in-Ok.sheet
    (ap (λ (ts : List TextLine). lines_in ts) c.as_slice.ensures.value ∙ c.in_ok-lines.ensures.lines) c.in_ok-lines.ensures.past c.in-Ok.ensures

pub returns-clause-first_fault : goal.returns-clause-first_fault
returns-clause-first_fault c =
    fault-read c.args.text.now (lines_in c.as_slice.result.now) c.in_ok-lines.past c.in-Err.fault
    (ap (λ (ts : List TextLine). lines_in ts) c.as_slice.ensures.value ∙ c.in_ok-lines.ensures.lines) c.in_ok-lines.ensures.past c.in-Err.ensures
