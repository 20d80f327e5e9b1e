use Rattle.std.proofs.Common.{◌∙◌, sym, arith}
use Rattle.sheet_read.proofs.Walks.{walks-more}
use Rattle.sheet_read.proofs.reading.read_lines.Goals as goal

pub loop-at-preserved : goal.loop-at-preserved
loop-at-preserved c =
    let more =
    walks-more c.args.past c.args.lines.now c.loop-at.at _ c.loop-at.reader c.line.new.self (omega arith) c.in_ok-line.ensures.no_fault
    (sym c.in_ok-line.ensures.ends ∙ c.if-branch.false) c.in_ok-line.ensures.next c.loop-at.invariant.few c.loop-at.invariant.walks in
    record { few = more.0; walks = more.1 }
