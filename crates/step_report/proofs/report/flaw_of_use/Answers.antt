use Rattle.std.proofs.Common.{sym}
use Rattle.written_steps.specs.Drafts.{use_in}
use Rattle.step_report.proofs.ReportLaws.{flaw_clash, flaw_lack}
use Rattle.step_report.proofs.report.flaw_of_use.Goals as goal

pub returns-then-is_some : goal.returns-then-is_some
returns-then-is_some c = λ kinds text opened.
    flaw_clash c.args.mode c.args.given.now (use_in c.args.db.now c.args.by.now) c.clash_of-clash.result (c.clash_of-clash.ensures kinds text opened) (sym c.if-is_some.ensures)

pub returns : goal.returns
returns c = λ kinds text opened.
    flaw_lack c.args.mode c.args.given.now (use_in c.args.db.now c.args.by.now) c.clash_of-clash.result c.in_ok-lack.lack (c.clash_of-clash.ensures kinds text opened) (sym c.if-is_some.ensures)
    (c.in_ok-lack.ensures kinds text opened)
