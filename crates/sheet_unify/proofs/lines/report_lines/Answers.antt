use Rattle.std.proofs.Common.{arith}
use Rattle.std.proofs.lemmas.Grind.{common_steps}
use Rattle.sheet_unify.proofs.LineLaws.{lines_are}
use Rattle.sheet_unify.proofs.lines.report_lines.Goals as goal

pub returns : goal.returns
returns c = λ kinds text opened. lines_are kinds text c.args.db.now c.args.report.now c.args.finished c.from_vec.result opened (grind (arith, common_steps))
