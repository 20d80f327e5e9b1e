use Rattle.std.proofs.Common.{◌≡◌, take, map}
use Rattle.written_steps.specs.Drafts.{ForEachText, refs}
use Rattle.step_report.specs.Flaws.{line_in}
use Rattle.step_report.proofs.report.lines_of.Given as goal

abbrev pub invariant-loop-step : goal.invariant-loop-step
invariant-loop-step l = ForEachText l.db (l.lines.items ≡ map (line_in l.db l.mode l.given) (refs (take l.step-index l.steps)))
