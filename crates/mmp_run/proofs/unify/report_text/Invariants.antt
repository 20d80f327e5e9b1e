use Rattle.std.proofs.Common.{◌≡◌, take}
use Rattle.std.specs.List.{flat_map}
use Rattle.sheet_text.specs.Layout.{ended}
use Rattle.mmp_run.proofs.unify.report_text.Given as goal

-- the lines so far are written
abbrev pub invariant-loop-line : goal.invariant-loop-line
invariant-loop-line l = l.text.items ≡ flat_map ended (take l.line-index l.lines)
