use Rattle.std.proofs.Common.{◌-◌, ◌^◌}
use Rattle.leaf_names.specs.Cursors.{last_number, NoneUnused}
use Rattle.leaf_names.proofs.free.first_unused.Given as goal

abbrev pub invariant-loop-number : goal.invariant-loop-number
invariant-loop-number l = NoneUnused l.frames.symbols l.read.keys l.code (last_number l.last l.code) l.number

abbrev pub decreases-loop-number : goal.decreases-loop-number
decreases-loop-number l = 2 ^ 32 - l.number
