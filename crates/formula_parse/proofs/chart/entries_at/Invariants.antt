use Rattle.std.proofs.Common.{◌≡◌, ◌<◌, ◌≤◌, ℕ, length, slice_get, Some}
use Rattle.formula_parse.specs.declared.reach.Entry.{Entry}
use Rattle.formula_parse.specs.Charts.{IsBegun, Follows}
use Rattle.formula_parse.proofs.chart.entries_at.Given as goal

abbrev pub invariant-loop-k : goal.invariant-loop-k
invariant-loop-k l = IsBegun l.leaves l.chart l.g l.before l.begin l.entries × (l.k ≤ length l.entries)
    × ((j : ℕ) (entry : Entry) → j < l.k → slice_get l.entries j ≡ Some entry → Follows l.leaves l.chart l.g l.before entry l.entries)
