use Rattle.std.proofs.Common.{◌≡◌, ◌<◌, ℕ, slice_get, Some}
use Rattle.formula_parse.specs.Charts.{IsIn, Stays, IsOnce, entry_of}
use Rattle.formula_parse.proofs.chart.add_ends.Given as goal

abbrev pub invariant-loop-end : goal.invariant-loop-end
invariant-loop-end l = Stays l.fn.entries l.entries × (IsOnce l.fn.entries → IsOnce l.entries)
    × ((j e : ℕ) → j < l.end-index → slice_get l.ends j ≡ Some e → IsIn l.entries (entry_of e l.production.gives l.row))
