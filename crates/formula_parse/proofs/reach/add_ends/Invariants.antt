use Rattle.std.proofs.Common.{◌≡◌, ◌<◌, ℕ, slice_get, Some}
use Rattle.formula_parse.specs.declared.reach.Entry.{Entry}
use Rattle.formula_parse.specs.Charts.{IsIn, Stays, CanLead}
use Rattle.formula_parse.proofs.reach.add_ends.Given as goal

abbrev pub invariant-loop-entry : goal.invariant-loop-entry
invariant-loop-entry l =
    Stays l.fn.next l.next
    × ((j : ℕ) (x : Entry) → j < l.entry-index → slice_get l.entries j ≡ Some x → x.code ≡ l.code → CanLead l.leaves l.behind x.end
    → IsIn l.next x.end)
