use Rattle.std.proofs.Common.{◌≡◌, ◌<◌, ℕ, slice_get, Some}
use Rattle.formula_parse.specs.declared.reach.Entry.{Entry}
use Rattle.formula_parse.specs.Charts.{CanLead}
use Rattle.formula_parse.specs.Ends.{IsAmong}
use Rattle.formula_parse.proofs.reach.ends_of.Given as goal

abbrev pub invariant-loop-entry : goal.invariant-loop-entry
invariant-loop-entry l = (j : ℕ) (x : Entry) → j < l.entry-index → slice_get l.entries j ≡ Some x → x.code ≡ l.code → CanLead l.leaves l.behind x.end → IsAmong l.ends x.end
