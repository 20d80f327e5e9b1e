use Rattle.std.proofs.Common.{◌≡◌, take}
use Rattle.mm_database.specs.Productions.{rows_of}
use Rattle.mm_database.proofs.productions.rows.Given as goal

abbrev pub invariant-loop-entry : goal.invariant-loop-entry
invariant-loop-entry l = l.rows.items ≡ rows_of l.provable (take l.entry-index l.frames)
