use Rattle.std.proofs.Common.{length}
use Rattle.syntax_grammar.proofs.checks.+slot_place.Given as goal

abbrev pub decreases-slot_place : goal.decreases-slot_place
decreases-slot_place l = length l.items.now
