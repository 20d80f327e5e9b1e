use Rattle.std.proofs.Common.{length}
use Rattle.syntax_grammar.proofs.checks.+stand_first.Given as goal

abbrev pub decreases-stand_first : goal.decreases-stand_first
decreases-stand_first l = length l.rest.now
