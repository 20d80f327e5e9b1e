use Rattle.syntax_grammar.proofs.JoinLaws.{AreKept}
use Rattle.syntax_grammar.proofs.grammar.keep_rows.Given as goal

abbrev pub invariant-loop-row : goal.invariant-loop-row
invariant-loop-row l = AreKept l.kept.items l.yielded l.joins.ends
