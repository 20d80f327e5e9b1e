use Rattle.std.proofs.Common.{◌≡◌, drop}
use Rattle.std.specs.List.{after_first}
use Rattle.mmp_run.specs.Tried.{is_bracket, tokens_shown}
use Rattle.mmp_run.proofs.trial.behind_bracket.Given as goal

abbrev pub invariant-loop-i : goal.invariant-loop-i
invariant-loop-i l = after_first is_bracket (tokens_shown l.tokens) ≡ after_first is_bracket (tokens_shown (drop l.i l.tokens))
