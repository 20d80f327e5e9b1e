use Rattle.std.proofs.Common.{◌≡◌, take}
use Rattle.std.specs.List.{flat_map}
use Rattle.call_answers.specs.Trial.{letters_in}
use Rattle.mmp_run.specs.Tried.{tokens_shown}
use Rattle.mmp_run.proofs.trial.letters_of.Given as goal

abbrev pub invariant-loop-token : goal.invariant-loop-token
invariant-loop-token l = l.letters.items ≡ flat_map letters_in (tokens_shown (take l.token-index l.tokens))
