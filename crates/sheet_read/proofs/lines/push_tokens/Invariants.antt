use Rattle.std.proofs.Common.{◌≤◌, ◌-◌, ◌++◌, length, drop}
use Rattle.mm_model.specs.Words.{words_from}
use Rattle.sheet_read.specs.Parts.{targets, tokens_of_bytes}
use Rattle.sheet_read.proofs.TokenSteps.{Pushes}
use Rattle.sheet_read.proofs.lines.push_tokens.Given as goal

abbrev pub invariant-loop-start : goal.invariant-loop-start
invariant-loop-start l =
    record {
      within : l.at ≤ length l.bytes;
      pushes : Pushes (targets l.tokens.items) (words_from l.at (drop l.at l.bytes)) (targets l.initial.tokens.items ++ tokens_of_bytes l.bytes);
    }

abbrev pub decreases-loop-start : goal.decreases-loop-start
decreases-loop-start l = length l.bytes - l.at
