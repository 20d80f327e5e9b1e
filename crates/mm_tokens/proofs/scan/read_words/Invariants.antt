use Rattle.std.proofs.Common.{◌≤◌, ◌-◌, length, drop, false}
use Rattle.mm_model.specs.Words.{words, words_from}
use Rattle.mm_tokens.specs.Scan.{read_words}
use Rattle.mm_tokens.proofs.ScanSteps.{Goes}
use Rattle.mm_tokens.proofs.scan.read_words.Given as goal

abbrev pub invariant-loop-start : goal.invariant-loop-start
invariant-loop-start l =
    record {
      within : l.at ≤ length l.text;
      goes : Goes l.tokens.items l.in_comment (length l.text) (words_from l.at (drop l.at l.text))
          (read_words false (length l.text) (words l.text));
    }

abbrev pub decreases-loop-start : goal.decreases-loop-start
decreases-loop-start l = length l.text - l.at
