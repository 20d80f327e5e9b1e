use Rattle.std.proofs.Common.{◌≤◌, ◌-◌, length, drop, false}
use Rattle.std.specs.Prelude.{All}
use Rattle.mm_model.specs.Words.{words_from}
use Rattle.stack_verify.specs.Proofs.{names_in, proof_names}
use Rattle.stack_verify.specs.Stacks.{IsWithin}
use Rattle.stack_verify.proofs.Reading.{Goes}
use Rattle.stack_verify.proofs.words.read_words.Given as goal

abbrev pub invariant-loop-start : goal.invariant-loop-start
invariant-loop-start l = record {
  within : l.at ≤ length l.text;
  spans : All (IsWithin (length l.text)) l.spans.items;
  goes : Goes (names_in l.text l.spans.items) l.in_comment (words_from l.at (drop l.at l.text)) (proof_names false (words_from l.fn.from (drop l.fn.from l.text)));
}

abbrev pub decreases-loop-start : goal.decreases-loop-start
decreases-loop-start l = length l.text - l.at
