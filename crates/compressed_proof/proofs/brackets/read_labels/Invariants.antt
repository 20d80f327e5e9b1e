use Rattle.std.proofs.Common.{◌≤◌, ◌-◌, length, drop, vec_len}
use Rattle.mm_model.specs.Words.{words_from}
use Rattle.compressed_proof.proofs.Listing.{Lists}
use Rattle.compressed_proof.proofs.brackets.read_labels.Given as goal

abbrev pub invariant-loop-start : goal.invariant-loop-start
invariant-loop-start l =
    record {
      within : l.at ≤ length l.text;
      count : vec_len l.labels ≤ l.at;
      lists : Lists l.labels.items (words_from l.at (drop l.at l.text)) (words_from l.fn.from (drop l.fn.from l.text));
    }

abbrev pub decreases-loop-start : goal.decreases-loop-start
decreases-loop-start l = length l.text - l.at
