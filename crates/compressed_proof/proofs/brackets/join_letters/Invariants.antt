use Rattle.std.proofs.Common.{◌≡◌, ◌++◌, ◌≤◌, ◌-◌, length}
use Rattle.compressed_proof.specs.Parts.{letters_from}
use Rattle.compressed_proof.proofs.brackets.join_letters.Given as goal

abbrev pub invariant-loop-start : goal.invariant-loop-start
invariant-loop-start l = record { within : l.at ≤ length l.text; count : length l.letters.items ≤ l.at; goes : l.letters.items ++ letters_from l.at l.text ≡ letters_from l.fn.from l.text }

abbrev pub decreases-loop-start : goal.decreases-loop-start
decreases-loop-start l = length l.text - l.at
