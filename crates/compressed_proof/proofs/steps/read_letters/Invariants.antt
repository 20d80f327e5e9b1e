use Rattle.std.proofs.Common.{◌≡◌, ◌≤◌, drop}
use Rattle.compressed_proof.specs.Reading.{with_front, read_letters}
use Rattle.compressed_proof.specs.declared.steps.Prior.TheVariants as prior
use Rattle.compressed_proof.proofs.steps.read_letters.Given as goal

abbrev pub invariant-loop-i : goal.invariant-loop-i
invariant-loop-i l =
    record {
      marks : l.before.marks ≤ l.i;
      reads : with_front l.steps.items (read_letters l.mandatory l.labels l.before.marks l.before.prior l.i (drop l.i l.letters))
          ≡ read_letters l.mandatory l.labels 0 prior.Start 0 l.letters;
    }
