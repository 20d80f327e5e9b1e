use Rattle.std.proofs.Common.{◌≤◌, length, take}
use Rattle.compressed_proof.proofs.Labelling.{SameNames}
use Rattle.compressed_proof.proofs.labels.names_of.Given as goal

abbrev pub invariant-loop-name : goal.invariant-loop-name
invariant-loop-name l = record { count : length l.names ≤ l.name-index; same : SameNames l.names (take l.name-index l.list) }
