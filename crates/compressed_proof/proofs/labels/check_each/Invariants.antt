use Rattle.std.proofs.Common.{◌≡◌, ℕ, List, take}
use Rattle.mm_model.specs.Names.{contains}
use Rattle.compressed_proof.proofs.Labelling.{AreFine}
use Rattle.compressed_proof.proofs.labels.check_each.Given as goal

abbrev pub invariant-loop-place : goal.invariant-loop-place
invariant-loop-place l =
    record {
      before : l.before ≡ take l.place l.labels;
      fine : (mandatory : List (List ℕ)) → ((name : List ℕ) → contains l.listed name ≡ contains mandatory name)
          → AreFine mandatory l.labels l.place;
    }
