-- What a loop over the words of a proof keeps.
use Rattle.std.proofs.Common.{◌≡◌, ℕ, Bool, List, ◌++◌}
use Rattle.mm_model.specs.Words.{Word}
use Rattle.stack_verify.specs.Proofs.{proof_names}

-- what was read, and reading on from here, give what reading all gives
pub record Goes (front : List (List ℕ)) (in_comment : Bool) (ws : List Word) (all : List (List ℕ)) : Type 0 where
  pub eq : front ++ proof_names in_comment ws ≡ all
