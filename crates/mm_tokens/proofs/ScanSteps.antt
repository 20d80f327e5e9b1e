-- What a loop over the words keeps.
use Rattle.std.proofs.Common.{◌≡◌, ℕ, Bool, List, Result}
use Rattle.mm_model.specs.Faults.{Fault}
use Rattle.mm_model.specs.Words.{Word}
use Rattle.mm_tokens.specs.declared.token.Token.{Token}
use Rattle.mm_tokens.specs.Scan.{with_front, read_words}

-- what was read, and reading on from here, give what reading all gives
pub record Goes (front : List Token) (in_comment : Bool) (len : ℕ) (ws : List Word) (all : Result (List Token) Fault) : Type 0 where
  pub eq : with_front front (read_words in_comment len ws) ≡ all
