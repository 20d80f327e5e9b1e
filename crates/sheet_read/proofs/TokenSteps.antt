-- What the loops over the tokens of a line keep.
use Rattle.std.proofs.Common.{◌≡◌, ℕ, List, ◌++◌, Option, None, map}
use Rattle.std.specs.List.{last_or}
use Rattle.mm_model.specs.Words.{Word}

-- the last token so far, and the words behind it
pub record Lasts (last : Option (List ℕ)) (ws : List Word) (all : List (List ℕ)) : Type 0 where
  pub eq : last_or last (map (λ w. w.bytes) ws) ≡ last_or None all

-- the tokens so far, and the words behind them
pub record Pushes (front : List (List ℕ)) (ws : List Word) (all : List (List ℕ)) : Type 0 where
  pub eq : front ++ map (λ w. w.bytes) ws ≡ all
