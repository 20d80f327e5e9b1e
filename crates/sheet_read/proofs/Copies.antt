-- What the loops that copy names and look them up keep.
use Rattle.std.proofs.Common.{◌≡◌, ℕ, Bool, List, ◌++◌, map, ◌||◌}
use Rattle.std.specs.List.{list_any}
use Rattle.mm_model.specs.Names.{contains, has_twice}
use Rattle.sheet_text.specs.declared.sheet.Given.{Given}
use Rattle.sheet_text.specs.Forms.{entry_of}
use Rattle.sheet_text.specs.Reads.{given_of}
use Rattle.sheet_read.specs.Reading.{is_unknown}

-- the copies so far, and what is behind them
pub record Copies (front rest all : List (List ℕ)) : Type 0 where
  pub eq : front ++ rest ≡ all

-- a name of the rest was seen, or stands twice in it
abbrev pub twice_with : List (List ℕ) → List (List ℕ) → Bool
twice_with seen names = list_any (contains seen) names || has_twice names

pub record Sees (seen rest all : List (List ℕ)) : Type 0 where
  pub eq : twice_with seen rest ≡ has_twice all

-- the places so far, and the entries behind them
pub record Gives (names : List (List ℕ)) (front : List Given) (rest all : List (List ℕ)) : Type 0 where
  pub places : front ++ map (given_of names) (map entry_of rest) ≡ map (given_of names) (map entry_of all)
  pub unknown : is_unknown names (map entry_of rest) ≡ is_unknown names (map entry_of all)
