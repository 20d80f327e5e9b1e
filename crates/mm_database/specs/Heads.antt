-- What an index of heads has. This is part of the proof, and not of the claim.
use Rattle.std.specs.Prelude.{ℕ, ◌≡◌, ◌&&◌, List, [], nat_eq, unwrap_or, Option}
use Rattle.std.specs.HashMap.{get}
use Rattle.mm_base.specs.declared.symbols.Label.{Label}
use Rattle.mm_database.specs.declared.assertions.Parsed.{Parsed}
use Rattle.mm_database.specs.declared.heads.Heads.{Heads}
use Rattle.mm_database.specs.HeadKeys.{labels_from}

-- what the index has at a key
abbrev pub labels_at : Heads → ℕ → ℕ → List Label
labels_at x h n = unwrap_or (get (λ (a b : ℕ × ℕ). nat_eq a.0 b.0 && nat_eq a.1 b.1) x.labels (h, n)) []

-- it has at each key the labels of the entries there
abbrev pub AreHeads : List (Option Parsed) → Heads → Type 0
AreHeads parsed x = (h n : ℕ) → labels_at x h n ≡ labels_from h n 0 parsed
