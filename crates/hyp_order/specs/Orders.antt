-- The orders of the same numbers, one after the other.
use Rattle.std.specs.Prelude.{◌≡◌, ℕ, ◌<◌, ◌⊎◌, List, [], ◌∷◌}
use Rattle.std.specs.List.Sorted.{IsPermutation}

-- lexicographic order: of the first two numbers that differ, the one is less
abbrev pub ComesBefore : List ℕ → List ℕ → Type 0
ComesBefore [] ys = ⊥
ComesBefore (x ∷ xs) [] = ⊥
ComesBefore (x ∷ xs) (y ∷ ys) = (x < y) ⊎ ((x ≡ y) × ComesBefore xs ys)

-- it comes before each other order of its numbers
abbrev pub IsFirstOrder : List ℕ → Type 0
IsFirstOrder order = (other : List ℕ) → IsPermutation order other → (order ≡ other) ⊎ ComesBefore order other

-- it comes before no order of its numbers
abbrev pub IsLastOrder : List ℕ → Type 0
IsLastOrder order = (other : List ℕ) → IsPermutation order other → ComesBefore order other → ⊥

-- of the orders of the same numbers that come after it, the first
pub record IsNextOrder (order next : List ℕ) : Type 0 where
  pub same : IsPermutation order next
  pub after : ComesBefore order next
  pub least : (other : List ℕ) → IsPermutation order other → ComesBefore order other → (next ≡ other) ⊎ ComesBefore next other
