-- Numbers that are not used.
use Rattle.std.specs.Prelude.{◌≡◌, ℕ, ◌==◌, Bool, false, List}
use Rattle.std.specs.List.{list_any}
use Rattle.solve_model.specs.Firsts.{IsLeast}

abbrev pub is_used : List ℕ → ℕ → Bool
is_used used n = list_any (λ m. n == m) used

-- the least number from 1 that is not used
abbrev pub IsLeastFree : List ℕ → ℕ → Type 0
IsLeastFree used n = IsLeast (λ m. is_used used m ≡ false) n
