-- The least variable of a tree from a number on, and the least one that two trees share. This is part of the proof, and not of the claim.
use Rattle.std.specs.Prelude.{◌≡◌, ℕ, ◌≤◌, ◌==◌, Bool, true, ◌&&◌, List, nat_lt, nat_le, if◌then◌else◌, Option, Some, None}
use Rattle.std.specs.List.{list_any}
use Rattle.mm_base.specs.declared.symbols.Sym.{Sym}

-- the one of two numbers from `low` on that is less
abbrev pub lesser_from : ℕ → Option ℕ → Sym → Option ℕ
lesser_from low None s = if nat_le low s.0 then Some s.0 else None
lesser_from low (Some best) s = if nat_le low s.0 && nat_lt s.0 best then Some s.0 else Some best

abbrev pub has_number : List Sym → ℕ → Bool
has_number xs n = list_any (λ (s : Sym). s.0 == n) xs

-- the least number that stands in both lists
abbrev pub IsLeastShared : List Sym → List Sym → Option ℕ → Type 0
IsLeastShared xs ys None = (n : ℕ) → has_number xs n ≡ true → has_number ys n ≡ true → ⊥
IsLeastShared xs ys (Some v) =
    (has_number xs v ≡ true) × (has_number ys v ≡ true) × ((n : ℕ) → has_number xs n ≡ true → has_number ys n ≡ true → v ≤ n)
