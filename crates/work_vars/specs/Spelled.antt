-- What a token names: a work variable, by its typecode and its number.
use Rattle.std.specs.Prelude.{◌≡◌, ℕ, ◌^◌, ◌≤◌, ◌<◌, Bool, ◌||◌, Option, Some, None, codes}
use Rattle.std.specs.Bool.{then_some}
use Rattle.std.specs.Str.{bytes_eq}
use Rattle.mm_model.specs.Names.{Name}
use Rattle.solve_model.specs.Formulas.{spelling}

-- the token is the name of the work variable of this typecode with this number, from 1 and below 2^32
pub record IsNameOf (token code : Name) (n : ℕ) : Type 0 where
  pub from_one : 1 ≤ n
  pub in_range : n < 2 ^ 32
  pub spelled : token ≡ spelling code n

-- the work variable whose name a token is, and it is the name of no other; or none has this name
abbrev pub IsNamedBy : Name → Option (Name × ℕ) → Type 0
IsNamedBy token None = (code : Name) (n : ℕ) → IsNameOf token code n → ⊥
IsNamedBy token (Some p) = IsNameOf token p.0 p.1 × ((code : Name) (n : ℕ) → IsNameOf token code n → (code ≡ p.0) × (n ≡ p.1))

-- the names of its work variables have a letter in place of the typecode
abbrev pub has_letter : Name → Bool
has_letter code = bytes_eq code (codes "wff") || bytes_eq code (codes "setvar") || bytes_eq code (codes "class")

-- its number as a work variable of a typecode
abbrev pub number_by : Name → Option (Name × ℕ) → Option ℕ
number_by code None = None
number_by code (Some p) = then_some (bytes_eq code p.0) p.1
