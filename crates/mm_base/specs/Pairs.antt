-- Two variables that have to be distinct.
use Rattle.std.specs.Prelude.{◌≡◌, ◌<◌, ◌⊎◌}
use Rattle.mm_base.specs.declared.symbols.Sym.{Sym}
use Rattle.mm_base.specs.declared.symbols.Pair.{Pair}

-- the lower number stands first
abbrev pub IsOrdered : Pair → Type 0
IsOrdered pair = pair.a.0 < pair.b.0

-- the pair of these two variables, in either order
pub record IsPairOf (one other : Sym) (pair : Pair) : Type 0 where
  pub ordered : IsOrdered pair
  pub members : ((pair.a ≡ one) × (pair.b ≡ other)) ⊎ ((pair.a ≡ other) × (pair.b ≡ one))
