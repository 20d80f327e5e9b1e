-- Claims that are decided.
use Rattle.std.specs.Prelude.{◌⊎◌}

-- the claim holds, or it does not
abbrev pub Decided : Type 0 → Type 0
Decided P = P ⊎ (P → ⊥)
