-- Tuples of steps, computed.
use Rattle.std.specs.Prelude.{◌≡◌, ℕ, [], ◌∷◌, refl}
use Rattle.auto_model.specs.AutoFilled.{tuples, step_tuples}

pub pairs : tuples {X = ℕ} 2 (0 ∷ 2 ∷ []) ≡ (0 ∷ 0 ∷ []) ∷ (0 ∷ 2 ∷ []) ∷ (2 ∷ 0 ∷ []) ∷ (2 ∷ 2 ∷ []) ∷ []
pairs = refl

pub of_none : step_tuples [] ≡ []
of_none = refl

pub of_one : step_tuples (4 ∷ []) ≡ (4 ∷ []) ∷ (4 ∷ 4 ∷ []) ∷ (4 ∷ 4 ∷ 4 ∷ []) ∷ []
of_one = refl
