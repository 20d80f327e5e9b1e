-- Orders of lists, computed, and sets of pairs.
use Rattle.std.specs.Prelude.{◌≡◌, ℕ, List, [], ◌∷◌, map, length, refl}
use Rattle.mm_base.specs.declared.symbols.Pair.{Pair}
use Rattle.mm_model.specs.Names.{sym}
use Rattle.solve_model.specs.Firsts.{orders}
use Rattle.solve_model.specs.PairSets.{ordered, pair_set}

pub three : orders {X = ℕ} 3 (1 ∷ 2 ∷ 3 ∷ [])
    ≡ (1 ∷ 2 ∷ 3 ∷ []) ∷ (1 ∷ 3 ∷ 2 ∷ []) ∷ (2 ∷ 1 ∷ 3 ∷ []) ∷ (2 ∷ 3 ∷ 1 ∷ []) ∷ (3 ∷ 1 ∷ 2 ∷ []) ∷ (3 ∷ 2 ∷ 1 ∷ []) ∷ []
three = refl

-- by position: of two equal elements each order stands twice
pub equal : orders {X = ℕ} 2 (7 ∷ 7 ∷ []) ≡ (7 ∷ 7 ∷ []) ∷ (7 ∷ 7 ∷ []) ∷ []
equal = refl

pub six : length (orders {X = ℕ} 6 (1 ∷ 2 ∷ 3 ∷ 4 ∷ 5 ∷ 6 ∷ [])) ≡ 720
six = refl

abbrev pair : ℕ → ℕ → Pair
pair v w = ordered (sym v) (sym w)

abbrev numbers : List Pair → List (ℕ × ℕ)
numbers ps = map (λ (p : Pair). (p.a.0, p.b.0)) ps

pub set : numbers (pair_set (pair 9 4 ∷ pair 2 7 ∷ pair 4 9 ∷ pair 2 3 ∷ [])) ≡ (2, 3) ∷ (2, 7) ∷ (4, 9) ∷ []
set = refl
