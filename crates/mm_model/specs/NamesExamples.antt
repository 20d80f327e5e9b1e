-- Lists of names, computed.
use Rattle.std.specs.Prelude.{◌≡◌, ◌==◌, true, false, [], ◌∷◌, Some, None, codes, map, refl}
use Rattle.mm_model.specs.Names.{contains, has_twice, first_number}

pub among : map (contains (codes "a" ∷ codes "bc" ∷ [])) (codes "bc" ∷ codes "b" ∷ [] ∷ []) ≡ true ∷ false ∷ false ∷ []
among = refl

pub twice : map has_twice ((codes "a" ∷ codes "b" ∷ codes "a" ∷ []) ∷ (codes "a" ∷ codes "b" ∷ []) ∷ [] ∷ []) ≡ true ∷ false ∷ false ∷ []
twice = refl

pub numbers : map (λ n. first_number (λ m. m == n) (4 ∷ 5 ∷ 4 ∷ [])) (4 ∷ 5 ∷ 6 ∷ []) ≡ Some 0 ∷ Some 1 ∷ None ∷ []
numbers = refl
