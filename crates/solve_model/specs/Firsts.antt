-- The first of several.
use Rattle.std.specs.Prelude.{◌≡◌, ℕ, zero, suc, ◌≤◌, ◌⊎◌, true, List, [], ◌∷◌, map, flat_map, Option, Some, None}
use Rattle.mm_model.specs.Faults.{Fault, fault, comes_first}

-- the first element of a list with a property, or none where no element has it
abbrev pub IsFirstOrNone : {X : Type 0} → (X → Type 0) → List X → Option X → Type 0
IsFirstOrNone P [] o = o ≡ None
IsFirstOrNone P (y ∷ ys) o = ((o ≡ Some y) × P y) ⊎ ((P y → ⊥) × IsFirstOrNone P ys o)

-- the first element with a property
abbrev pub IsFirstIn : {X : Type 0} → (X → Type 0) → List X → X → Type 0
IsFirstIn P xs x = IsFirstOrNone P xs (Some x)

-- the least number from 1 with a property
pub record IsLeast (P : ℕ → Type 0) (n : ℕ) : Type 0 where
  pub from_one : 1 ≤ n
  pub holds : P n
  pub least : (m : ℕ) → 1 ≤ m → P m → n ≤ m

-- of the faults that stand, the first by place and then code
pub record IsFirstFault (Stands : ℕ → ℕ → Type 0) (f : Fault) : Type 0 where
  pub stands : Stands f.place f.code
  pub is_first : (place code : ℕ) → Stands place code → comes_first f (fault place code) ≡ true

-- each element with the others, in order
abbrev pub picks : {X : Type 0} → List X → List (X × List X)
picks [] = []
picks (x ∷ xs) = (x, xs) ∷ map (λ p. (p.0, x ∷ p.1)) (picks xs)

-- the orders of a list of n elements, in lexicographic order of their positions
abbrev pub orders : {X : Type 0} → ℕ → List X → List (List X)
orders zero xs = [] ∷ []
orders (suc n) xs = flat_map (λ p. map (λ rest. p.0 ∷ rest) (orders n p.1)) (picks xs)
