-- Searches in a mapped list.
use Rattle.std.proofs.Common.{◌≡◌, ℕ, ◌+◌, arith, Bool, true, false, cond, not, List, [], ◌∷◌, length, map, position, refl, ap, inl, inr}
use Rattle.std.proofs.lemmas.Bool.{cases_Bool, or_parts}
use Rattle.std.proofs.lemmas.List.{length-map}
use Rattle.std.specs.List.{list_any, prefix_len, position_or_len}

pub list_any_map : {K X : Type 0} (p : X → Bool) (f : K → X) (ks : List K) → list_any p (map f ks) ≡ list_any (λ k. p (f k)) ks
list_any_map p f [] = refl
list_any_map p f (k ∷ ks) = let e = list_any_map p f ks in elim (cases_Bool (p (f k))) [ inl h ↦ rw h refl | inr h ↦ rw h e ]

pub prefix_map : {K X : Type 0} (p : X → Bool) (f : K → X) (ks : List K) → prefix_len p (map f ks) ≡ prefix_len (λ k. p (f k)) ks
prefix_map p f [] = refl
prefix_map p f (k ∷ ks) = let e = prefix_map p f ks in elim (cases_Bool (p (f k))) [ inl h ↦ rw h (ap (λ (n : ℕ). 1 + n) e) | inr h ↦ rw h refl ]

pub position_map : {K X : Type 0} (p : X → Bool) (f : K → X) (ks : List K) → position p (map f ks) ≡ position (λ k. p (f k)) ks
position_map p f ks = rw (prefix_map (λ x. not (p x)) f ks, length-map ks f) refl

-- where no item passes, the list ends before one does
pub absent_len : {K : Type 0} (p : K → Bool) (ks : List K) → list_any p ks ≡ false → position_or_len p ks ≡ length ks
absent_len p [] e = refl
absent_len p (k ∷ ks) e =
    let parts = or_parts (p k) (list_any p ks) e in
    let here : p k ≡ false = parts.0 in
    let rest : position_or_len p ks ≡ length ks = absent_len p ks parts.1 in
    rw here (omega (arith, rest))

pub cond_else : {X : Type 0} (b : Bool) (x y : X) → b ≡ false → cond b x y ≡ y
cond_else true x y e = absurd cc
cond_else false x y e = refl
