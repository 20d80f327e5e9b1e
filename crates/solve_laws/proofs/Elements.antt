-- The elements of lists of none, one and one more.
use Rattle.std.specs.Prelude.{◌≡◌, ◌⊎◌, zero, suc, List, [], ◌∷◌, Contains, refl}
use Rattle.std.proofs.Common.{arith, inl, inr}

module _ {X : Type 0} where
  pub nothing : (x : X) → Contains [] x → ⊥
  nothing x h = omega (arith, h.1)

  pub first : (x y : X) (ys : List X) → y ≡ x → Contains (y ∷ ys) x
  first x y ys e = (0, omega arith, e)

  pub later : (x y : X) (ys : List X) → Contains ys x → Contains (y ∷ ys) x
  later x y ys (k, l, e) = (suc k, omega (arith, l), e)

  pub parted : (x y : X) (ys : List X) → Contains (y ∷ ys) x → (y ≡ x) ⊎ Contains ys x
  parted x y ys (zero, l, e) = inl e
  parted x y ys (suc k, l, e) = inr (k, omega (arith, l), e)

  pub only : (x y : X) → Contains (y ∷ []) x → y ≡ x
  only x y (zero, l, e) = e
  only x y (suc k, l, e) = absurd (omega (arith, l))

  pub here : (x : X) → Contains (x ∷ []) x
  here x = first x x [] refl
