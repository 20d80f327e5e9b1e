-- The first of a list, by its front, and by another list.
use Rattle.std.specs.Prelude.{◌≡◌, ◌++◌, List, [], ◌∷◌, refl}
use Rattle.std.specs.List.{AllByRecursion, AllZip}
use Rattle.std.proofs.Common.{sym, subst, inl, inr}
use Rattle.solve_model.specs.Firsts.{IsFirstIn}

module _ {X : Type 0} (P : X → Type 0) where
  pub first_in_front : (xs ys : List X) (x : X) → IsFirstIn P xs x → IsFirstIn P (xs ++ ys) x
  first_in_front [] ys x h = absurd (cc)
  first_in_front (z ∷ zs) ys x (inl h) = inl h
  first_in_front (z ∷ zs) ys x (inr h) = inr (h.0, first_in_front zs ys x h.1)

  pub first_behind : (xs ys : List X) (x : X) → AllByRecursion (λ y. P y → ⊥) xs → IsFirstIn P ys x → IsFirstIn P (xs ++ ys) x
  first_behind [] ys x n h = h
  first_behind (z ∷ zs) ys x n h = inr (n.0, first_behind zs ys x n.1 h)

-- lists of which each two elements have the property together
module _ {X Y : Type 0} (P : X → Type 0) (Q : Y → Type 0) (R : X → Y → Type 0) (there : (x : X) (y : Y) → R x y → P x → Q y) (again : (x : X) (y : Y) → R x y → Q y → P x) where
  pub record FirstThere (x : X) (ys : List Y) : Type 0 where
    pub other : Y
    pub is_first : IsFirstIn Q ys other
    pub related : R x other

  pub first_there : (xs : List X) (ys : List Y) (x : X) → AllZip R xs ys → IsFirstIn P xs x → FirstThere x ys
  first_there [] ys x z h = absurd (cc)
  first_there (a ∷ bs) [] x z h = absurd z
  first_there (a ∷ bs) (y ∷ ys) x z (inl h) =
      let same : x ≡ a = cc in
      record { other = y; is_first = inl (refl, there a y z.0 h.1); related = subst (λ b. R b y) (sym same) z.0 }
  first_there (a ∷ bs) (y ∷ ys) x z (inr h) =
      let rest = first_there bs ys x z.1 h.1 in
      record { other = rest.other; is_first = inr ((λ q. h.0 (again a y z.0 q)), rest.is_first); related = rest.related }
