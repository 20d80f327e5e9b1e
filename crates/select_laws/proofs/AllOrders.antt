-- The orders of an order of a list are those of the list.
use Rattle.std.specs.Prelude.{◌≡◌, ℕ, zero, suc, List, [], ◌∷◌, length, map, flat_map, Contains, refl}
use Rattle.std.proofs.Common.{sym, ap, subst, arith, inl, inr}
use Rattle.std.proofs.lemmas.List.Elements.{Contains-append_left, Contains-append_right}
use Rattle.solve_model.specs.Firsts.{picks, orders}
use Rattle.solve_laws.proofs.Elements.{nothing, first, later, parted, only}
use Rattle.again_laws.proofs.Lists.{contains_map, contains_mapped}
use Rattle.again_laws.proofs.Orders.{from_flat_map}

module _ {X Y : Type 0} where
  into_flat_map : (f : Y → List X) (ys : List Y) (y : Y) (x : X) → Contains ys y → Contains (f y) x → Contains (flat_map f ys) x
  into_flat_map f [] y x m o = absurd (nothing y m)
  into_flat_map f (z ∷ ys) y x m o = elim (parted y z ys m) [
    | inl e ↦ Contains-append_left (f z) (flat_map f ys) x (subst (λ w. Contains (f w) x) (sym e) o)
    | inr h ↦ Contains-append_right (f z) (flat_map f ys) x (into_flat_map f ys y x h o)
  ]

-- the element put into the first list at some place gives the second
data Put {X : Type 0} (x : X) : List X → List X → Type 0 where
  here : {xs : List X} → Put x xs (x ∷ xs)
  there : {y : X} {xs ys : List X} → Put x xs ys → Put x (y ∷ xs) (y ∷ ys)

-- the first list is an order of the second
data IsOrder {X : Type 0} : List X → List X → Type 0 where
  none : IsOrder [] []
  one : {x : X} {xs ys zs : List X} → Put x ys zs → IsOrder xs ys → IsOrder (x ∷ xs) zs

module _ {X : Type 0} where
  -- ---- orders turned and joined

  record Swapped (x y : X) (xs zs : List X) : Type 0 where
    between : List X
    first_put : Put x xs between
    second_put : Put y between zs

  swapped : (x y : X) (xs ys zs : List X) → Put y xs ys → Put x ys zs → Swapped x y xs zs
  swapped x y xs ys _ p here = record { between = x ∷ xs; first_put = here; second_put = there p }
  swapped x y xs _ _ here (there {ys = zs} q) = record { between = zs; first_put = q; second_put = here }
  swapped x y _ _ _ (there {y = z} {xs = xs} {ys = ys} p) (there {ys = zs} q) =
      let r = swapped x y xs ys zs p q in record { between = z ∷ r.between; first_put = there r.first_put; second_put = there r.second_put }

  put_order : (x : X) (rs xs ss ys : List X) → Put x rs xs → Put x ss ys → IsOrder rs ss → IsOrder xs ys
  put_order x rs _ ss ys here q o = one q o
  put_order x _ _ ss ys (there {y = y} {xs = rs} {ys = xs} p) q (one {ys = ts} m o) =
      let r = swapped x y ts ss ys m q in one r.second_put (put_order x rs xs ts r.between p r.first_put o)

  order_turned : (xs ys : List X) → IsOrder xs ys → IsOrder ys xs
  order_turned _ _ none = none
  order_turned _ zs (one {x = x} {xs = xs} {ys = ys} p o) = put_order x ys zs xs (x ∷ xs) p here (order_turned xs ys o)

  record Taken (x : X) (rs cs : List X) : Type 0 where
    rest : List X
    is_put : Put x rest cs
    order : IsOrder rs rest

  taken : (x : X) (rs bs cs : List X) → Put x rs bs → IsOrder bs cs → Taken x rs cs
  taken x rs _ cs here (one {ys = ts} q o) = record { rest = ts; is_put = q; order = o }
  taken x _ _ cs (there {y = y} {xs = rs} {ys = bs} p) (one {ys = ts} q o) =
      let r = taken x rs bs ts p o in
      let s = swapped y x r.rest ts cs r.is_put q in
      record { rest = s.between; is_put = s.second_put; order = one s.first_put r.order }

  order_joined : (xs ys zs : List X) → IsOrder xs ys → IsOrder ys zs → IsOrder xs zs
  order_joined _ _ zs none o = o
  order_joined _ ys zs (one {x = x} {xs = xs} {ys = rs} p o) q =
      let r = taken x rs ys zs p q in one r.is_put (order_joined xs rs r.rest o r.order)

  -- ---- the orders that are listed

  picked_put : (xs : List X) (p : X × List X) → Contains (picks xs) p → Put p.0 p.1 xs
  picked_put [] p m = absurd (nothing p m)
  picked_put (x ∷ xs) p m = elim (parted p (x, xs) _ m) [
    | inl e ↦ subst (λ (q : X × List X). Put q.0 q.1 (x ∷ xs)) e here
    | inr h ↦
        let r = contains_mapped (λ (q : X × List X). let z : X × List X = (q.0, x ∷ q.1) in z) (picks xs) p h in
        subst (λ (q : X × List X). Put q.0 q.1 (x ∷ xs)) r.2 (there (picked_put xs r.0 r.1))
  ]

  put_picked : (x : X) (rs xs : List X) → Put x rs xs → Contains (picks xs) (x, rs)
  put_picked x rs _ here = first (x, rs) (x, rs) _ refl
  put_picked x _ _ (there {y = y} {xs = rs} {ys = xs} p) =
      later (x, y ∷ rs) (y, xs) _ (contains_map (λ (q : X × List X). let z : X × List X = (q.0, y ∷ q.1) in z) (picks xs) (x, rs) (put_picked x rs xs p))

  put_long : (x : X) (rs xs : List X) → Put x rs xs → length xs ≡ suc (length rs)
  put_long x rs _ here = refl
  put_long x _ _ (there {xs = rs} {ys = xs} p) = ap suc (put_long x rs xs p)

  listed_order : (n : ℕ) (xs o : List X) → length xs ≡ n → Contains (orders n xs) o → IsOrder o xs
  listed_order zero [] o l m = subst (λ z. IsOrder z []) (only o [] m) none
  listed_order zero (x ∷ xs) o l m = absurd (omega (arith, l))
  listed_order (suc n) xs o l m =
      let r = from_flat_map (λ (p : X × List X). map (λ rest. p.0 ∷ rest) (orders n p.1)) (picks xs) o m in
      let q = contains_mapped (λ rest. r.0.0 ∷ rest) (orders n r.0.1) o r.2 in
      let put = picked_put xs r.0 r.1 in
      let long = put_long r.0.0 r.0.1 xs put in
      subst (λ z. IsOrder z xs) q.2 (one put (listed_order n r.0.1 q.0 (omega (arith, l, long)) q.1))

  order_listed : (n : ℕ) (xs o : List X) → length xs ≡ n → IsOrder o xs → Contains (orders n xs) o
  order_listed zero _ _ l none = first [] [] [] refl
  order_listed (suc n) _ _ l none = absurd (omega (arith, l))
  order_listed zero zs _ l (one {x = x} {ys = rs} p m) = let long = put_long x rs zs p in absurd (omega (arith, l, long))
  order_listed (suc n) zs _ l (one {x = x} {xs = o} {ys = rs} p m) =
      let long = put_long x rs zs p in
      into_flat_map (λ (q : X × List X). map (λ rest. q.0 ∷ rest) (orders n q.1)) (picks zs) (x, rs) (x ∷ o) (put_picked x rs zs p)
      (contains_map (λ rest. x ∷ rest) (orders n rs) o (order_listed n rs o (omega (arith, l, long)) m))

  -- an order of a list has the orders of the list
  pub order_has : (xs o ys : List X) → Contains (orders (length xs) xs) o → Contains (orders (length xs) xs) ys → Contains (orders (length o) o) ys
  order_has xs o ys m k =
      order_listed (length o) o ys refl
      (order_joined ys xs o (listed_order (length xs) xs ys refl k) (order_turned o xs (listed_order (length xs) xs o refl m)))

  pub has_order : (xs o ys : List X) → Contains (orders (length xs) xs) o → Contains (orders (length o) o) ys → Contains (orders (length xs) xs) ys
  has_order xs o ys m k =
      order_listed (length xs) xs ys refl
      (order_joined ys o xs (listed_order (length o) o ys refl k) (listed_order (length xs) xs o refl m))
