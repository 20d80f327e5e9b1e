-- A set of pairs holds the pairs that it is made of, each before the next.
use Rattle.std.specs.Prelude.{◌≡◌, ◌⊎◌, ◌&&◌, ◌||◌, ◌==◌, ℕ, Bool, true, false, List, [], ◌∷◌, Contains, fold, nat_lt, if◌then◌else◌, refl}
use Rattle.std.proofs.Common.{sym, ◌∙◌, arith, inl, inr}
use Rattle.std.proofs.lemmas.Bool.Decides.{nat_tests}
use Rattle.mm_base.specs.declared.symbols.Pair.{Pair}
use Rattle.mm_model.specs.Names.{sym as symbol}
use Rattle.solve_model.specs.PairSets.{same_pair, stands_before, put_pair, pair_set}
use Rattle.solve_laws.specs.PairSetLaws.{PairSetHoldsSame, StandsBeforeNext, AreInOrder, PairSetIsInOrder}
use Rattle.solve_laws.proofs.Elements.{nothing, first, later, parted}

-- ---- the tests

pair : ℕ → ℕ → Pair
pair v w = record { a = symbol v; b = symbol w }

same_numbers : (a b c d : ℕ) → ((a == c) && (b == d)) ≡ true → (a ≡ c) × (b ≡ d)
same_numbers a b c d h = (grind (arith, nat_tests, h), grind (arith, nat_tests, h))

pub same_is : (p q : Pair) → same_pair p q ≡ true → p ≡ q
unfolding pair
same_is p q h = let e = same_numbers p.a.0 p.b.0 q.a.0 q.b.0 h in joined p.a.0 p.b.0 q.a.0 q.b.0 e.0 e.1
  where
    joined : (a b c d : ℕ) → a ≡ c → b ≡ d → pair a b ≡ pair c d
    joined a b c d e f = cc

numbers_before : (a b c d : ℕ) → ((a == c) && (b == d)) ≡ false → (nat_lt a c || ((a == c) && nat_lt b d)) ≡ false → (nat_lt c a || ((c == a) && nat_lt d b)) ≡ true
numbers_before a b c d h k = grind (arith, nat_tests, h, k)

else_after : (p q : Pair) → same_pair p q ≡ false → stands_before p q ≡ false → stands_before q p ≡ true
else_after p q h k = numbers_before p.a.0 p.b.0 q.a.0 q.b.0 h k

-- ---- one pair more

put_case : Bool → Bool → Pair → Pair → List Pair → List Pair → List Pair
put_case same before p q qs rest = if same then q ∷ qs else (if before then p ∷ q ∷ qs else q ∷ rest)

module _ (p q : Pair) (qs rest : List Pair) (x : Pair) where
  out_of : (s b : Bool) → (Contains rest x → (p ≡ x) ⊎ Contains qs x) → Contains (put_case s b p q qs rest) x → (p ≡ x) ⊎ Contains (q ∷ qs) x
  unfolding put_case
  out_of true b f h = inr h
  out_of false true f h = parted x p (q ∷ qs) h
  out_of false false f h = elim (parted x q rest h) [
    | inl e ↦ inr (first x q qs e)
    | inr l ↦ elim (f l) [ inl e ↦ inl e | inr k ↦ inr (later x q qs k) ]
  ]

  into : (s b : Bool) → (s ≡ true → p ≡ q) → ((p ≡ x) ⊎ Contains qs x → Contains rest x) → (p ≡ x) ⊎ Contains (q ∷ qs) x → Contains (put_case s b p q qs rest) x
  unfolding put_case
  into true b same f (inl e) = first x q qs (sym (same refl) ∙ e)
  into true b same f (inr h) = h
  into false true same f (inl e) = first x p (q ∷ qs) e
  into false true same f (inr h) = later x p (q ∷ qs) h
  into false false same f (inl e) = later x q rest (f (inl e))
  into false false same f (inr h) = elim (parted x q qs h) [ inl e ↦ first x q rest e | inr l ↦ later x q rest (f (inr l)) ]

put_out : (qs : List Pair) (p x : Pair) → Contains (put_pair qs p) x → (p ≡ x) ⊎ Contains qs x
unfolding put_case
put_out [] p x h = parted x p [] h
put_out (q ∷ qs) p x h = out_of p q qs (put_pair qs p) x (same_pair p q) (stands_before p q) (put_out qs p x) h

put_in : (qs : List Pair) (p x : Pair) → (p ≡ x) ⊎ Contains qs x → Contains (put_pair qs p) x
unfolding put_case
put_in [] p x (inl e) = first x p [] e
put_in [] p x (inr h) = absurd (nothing x h)
put_in (q ∷ qs) p x h = into p q qs (put_pair qs p) x (same_pair p q) (stands_before p q) (same_is p q) (put_in qs p x) h

-- ---- all of them

fold_out : (ps acc : List Pair) (x : Pair) → Contains (fold put_pair acc ps) x → Contains acc x ⊎ Contains ps x
fold_out [] acc x h = inl h
fold_out (p ∷ ps) acc x h = elim (fold_out ps (put_pair acc p) x h) [
  | inl l ↦ elim (put_out acc p x l) [ inl e ↦ inr (first x p ps e) | inr k ↦ inl k ]
  | inr l ↦ inr (later x p ps l)
]

fold_in : (ps acc : List Pair) (x : Pair) → Contains acc x ⊎ Contains ps x → Contains (fold put_pair acc ps) x
fold_in [] acc x (inl h) = h
fold_in [] acc x (inr h) = absurd (nothing x h)
fold_in (p ∷ ps) acc x (inl h) = fold_in ps (put_pair acc p) x (inl (put_in acc p x (inr h)))
fold_in (p ∷ ps) acc x (inr h) = elim (parted x p ps h) [
  | inl e ↦ fold_in ps (put_pair acc p) x (inl (put_in acc p x (inl e)))
  | inr l ↦ fold_in ps (put_pair acc p) x (inr l)
]

pub holds_same : PairSetHoldsSame
holds_same ps p = (out, λ h. fold_in ps [] p (inr h))
  where
    out : Contains (pair_set ps) p → Contains ps p
    out h = elim (fold_out ps [] p h) [ inl l ↦ absurd (nothing p l) | inr l ↦ l ]

-- ---- their order

module _ (p q : Pair) (qs rest : List Pair) where
  next_case : (s b : Bool) (r : Pair) → stands_before r q ≡ true → stands_before r p ≡ true → StandsBeforeNext r (put_case s b p q qs rest)
  unfolding put_case
  next_case true b r h k = h
  next_case false true r h k = k
  next_case false false r h k = h

  order_case : (s b : Bool) → (b ≡ true → stands_before p q ≡ true) → (s ≡ false → b ≡ false → StandsBeforeNext q rest) → AreInOrder (q ∷ qs) → AreInOrder rest
      → AreInOrder (put_case s b p q qs rest)
  unfolding put_case
  order_case true b f g h k = h
  order_case false true f g h k = (f refl, h)
  order_case false false f g h k = (g refl refl, k)

put_next : (qs : List Pair) (p r : Pair) → StandsBeforeNext r qs → stands_before r p ≡ true → StandsBeforeNext r (put_pair qs p)
unfolding put_case
put_next [] p r h k = k
put_next (q ∷ qs) p r h k = next_case p q qs (put_pair qs p) (same_pair p q) (stands_before p q) r h k

put_ordered : (qs : List Pair) (p : Pair) → AreInOrder qs → AreInOrder (put_pair qs p)
unfolding put_case
put_ordered [] p h = (tt, tt)
put_ordered (q ∷ qs) p h =
    order_case p q qs (put_pair qs p) (same_pair p q) (stands_before p q) (λ b. b) (λ s b. put_next qs p q h.0 (else_after p q s b)) h (put_ordered qs p h.1)

fold_ordered : (ps acc : List Pair) → AreInOrder acc → AreInOrder (fold put_pair acc ps)
fold_ordered [] acc h = h
fold_ordered (p ∷ ps) acc h = fold_ordered ps (put_pair acc p) (put_ordered acc p h)

pub is_in_order : PairSetIsInOrder
is_in_order ps = fold_ordered ps [] tt
