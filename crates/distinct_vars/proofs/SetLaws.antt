-- Lists of pairs in order that hold the same pairs are one.
use Rattle.std.proofs.Common.{◌≡◌, ℕ, ◌<◌, ◌==◌, ◌⊎◌, Bool, true, false, ◌&&◌, ◌||◌, nat_lt, List, [], ◌∷◌, fold, refl, sym, ap, subst, ◌∙◌, inl, inr, arith}
use Rattle.std.proofs.lemmas.Bool.{cases_Bool}
use Rattle.std.proofs.lemmas.Bool.Decides.{nat_tests}
use Rattle.mm_base.specs.declared.symbols.Pair.{Pair}
use Rattle.mm_model.specs.Names.{sym as symbol}
use Rattle.solve_model.specs.PairSets.{same_pair, stands_before, is_pair_in, put_pair}
use Rattle.solve_laws.specs.PairSetLaws.{AreInOrder}

-- ---- the tests on pairs

abbrev pair : ℕ → ℕ → Pair
pair v w = record { a = symbol v; b = symbol w }

is_same : (p q : Pair) → same_pair p q ≡ true → p ≡ q
is_same p q h = joined p.a.0 p.b.0 q.a.0 q.b.0 (one p.a.0 p.b.0 q.a.0 q.b.0 h) (other p.a.0 p.b.0 q.a.0 q.b.0 h)
  where
    one : (a b c d : ℕ) → ((a == c) && (b == d)) ≡ true → a ≡ c
    one a b c d h = grind (arith, nat_tests, h)

    other : (a b c d : ℕ) → ((a == c) && (b == d)) ≡ true → b ≡ d
    other a b c d h = grind (arith, nat_tests, h)

    joined : (a b c d : ℕ) → a ≡ c → b ≡ d → pair a b ≡ pair c d
    joined a b c d e f = cc

itself : (p : Pair) → same_pair p p ≡ true
itself p = by p.a.0 p.b.0
  where
    by : (a b : ℕ) → ((a == a) && (b == b)) ≡ true
    by a b = grind (arith, nat_tests)

not_before_itself : (p : Pair) → stands_before p p ≡ true → ⊥
not_before_itself p h = by p.a.0 p.b.0 h
  where
    by : (a b : ℕ) → (nat_lt a a || ((a == a) && nat_lt b b)) ≡ true → ⊥
    by a b h = grind (arith, nat_tests, h)

before_parts : (a b c d : ℕ) → (nat_lt a c || ((a == c) && nat_lt b d)) ≡ true → (a < c) ⊎ ((a ≡ c) × (b < d))
before_parts a b c d h = elim (cases_Bool (nat_lt a c)) [
  | inl e ↦ inl (grind (arith, nat_tests, e))
  | inr e ↦ inr (grind (arith, nat_tests, h, e), grind (arith, nat_tests, h, e))
]

before_from : (a b c d : ℕ) → (a < c) ⊎ ((a ≡ c) × (b < d)) → (nat_lt a c || ((a == c) && nat_lt b d)) ≡ true
before_from a b c d (inl h) = grind (arith, nat_tests, h)
before_from a b c d (inr h) = let e = h.0 in let l = h.1 in grind (arith, nat_tests, e, l)

before_twice : (p q r : Pair) → stands_before p q ≡ true → stands_before q r ≡ true → stands_before p r ≡ true
before_twice p q r h k =
    before_from p.a.0 p.b.0 r.a.0 r.b.0 (by p.a.0 p.b.0 q.a.0 q.b.0 r.a.0 r.b.0 (before_parts p.a.0 p.b.0 q.a.0 q.b.0 h) (before_parts q.a.0 q.b.0 r.a.0 r.b.0 k))
  where
    by : (a b c d e f : ℕ) → (a < c) ⊎ ((a ≡ c) × (b < d)) → (c < e) ⊎ ((c ≡ e) × (d < f)) → (a < e) ⊎ ((a ≡ e) × (b < f))
    by a b c d e f (inl h) (inl k) = inl (omega arith)
    by a b c d e f (inl h) (inr k) = inl (omega (arith, k.0))
    by a b c d e f (inr h) (inl k) = inl (omega (arith, h.0))
    by a b c d e f (inr h) (inr k) = inr (omega (arith, h.0, k.0), omega (arith, h.1, k.1))

-- ---- two lists in order

first_before : (x : Pair) (xs : List Pair) (q : Pair) → AreInOrder (x ∷ xs) → is_pair_in xs q ≡ true → stands_before x q ≡ true
first_before x [] q o h = absurd (cc)
first_before x (y ∷ ys) q o h = elim (cases_Bool (same_pair q y)) [
  | inl e ↦ subst (λ z. stands_before x z ≡ true) (sym (is_same q y e)) o.0
  | inr e ↦ let later : is_pair_in ys q ≡ true = rw e at h in before_twice x y q o.0 (first_before y ys q o.1 later)
]

no_test : (b : Bool) → (b ≡ true → ⊥) → b ≡ false
no_test true h = absurd (h refl)
no_test false h = refl

head_there : (x : Pair) (xs : List Pair) → is_pair_in (x ∷ xs) x ≡ true
head_there x xs = rw (itself x) refl

heads_same : (x y : Pair) (xs ys : List Pair) → AreInOrder (x ∷ xs) → AreInOrder (y ∷ ys) → is_pair_in (y ∷ ys) x ≡ true → is_pair_in (x ∷ xs) y ≡ true → x ≡ y
heads_same x y xs ys o p h k = elim (cases_Bool (same_pair x y)) [
  | inl e ↦ is_same x y e
  | inr e ↦ elim (cases_Bool (same_pair y x)) [
    | inl f ↦ sym (is_same y x f)
    | inr f ↦
        let later : is_pair_in ys x ≡ true = rw e at h in
        let other : is_pair_in xs y ≡ true = rw f at k in
        absurd (not_before_itself x (before_twice x y x (first_before x xs y o other) (first_before y ys x p later)))
  ]
]

tail_lacks : (x : Pair) (xs : List Pair) (q : Pair) → AreInOrder (x ∷ xs) → same_pair q x ≡ true → is_pair_in xs q ≡ false
tail_lacks x xs q o e = no_test (is_pair_in xs q) (λ h. not_before_itself x (subst (λ z. stands_before x z ≡ true) (is_same q x e) (first_before x xs q o h)))

abbrev HoldSame : List Pair → List Pair → Type 0
HoldSame xs ys = (q : Pair) → is_pair_in xs q ≡ is_pair_in ys q

tails_hold : (x : Pair) (xs ys : List Pair) → AreInOrder (x ∷ xs) → AreInOrder (x ∷ ys) → HoldSame (x ∷ xs) (x ∷ ys) → HoldSame xs ys
tails_hold x xs ys o p h q = elim (cases_Bool (same_pair q x)) [
  | inl e ↦ tail_lacks x xs q o e ∙ sym (tail_lacks x ys q p e)
  | inr e ↦ let rest : is_pair_in xs q ≡ is_pair_in ys q = rw e at (h q) in rest
]

pub one_list : (xs ys : List Pair) → AreInOrder xs → AreInOrder ys → HoldSame xs ys → xs ≡ ys
one_list [] [] o p h = refl
one_list [] (y ∷ ys) o p h = let bad : false ≡ true = h y ∙ head_there y ys in absurd (cc)
one_list (x ∷ xs) [] o p h = let bad : false ≡ true = sym (h x) ∙ head_there x xs in absurd (cc)
one_list (x ∷ xs) (y ∷ ys) o p h =
    let same : x ≡ y = heads_same x y xs ys o p (sym (h x) ∙ head_there x xs) (h y ∙ head_there y ys) in
    let p' : AreInOrder (x ∷ ys) = subst (λ z. AreInOrder (z ∷ ys)) (sym same) p in
    let h' : HoldSame (x ∷ xs) (x ∷ ys) = subst (λ z. HoldSame (x ∷ xs) (z ∷ ys)) (sym same) h in
    let rest : xs ≡ ys = one_list xs ys o.1 p.1 (tails_hold x xs ys o p' h') in
    cc

-- ---- what a list holds with one pair more

or_same : (a b : Bool) → (a || b) ≡ (a || (a || b))
or_same true b = refl
or_same false b = refl

or_change : (a b c : Bool) → (a || (b || c)) ≡ (b || (a || c))
or_change true true c = refl
or_change true false c = refl
or_change false b c = refl

pub put_holds : (qs : List Pair) (p q : Pair) → is_pair_in (put_pair qs p) q ≡ (same_pair q p || is_pair_in qs q)
put_holds [] p q = refl
put_holds (x ∷ xs) p q = elim (cases_Bool (same_pair p x)) [
  | inl e ↦ rw e (or_same (same_pair q x) (is_pair_in xs q) ∙ ap (λ z. same_pair q z || (same_pair q x || is_pair_in xs q)) (sym (is_same p x e)))
  | inr e ↦ elim (cases_Bool (stands_before p x)) [
    | inl f ↦ rw (e, f) refl
    | inr f ↦ rw (e, f) (ap (λ b. same_pair q x || b) (put_holds xs p q) ∙ or_change (same_pair q x) (same_pair q p) (is_pair_in xs q))
  ]
]

pub fold_holds : (ps acc : List Pair) (q : Pair) → is_pair_in (fold put_pair acc ps) q ≡ (is_pair_in ps q || is_pair_in acc q)
fold_holds [] acc q = refl
fold_holds (p ∷ ps) acc q =
    fold_holds ps (put_pair acc p) q ∙ ap (λ b. is_pair_in ps q || b) (put_holds acc p q) ∙ turned (is_pair_in ps q) (same_pair q p) (is_pair_in acc q)
  where
    turned : (a b c : Bool) → (a || (b || c)) ≡ ((b || a) || c)
    turned true true c = refl
    turned true false c = refl
    turned false true c = refl
    turned false false c = refl
