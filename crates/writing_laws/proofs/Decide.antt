-- What can be decided.
use Rattle.std.specs.Prelude.{◌≡◌, ◌<◌, ◌≤◌, ◌==◌, ℕ, zero, suc, Bool, true, false, List, [], ◌∷◌, nat_lt, Contains, Option, Some, None, refl}
use Rattle.std.specs.List.{AllZip, AllByRecursion}
use Rattle.std.proofs.Common.{sym, ap, subst, ◌∙◌, inl, inr, ltb-true, ltb-false, arith, eqb-true, eq-eqb}
use Rattle.std.proofs.lemmas.Bool.{cases_Bool, cases_lt}
use Rattle.mm_base.specs.declared.symbols.Typecode.{Typecode}
use Rattle.mm_base.specs.declared.tree.Tree.{Tree}
use Rattle.solve_model.specs.Trees.{same_tree}
use Rattle.solve_model.specs.Firsts.{IsFirstOrNone, IsFirstIn}
use Rattle.solve_laws.proofs.SameTrees.{same_tree-Decides}
use Rattle.answer_laws.proofs.Elements.{nothing, first, later, parted}
use Rattle.writing_laws.specs.Decisions.{Decided}

pub both_decided : {A B : Type 0} → Decided A → Decided B → Decided (A × B)
both_decided (inl a) (inl b) = inl (a, b)
both_decided (inl a) (inr b) = inr (λ p. b p.1)
both_decided (inr a) d = inr (λ p. a p.0)

pub decided_with : {A B : Type 0} → (A → B) → (B → A) → Decided A → Decided B
decided_with f g (inl a) = inl (f a)
decided_with f g (inr a) = inr (λ b. a (g b))

pub bool_decided : (b : Bool) → Decided (b ≡ true)
bool_decided true = inl refl
bool_decided false = inr (λ e. cc)

pub less_decided : (n m : ℕ) → Decided (n < m)
less_decided n m = elim (cases_Bool (nat_lt n m)) [
  | inl e ↦ inl (ltb-true n m e)
  | inr e ↦ inr (λ l. let more = ltb-false n m e in omega (arith, l, more))
]

pub none_decided : {X : Type 0} (o : Option X) → Decided (o ≡ None)
none_decided None = inl refl
none_decided (Some x) = inr (λ e. cc)

pub trees_decided : (t u : Tree) → Decided (t ≡ u)
trees_decided t u = decided_with (same_tree-Decides t u).0 (same_tree-Decides t u).1 (bool_decided (same_tree t u))

pub some_tree_decided : (o : Option Tree) (t : Tree) → Decided (o ≡ Some t)
some_tree_decided None t = inr (λ e. cc)
some_tree_decided (Some u) t = decided_with (λ e. ap Some e) (λ e. cc) (trees_decided u t)

typecode_with : ℕ → Typecode
typecode_with n = record { 0 = record { 0 = n } }

pub codes_decided : (c d : Typecode) → Decided (c ≡ d)
unfolding typecode_with
codes_decided c d =
    decided_with (λ e. ap typecode_with (eqb-true c.0.0 d.0.0 e)) (λ e. eq-eqb c.0.0 d.0.0 (ap (λ (x : Typecode). x.0.0) e)) (bool_decided (c.0.0 == d.0.0))

pub lists_decided : {X : Type 0} → ((x y : X) → Decided (x ≡ y)) → (xs ys : List X) → Decided (xs ≡ ys)
lists_decided d [] [] = inl refl
lists_decided d [] (y ∷ ys) = inr (λ e. cc)
lists_decided d (x ∷ xs) [] = inr (λ e. cc)
lists_decided d (x ∷ xs) (y ∷ ys) =
    decided_with (λ p. ap (λ z. z ∷ xs) p.0 ∙ ap (λ zs. y ∷ zs) p.1) (λ e. (cc, cc)) (both_decided (d x y) (lists_decided d xs ys))

pub zip_decided : {X Y : Type 0} (R : X → Y → Type 0) → ((x : X) (y : Y) → Decided (R x y)) → (xs : List X) (ys : List Y) → Decided (AllZip R xs ys)
zip_decided R d [] [] = inl tt
zip_decided R d [] (y ∷ ys) = inr (λ h. h)
zip_decided R d (x ∷ xs) [] = inr (λ h. h)
zip_decided R d (x ∷ xs) (y ∷ ys) = both_decided (d x y) (zip_decided R d xs ys)

-- ---- the first with a decided property

module _ {X : Type 0} (P : X → Type 0) where
  pub first_or_none : ((x : X) → Decided (P x)) → (xs : List X) → (o : Option X) × IsFirstOrNone P xs o
  first_or_none d [] = (None, refl)
  first_or_none d (x ∷ xs) = elim (d x) [
    | inl h ↦ (Some x, inl (refl, h))
    | inr h ↦ let rest = first_or_none d xs in (rest.0, inr (h, rest.1))
  ]

  pub first_holds : (xs : List X) (x : X) → IsFirstIn P xs x → P x
  first_holds [] x h = absurd (cc)
  first_holds (y ∷ ys) x (inl h) = let same : x ≡ y = cc in subst P (sym same) h.1
  first_holds (y ∷ ys) x (inr h) = first_holds ys x h.1

  pub none_holds : (xs : List X) → IsFirstOrNone P xs None → AllByRecursion (λ x. P x → ⊥) xs
  none_holds [] h = tt
  none_holds (y ∷ ys) (inl h) = absurd (cc)
  none_holds (y ∷ ys) (inr h) = (h.0, none_holds ys h.1)

-- ---- claims of the numbers below a number, and of the elements of a list

pub implied : {A B : Type 0} → Decided A → Decided B → Decided (A → B)
implied (inl a) (inl b) = inl (λ x. b)
implied (inl a) (inr b) = inr (λ f. b (f a))
implied (inr a) d = inl (λ x. absurd (a x))

module _ (P : ℕ → Type 0) (decide : (i : ℕ) → Decided (P i)) where
  pub some_below : (n : ℕ) → Decided ((i : ℕ) × (i < n) × P i)
  some_below zero = inr (λ p. let l = p.1 in omega (arith, l))
  some_below (suc n) = elim (decide n) [
    | inl h ↦ inl (n, omega arith, h)
    | inr h ↦ elim (some_below n) [
      | inl p ↦ inl (p.0, omega (arith, p.1), p.2)
      | inr none ↦ inr (λ p. elim (cases_lt p.0 n) [
        | inl l ↦ none (p.0, l, p.2)
        | inr l ↦ let last : p.0 ≡ n = last_is n p.0 p.1 l in h (subst P last p.2)
      ])
    ]
  ]
    where
      last_is : (n i : ℕ) → i < suc n → n ≤ i → i ≡ n
      last_is n i l m = omega (arith, l, m)

  pub all_below : (n : ℕ) → Decided ((i : ℕ) → i < n → P i)
  all_below zero = inl (λ i l. absurd (omega (arith, l)))
  all_below (suc n) = elim (decide n) [
    | inr h ↦ inr (λ f. h (f n (omega arith)))
    | inl h ↦ elim (all_below n) [
      | inr none ↦ inr (λ f. none (λ i l. f i (omega (arith, l))))
      | inl all ↦ inl (λ i l. elim (cases_lt i n) [ inl m ↦ all i m | inr m ↦ (let last : n ≡ i = last_is n i l m in subst P last h) ])
    ]
  ]
    where
      last_is : (n i : ℕ) → i < suc n → n ≤ i → n ≡ i
      last_is n i l m = omega (arith, l, m)

pub contains_decided : {X : Type 0} → ((x y : X) → Decided (x ≡ y)) → (xs : List X) (x : X) → Decided (Contains xs x)
contains_decided d [] x = inr (nothing x)
contains_decided d (y ∷ ys) x = elim (d y x) [
  | inl e ↦ inl (first x y ys e)
  | inr n ↦ elim (contains_decided d ys x) [
    | inl o ↦ inl (later x y ys o)
    | inr o ↦ inr (λ h. elim (parted x y ys h) [ inl e ↦ n e | inr l ↦ o l ])
  ]
]

pub numbers_decided : (n m : ℕ) → Decided (n ≡ m)
numbers_decided n m = decided_with (eqb-true n m) (eq-eqb n m) (bool_decided (n == m))

pub names_decided : (xs ys : List ℕ) → Decided (xs ≡ ys)
names_decided = lists_decided numbers_decided

module _ {X : Type 0} (P : X → Type 0) where
  -- the same where it is decided for the elements of the list alone
  pub first_in : (xs : List X) → ((x : X) → Contains xs x → Decided (P x)) → (o : Option X) × IsFirstOrNone P xs o
  first_in [] d = (None, refl)
  first_in (x ∷ xs) d = elim (d x (first x x xs refl)) [
    | inl h ↦ (Some x, inl (refl, h))
    | inr h ↦ let rest = first_in xs (λ y o. d y (later y x xs o)) in (rest.0, inr (h, rest.1))
  ]
