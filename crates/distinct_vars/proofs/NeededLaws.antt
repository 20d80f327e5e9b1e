-- What is put in is what a use needs.
use Rattle.std.proofs.Common.{◌≡◌, ℕ, ◌==◌, Bool, not, true, false, List, [], ◌∷◌, map, filter, fold, refl, sym, ap, subst, ◌∙◌, inl, inr, arith, ◌||◌, ◌&&◌}
use Rattle.std.specs.List.{flat_map, list_any}
use Rattle.std.specs.Ordering.{nat_cmp}
use Rattle.std.specs.BTreeSet.{insert_key}
use Rattle.std.proofs.lemmas.Bool.{cases_Bool, cases_order}
use Rattle.std.proofs.lemmas.Bool.Decides.{nat_tests}
use Rattle.mm_base.proofs.NumberTests.{is_less, no_less, no_self, is_equal, differs_above}
use Rattle.std.proofs.lemmas.List.Folds.{fold-map, list_any-append}
use Rattle.std.proofs.lemmas.List.Sums.{fold-append}
use Rattle.mm_base.specs.declared.symbols.Sym.{Sym}
use Rattle.mm_base.specs.declared.symbols.Pair.{Pair}
use Rattle.mm_base.specs.declared.tree.Tree.{Tree}
use Rattle.mm_model.specs.Names.{sym as symbol}
use Rattle.proof_model.specs.Machine.{is_shared}
use Rattle.solve_model.specs.PairSets.{ordered, put_pair, same_pair, is_pair_in}
use Rattle.solve_model.specs.Trees.{variables}
use Rattle.solve_laws.specs.PairSetLaws.{AreInOrder, PairSetIsInOrder}
use Rattle.written_model.specs.Pairs.{crossings, needed}
use Rattle.written_model.specs.WrittenSteps.{Use, value_of}
use Rattle.distinct_vars.specs.NeededPairs.{distinct, put_needed, put_number, put_row, put_all, put_of}
use Rattle.distinct_vars.specs.Shared.{has_number}
use Rattle.distinct_vars.specs.Uses.{IsUseOf}
use Rattle.distinct_vars.specs.Values.{variables_at, crossed}
use Rattle.distinct_vars.proofs.SetLaws.{one_list, fold_holds}
use Rattle.distinct_vars.proofs.UseLaws.{variables_are}

-- ---- what is put in

abbrev in_order : Sym × Sym → Pair
in_order q = ordered q.0 q.1

puts : (qs : List (Sym × Sym)) (ps : List Pair) → fold put_needed ps qs ≡ fold put_pair ps (map in_order (filter (λ q. not (is_shared q)) qs))
puts [] ps = refl
puts (q ∷ qs) ps = elim (cases_Bool (is_shared q)) [ inl e ↦ rw e (puts qs ps) | inr e ↦ rw e (puts qs (put_pair ps (in_order q))) ]

all_put : (xs ys : List Sym) (ps : List Pair) → put_all xs ys ps ≡ fold put_needed ps (crossed xs ys)
all_put [] ys ps = refl
all_put (x ∷ xs) ys ps =
    all_put xs ys (put_row ys ps x)
    ∙ ap (λ acc. fold put_needed acc (crossed xs ys)) (sym (fold-map put_needed (λ w. (x, w)) ps ys))
    ∙ sym (fold-append put_needed ps (map (λ w. (x, w)) ys) (crossed xs ys))

crossed_at : List Sym → List Tree → Pair → List (Sym × Sym)
crossed_at vars trees p = crossed (distinct (variables_at vars trees p.a)) (distinct (variables_at vars trees p.b))

of_put : (vars : List Sym) (trees : List Tree) (ps : List Pair) (acc : List Pair) → fold (put_of vars trees) acc ps ≡ fold put_needed acc (flat_map (crossed_at vars trees) ps)
unfolding crossed_at
of_put vars trees [] acc = refl
of_put vars trees (p ∷ ps) acc =
    of_put vars trees ps (put_of vars trees acc p)
    ∙ ap (λ a. fold put_needed a (flat_map (crossed_at vars trees) ps)) (all_put (distinct (variables_at vars trees p.a)) (distinct (variables_at vars trees p.b)) acc)
    ∙ sym (fold-append put_needed acc (crossed_at vars trees p) (flat_map (crossed_at vars trees) ps))

-- ---- variables once

or_same : (a b : Bool) → (a || b) ≡ (a || (a || b))
or_same true b = refl
or_same false b = refl

or_change : (a b c : Bool) → (a || (b || c)) ≡ (b || (a || c))
or_change true true c = refl
or_change true false c = refl
or_change false b c = refl

or_false : (a : Bool) → (a || false) ≡ a
or_false true = refl
or_false false = refl

number_put : (k n : ℕ) (ks : List ℕ) → has_number (map symbol (insert_key nat_cmp ks k)) n ≡ ((k == n) || has_number (map symbol ks) n)
number_put k n [] = refl
number_put k n (x ∷ xs) = elim (cases_order k x) [
  | inl e ↦ rw (no_self k x e, is_equal k x e) (or_same (x == n) (has_number (map symbol xs) n) ∙ ap (λ z. (z == n) || ((x == n) || has_number (map symbol xs) n)) (sym e))
  | inr h ↦ elim h [
    | inl l ↦ rw (is_less k x l) refl
    | inr g ↦ rw (no_less k x g, differs_above k x g) (ap (λ b. (x == n) || b) (number_put k n xs) ∙ or_change (x == n) (k == n) (has_number (map symbol xs) n))
  ]
]

numbers_put : (xs : List Sym) (ks : List ℕ) (n : ℕ) → has_number (map symbol (fold put_number ks xs)) n ≡ (has_number xs n || has_number (map symbol ks) n)
numbers_put [] ks n = refl
numbers_put (x ∷ xs) ks n =
    numbers_put xs (put_number ks x) n ∙ ap (λ b. has_number xs n || b) (number_put x.0 n ks) ∙ turned (has_number xs n) (x.0 == n) (has_number (map symbol ks) n)
  where
    turned : (a b c : Bool) → (a || (b || c)) ≡ ((b || a) || c)
    turned true true c = refl
    turned true false c = refl
    turned false true c = refl
    turned false false c = refl

distinct_has : (xs : List Sym) (n : ℕ) → has_number (distinct xs) n ≡ has_number xs n
distinct_has xs n = numbers_put xs [] n ∙ or_false (has_number xs n)

has_any : (g : Sym → Bool) (ys : List Sym) (s : Sym) → has_number ys s.0 ≡ true → g s ≡ true → list_any g ys ≡ true
has_any g [] s h k = absurd (cc)
has_any g (y ∷ ys) s h k = elim (cases_Bool (y.0 == s.0)) [
  | inl e ↦
      let number : y.0 ≡ s.0 = grind (arith, nat_tests, e) in
      let here : g y ≡ true = ap (λ (n : ℕ). g (symbol n)) number ∙ k in
      rw here refl
  | inr e ↦
      let later : has_number ys s.0 ≡ true = rw e at h in
      let rest : list_any g ys ≡ true = has_any g ys s later k in
      elim (cases_Bool (g y)) [ inl f ↦ rw f refl | inr f ↦ rw f rest ]
]

any_into : (g : Sym → Bool) (xs ys : List Sym) → ((n : ℕ) → has_number xs n ≡ true → has_number ys n ≡ true) → list_any g xs ≡ true → list_any g ys ≡ true
any_into g [] ys h k = absurd (cc)
any_into g (x ∷ xs) ys h k = elim (cases_Bool (g x)) [
  | inl e ↦ let same : (x.0 == x.0) ≡ true = is_equal x.0 x.0 refl in has_any g ys x (h x.0 (rw same refl)) e
  | inr e ↦ let later : list_any g xs ≡ true = rw e at k in any_into g xs ys (λ n j. h n (put_later x xs n j)) later
]
  where
    put_later : (x : Sym) (xs : List Sym) (n : ℕ) → has_number xs n ≡ true → has_number (x ∷ xs) n ≡ true
    put_later x xs n j = elim (cases_Bool (x.0 == n)) [ inl e ↦ rw e refl | inr e ↦ rw e j ]

both_ways : (a b : Bool) → (a ≡ true → b ≡ true) → (b ≡ true → a ≡ true) → a ≡ b
both_ways true b f g = sym (f refl)
both_ways false true f g = g refl
both_ways false false f g = refl

any_same : (g : Sym → Bool) (xs ys : List Sym) → ((n : ℕ) → has_number xs n ≡ has_number ys n) → list_any g xs ≡ list_any g ys
any_same g xs ys h = both_ways (list_any g xs) (list_any g ys) (any_into g xs ys (λ n k. sym (h n) ∙ k)) (any_into g ys xs (λ n k. h n ∙ k))

any_mapped : {X Y : Type 0} (f : Y → Bool) (g : X → Y) (xs : List X) → list_any f (map g xs) ≡ list_any (λ x. f (g x)) xs
any_mapped f g [] = refl
any_mapped f g (x ∷ xs) = ap (λ b. f (g x) || b) (any_mapped f g xs)

any_by : {X : Type 0} (f g : X → Bool) → ((x : X) → f x ≡ g x) → (xs : List X) → list_any f xs ≡ list_any g xs
any_by f g h [] = refl
any_by f g h (x ∷ xs) = ap (λ b. b || list_any f xs) (h x) ∙ ap (λ b. g x || b) (any_by f g h xs)

crossed_any : (f : Sym × Sym → Bool) (xs ys : List Sym) → list_any f (crossed xs ys) ≡ list_any (λ x. list_any (λ y. f (x, y)) ys) xs
crossed_any f [] ys = refl
crossed_any f (x ∷ xs) ys =
    list_any-append f (map (λ w. (x, w)) ys) (crossed xs ys) ∙ ap (λ b. b || list_any f (crossed xs ys)) (any_mapped f (λ w. (x, w)) ys)
    ∙ ap (λ b. list_any (λ y. f (x, y)) ys || b) (crossed_any f xs ys)

distinct_crossed : (f : Sym × Sym → Bool) (xs ys : List Sym) → list_any f (crossed (distinct xs) (distinct ys)) ≡ list_any f (crossed xs ys)
distinct_crossed f xs ys =
    crossed_any f (distinct xs) (distinct ys) ∙ any_same (λ x. list_any (λ y. f (x, y)) (distinct ys)) (distinct xs) xs (distinct_has xs)
    ∙ any_by (λ x. list_any (λ y. f (x, y)) (distinct ys)) (λ x. list_any (λ y. f (x, y)) ys) (λ x. any_same (λ y. f (x, y)) (distinct ys) ys (distinct_has ys)) xs
    ∙ sym (crossed_any f xs ys)

-- ---- what is held

hits : Pair → Sym × Sym → Bool
hits q c = not (is_shared c) && same_pair q (in_order c)

kept_any : (q : Pair) (qs : List (Sym × Sym)) → is_pair_in (map in_order (filter (λ c. not (is_shared c)) qs)) q ≡ list_any (hits q) qs
unfolding hits
kept_any q [] = refl
kept_any q (c ∷ qs) = elim (cases_Bool (is_shared c)) [ inl e ↦ rw e (kept_any q qs) | inr e ↦ rw e (ap (λ b. same_pair q (in_order c) || b) (kept_any q qs)) ]

needed_holds : (q : Pair) (qs : List (Sym × Sym)) → is_pair_in (fold put_needed [] qs) q ≡ list_any (hits q) qs
needed_holds q qs =
    ap (λ ps. is_pair_in ps q) (puts qs []) ∙ fold_holds (map in_order (filter (λ c. not (is_shared c)) qs)) [] q
    ∙ or_false (is_pair_in (map in_order (filter (λ c. not (is_shared c)) qs)) q) ∙ kept_any q qs

flat_any : (f : Sym × Sym → Bool) (g h : Pair → List (Sym × Sym)) → ((p : Pair) → list_any f (g p) ≡ list_any f (h p)) → (ps : List Pair) → list_any f (flat_map g ps) ≡ list_any f (flat_map h ps)
flat_any f g h e [] = refl
flat_any f g h e (p ∷ ps) =
    list_any-append f (g p) (flat_map g ps) ∙ ap (λ b. b || list_any f (flat_map g ps)) (e p) ∙ ap (λ b. list_any f (h p) || b) (flat_any f g h e ps)
    ∙ sym (list_any-append f (h p) (flat_map h ps))

needed_once : PairSetIsInOrder → (qs rs : List (Sym × Sym)) → ((q : Pair) → list_any (hits q) qs ≡ list_any (hits q) rs) → fold put_needed [] qs ≡ fold put_needed [] rs
needed_once in_order_law qs rs h =
    one_list (fold put_needed [] qs) (fold put_needed [] rs)
    (subst AreInOrder (sym (puts qs [])) (in_order_law (map in_order (filter (λ c. not (is_shared c)) qs))))
    (subst AreInOrder (sym (puts rs [])) (in_order_law (map in_order (filter (λ c. not (is_shared c)) rs))))
    (λ q. needed_holds q qs ∙ h q ∙ sym (needed_holds q rs))

module _ (in_order_law : PairSetIsInOrder) (u : Use) (pairs : List Pair) (vars : List Sym) (trees : List Tree) (is : IsUseOf u pairs vars trees) where
  crossings_are : (p : Pair) → crossed (variables_at vars trees p.a) (variables_at vars trees p.b) ≡ crossings u p
  crossings_are p =
      ap (λ xs. crossed xs (variables_at vars trees p.b)) (variables_are u pairs vars trees is p.a) ∙ ap (λ ys. crossed (variables (value_of u p.a)) ys) (variables_are u pairs vars trees is p.b)

  hit_same : (q p : Pair) → list_any (hits q) (crossed_at vars trees p) ≡ list_any (hits q) (crossings u p)
  unfolding crossed_at
  hit_same q p = distinct_crossed (hits q) (variables_at vars trees p.a) (variables_at vars trees p.b) ∙ ap (list_any (hits q)) (crossings_are p)

  pub needed_is : fold (put_of vars trees) [] pairs ≡ needed u
  needed_is =
      of_put vars trees pairs []
      ∙ needed_once in_order_law (flat_map (crossed_at vars trees) pairs) (flat_map (crossings u) pairs) (λ q. flat_any (hits q) (crossed_at vars trees) (crossings u) (hit_same q) pairs)
      ∙ ap (λ ps. fold put_needed [] (flat_map (crossings u) ps)) is.pairs_are ∙ puts (flat_map (crossings u) u.assertion.frame.pairs) []

pub put_same_all : (vs ws : List Sym) (ts us : List Tree) (ps qs : List Pair) → vs ≡ ws → ts ≡ us → ps ≡ qs → fold (put_of vs ts) [] ps ≡ fold (put_of ws us) [] qs
put_same_all vs ws ts us ps qs e f g = ap (λ x. fold (put_of x ts) [] ps) e ∙ ap (λ x. fold (put_of ws x) [] ps) f ∙ ap (λ x. fold (put_of ws us) [] x) g
