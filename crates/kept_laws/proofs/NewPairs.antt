-- The pairs of a new theorem are active at it.
use Rattle.std.proofs.Common.{◌≡◌, ◌<◌, ◌+◌, ◌==◌, ◌⊎◌, ℕ, Bool, true, false, not, cond, ◌||◌, ◌&&◌, List, [], ◌∷◌, ◌++◌, length, map, reverse, None, refl, sym, ap, ◌∙◌, codes, arith, subst, inl, inr, Contains}
use Rattle.std.specs.Prelude.{filter, nat_lt}
use Rattle.std.specs.List.{AllByRecursion, list_any, position_or_len}
use Rattle.std.specs.Str.{bytes_eq}
use Rattle.std.proofs.lemmas.Bool.{cases_Bool, and_parts, and_from, both_ways, not_from_false}
use Rattle.std.proofs.lemmas.Bool.Decides.{nat_tests}
use Rattle.std.proofs.lemmas.List.Elements.{Contains-append_left, Contains-append_right}
use Rattle.std.proofs.lemmas.List.Folds.{list_any-append}
use Rattle.std.proofs.lemmas.Slice.Eq.{bytes_eq-Decides}
use Rattle.mm_base.specs.declared.symbols.Pair.{Pair}
use Rattle.mm_base.specs.declared.symbols.Sym.{Sym}
use Rattle.mm_model.specs.Names.{Name, contains}
use Rattle.mm_model.specs.Statements.{statements, database_fault}
use Rattle.mm_model.specs.Frames.{symbols, symbol_in, below, pair_of, active_at}
use Rattle.model_laws.proofs.Listed.{same_names, name_self}
use Rattle.solve_model.specs.PairSets.{ordered}
use Rattle.push_laws.proofs.ActiveHyps.{contains_in}
use Rattle.push_laws.proofs.Lists.{first, later, filter_contains, map_contains, any_of_contains}
use Rattle.install_model.specs.declared.install.NewTheorem.{NewTheorem}
use Rattle.install_model.specs.Moved.{pair_statement}
use Rattle.install_laws.specs.InstalledStatements.{IsPlain}
use Rattle.install_laws.proofs.ActiveNames.{has_kw, active_of, variables_of, active_variables_of, pairs_among, stands_with}
use Rattle.install_laws.proofs.NamesLaw.{plain_is, symbol_names}
use Rattle.install_laws.proofs.WordLaws.{plain_dollar}
use Rattle.installed_laws.specs.CanBePutIn.{CanBePutIn}
use Rattle.kept_laws.proofs.NewActive.{syms, pairs, before, at, new_pairs}
use Rattle.kept_laws.proofs.NewLabels.{new}
use Rattle.kept_laws.proofs.NewMandatory.{contains_filter, any_reverse, any_mapped, symbol_same}

-- ---- one name before another

abbrev Before : Name → Name → List Name → Type 0
Before u v [] = ⊥
Before u v (x ∷ xs) = ((x ≡ u) × (contains xs v ≡ true)) ⊎ Before u v xs

before_in : (u v : Name) (xs : List Name) → contains xs u ≡ true → contains xs v ≡ true
    → position_or_len (bytes_eq u) xs < position_or_len (bytes_eq v) xs → Before u v xs
before_in u v [] a b l = absurd cc
before_in u v (x ∷ xs) a b l = by (before_in u v xs) (bytes_eq u x) refl (bytes_eq v x) refl
  where
    rest : (n : Name) → bytes_eq n x ≡ false → contains (x ∷ xs) n ≡ true → contains xs n ≡ true
    rest n e h = sym (ap (λ c. c || contains xs n) e) ∙ h

    at_later : (n : Name) → bytes_eq n x ≡ false → position_or_len (bytes_eq n) (x ∷ xs) ≡ 1 + position_or_len (bytes_eq n) xs
    at_later n e = ap (λ c. cond (not c) (1 + position_or_len (bytes_eq n) xs) 0) e

    at_first : (n : Name) → bytes_eq n x ≡ true → position_or_len (bytes_eq n) (x ∷ xs) ≡ 0
    at_first n e = ap (λ c. cond (not c) (1 + position_or_len (bytes_eq n) xs) 0) e

    by : (contains xs u ≡ true → contains xs v ≡ true → position_or_len (bytes_eq u) xs < position_or_len (bytes_eq v) xs → Before u v xs)
        → (p : Bool) → bytes_eq u x ≡ p → (q : Bool) → bytes_eq v x ≡ q → Before u v (x ∷ xs)
    by more p e true f = let zero_there = at_first v f in let bad : ⊥ = omega (arith, l, zero_there) in absurd bad
    by more true e false f = inl (sym (same_names u x e), rest v f b)
    by more false e false f =
        let one = at_later u e in
        let two = at_later v f in
        let less : position_or_len (bytes_eq u) xs < position_or_len (bytes_eq v) xs = omega (arith, l, one, two) in
        inr (more (rest u e a) (rest v f b) less)

before_kept : (p : Name → Bool) (u v : Name) → p u ≡ true → p v ≡ true → (xs : List Name) → Before u v xs → Before u v (filter p xs)
before_kept p u v a b [] h = h
before_kept p u v a b (x ∷ xs) (inl h) =
    subst (λ c. Before u v (cond c (x ∷ filter p xs) (filter p xs))) (sym (ap p h.0 ∙ a)) (inl (h.0, contains_filter p xs v ∙ ap (λ c. c && p v) h.1 ∙ b))
before_kept p u v a b (x ∷ xs) (inr h) = by (p x) (before_kept p u v a b xs h)
  where
    by : (c : Bool) → Before u v (filter p xs) → Before u v (cond c (x ∷ filter p xs) (filter p xs))
    by true r = inr r
    by false r = r

among : (ds : List (List Name)) (u v : Name) → stands_with ds u v ≡ true → (xs : List Name) → Before u v xs → Contains (pairs_among ds xs) (u, v)
among ds u v s [] h = absurd h
among ds u v s (x ∷ xs) (inl h) =
    subst (λ y. Contains (map (λ z. (y, z)) (filter (stands_with ds y) xs) ++ pairs_among ds xs) (u, v)) (sym h.0)
    (Contains-append_left (map (λ z. (u, z)) (filter (stands_with ds u) xs)) (pairs_among ds xs) (u, v)
    (map_contains (λ z. (u, z)) (filter (stands_with ds u) xs) v (filter_contains (stands_with ds u) xs v (contains_in xs v h.1) s)))
among ds u v s (x ∷ xs) (inr h) = Contains-append_right (map (λ z. (x, z)) (filter (stands_with ds x) xs)) (pairs_among ds xs) (u, v) (among ds u v s xs h)

-- ---- the text

module _ (text : List ℕ) (place : ℕ) (t : NewTheorem) (can : CanBePutIn text place t) where
  abbrev sy : List Name
  sy = syms text place t can

  abbrev ds : List (List Name)
  ds = reverse (pairs text place t can) ++ filter (has_kw (codes "$d")) (active_of (before text place t can))

  abbrev vs : List Name
  vs = variables_of (before text place t can)

  pair_symbols : (p : Name × Name) → IsPlain p.0 × IsPlain p.1 → symbol_names (pair_statement p) ≡ p.0 ∷ p.1 ∷ []
  pair_symbols p h = rw (plain_is p.0 (plain_dollar p.0 h.0), plain_is p.1 (plain_dollar p.1 h.1)) refl

  stands : (p : Name × Name) → Contains t.pairs p → IsPlain p.0 × IsPlain p.1 → (u v : Name) → (contains (p.0 ∷ p.1 ∷ []) u && contains (p.0 ∷ p.1 ∷ []) v) ≡ true → stands_with ds u v ≡ true
  stands p is plain u v h =
      let test : List Name → Bool = λ d. contains (symbol_names d) u && contains (symbol_names d) v in
      list_any-append test (reverse (pairs text place t can)) (filter (has_kw (codes "$d")) (active_of (before text place t can)))
      ∙ ap (λ c. c || list_any test (filter (has_kw (codes "$d")) (active_of (before text place t can))))
      (any_reverse test (pairs text place t can) ∙ any_mapped test pair_statement t.pairs
      ∙ any_of_contains (λ q. test (pair_statement q)) t.pairs p is (ap (λ ns. contains ns u && contains ns v) (pair_symbols p plain) ∙ h))

  module _ (known : (x : Name) → contains vs x ≡ true → contains sy x ≡ true) where
    in_turn : (u v : Name) → contains vs u ≡ true → contains vs v ≡ true → (symbol_in sy u).0 < (symbol_in sy v).0 → stands_with ds u v ≡ true
        → Contains (active_at (new text place t can) (at text place t can)).pairs (pair_of sy (u, v))
    in_turn u v a b less s =
        subst (λ ps. Contains ps (pair_of sy (u, v))) (sym (new_pairs text place t can))
        (map_contains (pair_of sy) (pairs_among ds (active_variables_of sy (before text place t can))) (u, v)
        (among ds u v s (active_variables_of sy (before text place t can)) (before_kept (contains vs) u v a b sy (before_in u v sy (known u a) (known v b) less))))

    self : (n m : Name) → (contains (n ∷ m ∷ []) n && contains (n ∷ m ∷ []) m) ≡ true
    self n m = and_from (contains (n ∷ m ∷ []) n) (contains (n ∷ m ∷ []) m) (one n m) (two n m)
      where
        one : (x y : Name) → contains (x ∷ y ∷ []) x ≡ true
        one x y = ap (λ c. c || (bytes_eq x y || false)) (name_self x)

        two : (x y : Name) → contains (x ∷ y ∷ []) y ≡ true
        two x y = by (bytes_eq y x) (bytes_eq y y) (name_self y)
          where
            by : (c d : Bool) → d ≡ true → (c || (d || false)) ≡ true
            by true d e = refl
            by false d e = ap (λ z. z || false) e

    turned_self : (n m : Name) → (contains (n ∷ m ∷ []) m && contains (n ∷ m ∷ []) n) ≡ true
    turned_self n m = let both = and_parts (contains (n ∷ m ∷ []) n) (contains (n ∷ m ∷ []) m) (self n m) in and_from (contains (n ∷ m ∷ []) m) (contains (n ∷ m ∷ []) n) both.1 both.0

    -- a pair of the theorem is an active one, by the numbers of its variables
    pub pair_is_active : (p : Name × Name) → Contains t.pairs p → IsPlain p.0 × IsPlain p.1 → contains vs p.0 ≡ true → contains vs p.1 ≡ true → bytes_eq p.0 p.1 ≡ false
        → Contains (active_at (new text place t can) (at text place t can)).pairs (ordered (symbol_in sy p.0) (symbol_in sy p.1))
    pair_is_active p is plain a b other = by (nat_lt (symbol_in sy p.0).0 (symbol_in sy p.1).0) refl
      where
        differ : ((symbol_in sy p.0).0 ≡ (symbol_in sy p.1).0) → ⊥
        differ e = both_ways (bytes_eq p.0 p.1) other (sym (symbol_same (statements text) p.0 p.1 (known p.0 a)) ∙ eq_test e)
          where
            eq_test : (symbol_in sy p.0).0 ≡ (symbol_in sy p.1).0 → ((symbol_in sy p.0).0 == (symbol_in sy p.1).0) ≡ true
            eq_test h = grind (arith, nat_tests, h)

        by : (c : Bool) → nat_lt (symbol_in sy p.0).0 (symbol_in sy p.1).0 ≡ c
            → Contains (active_at (new text place t can) (at text place t can)).pairs
            (cond c (record { a = symbol_in sy p.0; b = symbol_in sy p.1 }) (record { a = symbol_in sy p.1; b = symbol_in sy p.0 }))
        by true e = let less : (symbol_in sy p.0).0 < (symbol_in sy p.1).0 = grind (arith, nat_tests, e) in in_turn p.0 p.1 a b less (stands p is plain p.0 p.1 (self p.0 p.1))
        by false e =
            let less : (symbol_in sy p.1).0 < (symbol_in sy p.0).0 = grind (arith, nat_tests, e, differ) in
            in_turn p.1 p.0 b a less (stands p is plain p.1 p.0 (turned_self p.0 p.1))
