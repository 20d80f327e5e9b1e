-- Values with the same variables or with none: what does not clash and lacks nothing still does so.
use Rattle.std.proofs.Common.{◌≡◌, ◌⊎◌, Bool, false, not, List, [], ◌∷◌, ◌++◌, map, filter, filter_map, flat_map, fold, find, slice_get, Option, Some}
use Rattle.std.proofs.Common.{None, refl, sym, ap, subst, ◌∙◌, inl, inr}
use Rattle.std.specs.List.{cons_option, Contains}
use Rattle.std.proofs.lemmas.Bool.{cases_Bool}
use Rattle.std.proofs.lemmas.List.{map-append}
use Rattle.std.proofs.lemmas.List.Elements.{filter-append, Contains-append_left, Contains-append_right, Contains-append_cases}
use Rattle.mm_base.specs.declared.symbols.Sym.{Sym}
use Rattle.mm_base.specs.declared.symbols.Pair.{Pair}
use Rattle.mm_base.specs.declared.tree.Tree.{Tree}
use Rattle.mm_model.specs.Book.{Assertion}
use Rattle.proof_model.specs.Machine.{is_shared}
use Rattle.solve_model.specs.Trees.{variables}
use Rattle.solve_model.specs.PairSets.{ordered, is_pair_in}
use Rattle.solve_laws.specs.PairSetLaws.{PairSetHoldsSame}
use Rattle.solve_laws.proofs.Elements.{nothing, first, later, parted}
use Rattle.written_model.specs.WrittenSteps.{value_of}
use Rattle.written_model.specs.Pairs.{crossings, lesser, shared_variable, clash_of, needed}
use Rattle.ref_search.specs.Completing.{use_of, lack_in}

-- the same, or nothing
abbrev pub IsSameOrNone : {X : Type 0} → List X → List X → Type 0
IsSameOrNone xs ys = (xs ≡ ys) ⊎ (xs ≡ [])

crossed : List Sym → List Sym → List (Sym × Sym)
crossed xs ys = flat_map (λ v. map (λ w. (v, w)) ys) xs

crossed_none : (xs : List Sym) → crossed xs [] ≡ []
unfolding crossed
crossed_none [] = refl
crossed_none (x ∷ xs) = crossed_none xs

none_crossed : (ys : List Sym) → crossed [] ys ≡ []
unfolding crossed
none_crossed ys = refl

same_crossed : (xs ys vs ws : List Sym) → IsSameOrNone xs vs → IsSameOrNone ys ws → IsSameOrNone (crossed xs ys) (crossed vs ws)
same_crossed xs ys vs ws (inr e) f = inr (ap (λ zs. crossed zs ys) e ∙ none_crossed ys)
same_crossed xs ys vs ws (inl e) (inr f) = inr (ap (crossed xs) f ∙ crossed_none xs)
same_crossed xs ys vs ws (inl e) (inl f) = inl (ap (λ zs. crossed zs ys) e ∙ ap (crossed vs) f)

-- ---- a search that finds nothing

none_passes : {X : Type 0} (p : X → Bool) (xs : List X) → find p xs ≡ None → (x : X) → Contains xs x → p x ≡ false
none_passes p [] e x h = absurd (nothing x h)
none_passes p (y ∷ ys) e x h = elim (cases_Bool (p y)) [
  | inl is ↦ let found : Some y ≡ None = rw is at e in absurd (cc)
  | inr not ↦ elim (parted x y ys h) [ inl is ↦ subst (λ z. p z ≡ false) is not | inr k ↦ none_passes p ys (rw not at e) x k ]
]

all_pass : {X : Type 0} (p : X → Bool) (xs : List X) → ((x : X) → Contains xs x → p x ≡ false) → find p xs ≡ None
all_pass p [] h = refl
all_pass p (y ∷ ys) h = let here = h y (first y y ys refl) in rw here (all_pass p ys (λ x k. h x (later x y ys k)))

module _ (a : Assertion) (fewer more : List Tree) (same : (s : Sym) → IsSameOrNone (variables (value_of (use_of a fewer) s)) (variables (value_of (use_of a more) s))) where
  crossings_same : (p : Pair) → IsSameOrNone (crossings (use_of a fewer) p) (crossings (use_of a more) p)
  unfolding crossed
  crossings_same p =
      same_crossed (variables (value_of (use_of a fewer) p.a)) (variables (value_of (use_of a fewer) p.b)) (variables (value_of (use_of a more) p.a)) (variables (value_of (use_of a more) p.b))
      (same p.a) (same p.b)

  -- ---- clashes

  least : List (Sym × Sym) → Option Sym
  least qs = fold lesser None (map (λ (q : Sym × Sym). q.0) (filter is_shared qs))

  least_none : (xs ys : List (Sym × Sym)) → IsSameOrNone xs ys → least ys ≡ None → least xs ≡ None
  unfolding least
  least_none xs ys (inl e) h = ap (λ qs. fold lesser None (map (λ (q : Sym × Sym). q.0) (filter is_shared qs))) e ∙ h
  least_none xs ys (inr e) h = ap (λ qs. fold lesser None (map (λ (q : Sym × Sym). q.0) (filter is_shared qs))) e

  shared_none : (p : Pair) → shared_variable (use_of a more) p ≡ None → shared_variable (use_of a fewer) p ≡ None
  unfolding least
  shared_none p h = least_none (crossings (use_of a fewer) p) (crossings (use_of a more) p) (crossings_same p) h

  no_head : {X : Type 0} (o : Option X) (xs : List X) → slice_get (cons_option o xs) 0 ≡ None → (o ≡ None) × (slice_get xs 0 ≡ None)
  no_head None xs h = (refl, h)
  no_head (Some x) xs h = absurd (cc)

  none_shared : (ps : List Pair) → slice_get (filter_map (shared_variable (use_of a more)) ps) 0 ≡ None → slice_get (filter_map (shared_variable (use_of a fewer)) ps) 0 ≡ None
  none_shared [] h = refl
  none_shared (p ∷ ps) h =
      let parts = no_head (shared_variable (use_of a more) p) (filter_map (shared_variable (use_of a more)) ps) h in
      ap (λ o. slice_get (cons_option o (filter_map (shared_variable (use_of a fewer)) ps)) 0) (shared_none p parts.0) ∙ none_shared ps parts.1

  pub clash_none : clash_of (use_of a more) ≡ None → clash_of (use_of a fewer) ≡ None
  clash_none h = none_shared a.frame.pairs h

  -- ---- needed pairs

  needs : List (Sym × Sym) → List Pair
  needs qs = map (λ (q : Sym × Sym). ordered q.0 q.1) (filter (λ q. not (is_shared q)) qs)

  needs-append : (xs ys : List (Sym × Sym)) → needs (xs ++ ys) ≡ needs xs ++ needs ys
  unfolding needs
  needs-append xs ys =
      ap (map (λ (q : Sym × Sym). ordered q.0 q.1)) (filter-append (λ q. not (is_shared q)) xs ys)
      ∙ map-append (λ (q : Sym × Sym). ordered q.0 q.1) (filter (λ q. not (is_shared q)) xs) (filter (λ q. not (is_shared q)) ys)

  needs_none : needs [] ≡ []
  unfolding needs
  needs_none = refl

  needs_more : (p : Pair) (x : Pair) → Contains (needs (crossings (use_of a fewer) p)) x → Contains (needs (crossings (use_of a more) p)) x
  needs_more p x h = elim (crossings_same p) [
    | inl e ↦ subst (λ qs. Contains (needs qs) x) e h
    | inr e ↦ absurd (nothing x (subst (λ ps. Contains ps x) (ap needs e ∙ needs_none) h))
  ]

  all_needs_more : (ps : List Pair) (x : Pair) → Contains (needs (flat_map (crossings (use_of a fewer)) ps)) x → Contains (needs (flat_map (crossings (use_of a more)) ps)) x
  all_needs_more [] x h = h
  all_needs_more (p ∷ ps) x h =
      let few = crossings (use_of a fewer) p in
      let many = crossings (use_of a more) p in
      subst (λ zs. Contains zs x) (sym (needs-append many (flat_map (crossings (use_of a more)) ps)))
      (elim (Contains-append_cases (needs few) (needs (flat_map (crossings (use_of a fewer)) ps)) x (subst (λ zs. Contains zs x) (needs-append few (flat_map (crossings (use_of a fewer)) ps)) h)) [
        | inl k ↦ Contains-append_left (needs many) (needs (flat_map (crossings (use_of a more)) ps)) x (needs_more p x k)
        | inr k ↦ Contains-append_right (needs many) (needs (flat_map (crossings (use_of a more)) ps)) x (all_needs_more ps x k)
      ])

  needed_more : PairSetHoldsSame → (x : Pair) → Contains (needed (use_of a fewer)) x → Contains (needed (use_of a more)) x
  unfolding needs
  needed_more holds x h =
      (holds (needs (flat_map (crossings (use_of a more)) a.frame.pairs)) x).1
      (all_needs_more a.frame.pairs x ((holds (needs (flat_map (crossings (use_of a fewer)) a.frame.pairs)) x).0 h))

  pub lack_none : PairSetHoldsSame → (given : Option (List Pair)) → lack_in given (use_of a more) ≡ None → lack_in given (use_of a fewer) ≡ None
  lack_none holds None h = refl
  lack_none holds (Some given) h =
      all_pass (λ p. not (is_pair_in given p)) (needed (use_of a fewer))
      (λ x k. none_passes (λ p. not (is_pair_in given p)) (needed (use_of a more)) h x (needed_more holds x k))
