-- Where a use has no clash and no lack, the variables of its values are active pairs of the theorem.
use Rattle.std.specs.Prelude.{◌≡◌, ◌<◌, ◌==◌, ◌&&◌, ◌||◌, ℕ, Bool, true, false, not, List, [], ◌∷◌, ◌++◌, length, map, flat_map, filter, filter_map}
use Rattle.std.specs.Prelude.{find, fold, slice_get, Contains, nat_lt, Option, Some, None, refl}
use Rattle.std.specs.List.{list_any, cons_option}
use Rattle.std.proofs.Common.{sym, ap, subst, ◌∙◌, cond, inl, inr}
use Rattle.std.proofs.lemmas.Bool.{cases_Bool, or_left, or_right, and_from, eq-eqb, not_from_false}
use Rattle.std.proofs.lemmas.List.Elements.{Contains-append_left, Contains-append_right}
use Rattle.mm_base.specs.declared.symbols.Sym.{Sym}
use Rattle.mm_base.specs.declared.symbols.Pair.{Pair}
use Rattle.mm_model.specs.Book.{Database, symbol_of, symbol_name}
use Rattle.mm_model.specs.BookFacts.{NamesDiffer}
use Rattle.mm_model.proofs.NameLaws.{symbol_back}
use Rattle.proof_model.specs.Machine.{is_shared}
use Rattle.sheet_text.specs.declared.sheet.PairLine.{PairLine}
use Rattle.solve_model.specs.Trees.{variables}
use Rattle.solve_model.specs.PairSets.{ordered, same_pair, is_pair_in, pair_set}
use Rattle.solve_model.specs.Binding.{two_of}
use Rattle.solve_laws.proofs.PairSetLaws.{holds_same, same_is}
use Rattle.written_model.specs.declared.options.DvMode.{DvMode}
use Rattle.written_model.specs.declared.options.DvMode.TheVariants as dv
use Rattle.written_model.specs.WrittenSteps.{Use, WrittenStep, value_of}
use Rattle.written_model.specs.Pairs.{crossings, lesser, shared_variable, clash_of, needed, needed_by, pairs_of, lack_of}
use Rattle.written_model.specs.Written.{written_pair}
use Rattle.push_laws.proofs.Lists.{first, nothing, parted, map_contains, filter_contains, any_contains, get_contains}

flat_contains : {X Y : Type 0} (f : X → List Y) (xs : List X) (x : X) (y : Y) → Contains xs x → Contains (f x) y → Contains (flat_map f xs) y
flat_contains f [] x y h i = absurd (nothing x h)
flat_contains f (z ∷ xs) x y h i = elim (parted x z xs h) [
  | inl e ↦ Contains-append_left (f z) (flat_map f xs) y (subst (λ w. Contains (f w) y) (sym e) i)
  | inr l ↦ Contains-append_right (f z) (flat_map f xs) y (flat_contains f xs x y l i)
]

-- ---- no clash

always_some : (xs : List Sym) (s : Sym) → fold lesser (Some s) xs ≡ None → ⊥
always_some [] s e = cc
always_some (x ∷ xs) s e = elim (cases_Bool (nat_lt x.0 s.0)) [
  | inl d ↦ always_some xs x (subst (λ (b : Bool). fold lesser (cond b (Some x) (Some s)) xs ≡ None) d e)
  | inr d ↦ always_some xs s (subst (λ (b : Bool). fold lesser (cond b (Some x) (Some s)) xs ≡ None) d e)
]

none_shared : (xs : List Sym) → fold lesser None xs ≡ None → xs ≡ []
none_shared [] e = refl
none_shared (x ∷ xs) e = absurd (always_some xs x e)

none_passes : (xs : List (Sym × Sym)) (q : Sym × Sym) → map (λ (p : Sym × Sym). p.0) (filter is_shared xs) ≡ [] → Contains xs q → is_shared q ≡ false
none_passes xs q e h = elim (cases_Bool (is_shared q)) [
  | inl d ↦
      let there = map_contains (λ (p : Sym × Sym). p.0) (filter is_shared xs) q (filter_contains is_shared xs q h d) in
      absurd (nothing q.0 (subst (λ ys. Contains ys q.0) e there))
  | inr d ↦ d
]

no_first : (xs : List Sym) → slice_get xs 0 ≡ None → xs ≡ []
no_first [] e = refl
no_first (x ∷ xs) e = absurd cc

none_here : {Y : Type 0} (o : Option Y) (ys : List Y) → cons_option o ys ≡ [] → (o ≡ None) × (ys ≡ [])
none_here None ys j = (refl, j)
none_here (Some y) ys j = absurd cc

no_answer : {X Y : Type 0} (h : X → Option Y) (xs : List X) (x : X) → filter_map h xs ≡ [] → Contains xs x → h x ≡ None
no_answer h [] x e c = absurd (nothing x c)
no_answer h (z ∷ xs) x e c =
    let two = none_here (h z) (filter_map h xs) e in
    elim (parted x z xs c) [ inl i ↦ subst (λ y. h y ≡ None) i two.0 | inr l ↦ no_answer h xs x two.1 l ]

pub not_shared : (u : Use) (p : Pair) (v w : Sym) → clash_of u ≡ None → Contains u.assertion.frame.pairs p → Contains (crossings u p) (v, w) → is_shared (v, w) ≡ false
not_shared u p v w e h i =
    let all = no_first (filter_map (shared_variable u) u.assertion.frame.pairs) e in
    let one = no_answer (shared_variable u) u.assertion.frame.pairs p all h in
    none_passes (crossings u p) (v, w) (none_shared (map (λ (q : Sym × Sym). q.0) (filter is_shared (crossings u p))) one) i

pub crossing : (u : Use) (p : Pair) (v w : Sym) → Contains (variables (value_of u p.a)) v → Contains (variables (value_of u p.b)) w → Contains (crossings u p) (v, w)
crossing u p v w h i =
    flat_contains (λ (x : Sym). map (λ (y : Sym). let q : Sym × Sym = (x, y) in q) (variables (value_of u p.b))) (variables (value_of u p.a)) v (v, w) h
    (map_contains (λ (y : Sym). let q : Sym × Sym = (v, y) in q) (variables (value_of u p.b)) w i)

-- ---- what is needed is written

is_needed : (u : Use) (p : Pair) (v w : Sym) → Contains u.assertion.frame.pairs p → Contains (crossings u p) (v, w) → is_shared (v, w) ≡ false → Contains (needed u) (ordered v w)
is_needed u p v w h i e =
    let all = flat_map (crossings u) u.assertion.frame.pairs in
    let there : Contains all (v, w) = flat_contains (crossings u) u.assertion.frame.pairs p (v, w) h i in
    (holds_same (map (λ (q : Sym × Sym). ordered q.0 q.1) (filter (λ q. not (is_shared q)) all)) (ordered v w)).1
    (map_contains (λ (q : Sym × Sym). ordered q.0 q.1) (filter (λ q. not (is_shared q)) all) (v, w) (filter_contains (λ q. not (is_shared q)) all (v, w) there (not_from_false (is_shared (v, w)) e)))

none_lacks : (allowed ps : List Pair) (p : Pair) → find (λ q. not (is_pair_in allowed q)) ps ≡ None → Contains ps p → Contains allowed p
none_lacks allowed [] p e h = absurd (nothing p h)
none_lacks allowed (q ∷ ps) p e h = elim (cases_Bool (is_pair_in allowed q)) [
  | inl d ↦ elim (parted p q ps h) [
    | inl is ↦
        let x = any_contains (same_pair q) allowed d in
        subst (Contains allowed) (sym (same_is q x.0 x.2) ∙ is) x.1
    | inr l ↦ none_lacks allowed ps p (subst (λ (b : Bool). cond (not b) (Some q) (find (λ r. not (is_pair_in allowed r)) ps) ≡ None) d e) l
  ]
  | inr d ↦ let bad : Some q ≡ None = subst (λ (b : Bool). cond (not b) (Some q) (find (λ r. not (is_pair_in allowed r)) ps) ≡ None) d e in absurd cc
]

pub needed_is_written : (mode : DvMode) (allowed : List Pair) (es : List WrittenStep) (i : ℕ) (e : WrittenStep) (u : Use) (p : Pair)
    → slice_get es i ≡ Some e → e.by ≡ Some u → lack_of mode allowed u ≡ None
    → Contains (needed u) p → Contains (pairs_of mode allowed es) p
needed_is_written dv.Given allowed es i e u p at by lack h = none_lacks allowed (needed u) p lack h
needed_is_written dv.Add allowed es i e u p at by lack h =
    (holds_same (allowed ++ flat_map (λ (x : WrittenStep). needed_by x.by) es) p).1
    (Contains-append_right allowed (flat_map (λ (x : WrittenStep). needed_by x.by) es) p
    (flat_contains (λ (x : WrittenStep). needed_by x.by) es e p (get_contains es i e at) (subst (λ o. Contains (needed_by o) p) (sym by) h)))

-- ---- what is written is active

pub record IsNamedPair (db : Database) (p : Pair) : Type 0 where
  pub a : p.a.0 < length db.symbols
  pub b : p.b.0 < length db.symbols

names_back : (db : Database) (differ : NamesDiffer db.symbols) (p : Pair) → IsNamedPair db p → filter_map (symbol_of db) (symbol_name db p.a ∷ symbol_name db p.b ∷ []) ≡ p.a ∷ p.b ∷ []
names_back db differ p n =
    ap (λ o. cons_option o (cons_option (symbol_of db (symbol_name db p.b)) [])) (symbol_back db.symbols differ p.a.0 n.a)
    ∙ ap (λ o. p.a ∷ cons_option o []) (symbol_back db.symbols differ p.b.0 n.b)

pub written_is_active : (db : Database) (differ : NamesDiffer db.symbols) (ps : List Pair) (p : Pair) → IsNamedPair db p → Contains ps p
    → Contains (pair_set (flat_map (λ (l : PairLine). two_of (filter_map (symbol_of db) l.names)) (map (written_pair db) ps))) (ordered p.a p.b)
written_is_active db differ ps p n h =
    (holds_same (flat_map (λ (l : PairLine). two_of (filter_map (symbol_of db) l.names)) (map (written_pair db) ps)) (ordered p.a p.b)).1
    (flat_contains (λ (l : PairLine). two_of (filter_map (symbol_of db) l.names)) (map (written_pair db) ps) (written_pair db p) (ordered p.a p.b) (map_contains (written_pair db) ps p h)
    (subst (λ ss. Contains (two_of ss) (ordered p.a p.b)) (sym (names_back db differ p n)) (first (ordered p.a p.b) (ordered p.a p.b) [] refl)))

-- ---- the two ways in which a pair can stand

abbrev pub joins : Sym × Sym → Pair → Bool
joins vw p = (p.a.0 == vw.0.0 && p.b.0 == vw.1.0) || (p.a.0 == vw.1.0 && p.b.0 == vw.0.0)

pair : Sym → Sym → Pair
pair v w = record { a = v; b = w }

joins_straight : (v w : Sym) → joins (v, w) (pair v w) ≡ true
unfolding pair
joins_straight v w = or_left _ _ (and_from (v.0 == v.0) (w.0 == w.0) (eq-eqb v.0 v.0 refl) (eq-eqb w.0 w.0 refl))

joins_turned : (v w : Sym) → joins (v, w) (pair w v) ≡ true
unfolding pair
joins_turned v w = or_right _ _ (and_from (w.0 == w.0) (v.0 == v.0) (eq-eqb w.0 w.0 refl) (eq-eqb v.0 v.0 refl))

-- a pair of two variables has them in one of two orders
ordered_is : (v w : Sym) (P : Pair → Type 0) → P (pair v w) → P (pair w v) → P (ordered v w)
unfolding pair
ordered_is v w P a b = elim (cases_Bool (nat_lt v.0 w.0)) [
  | inl d ↦ subst (λ (t : Bool). P (cond t (record { a = v; b = w }) (record { a = w; b = v }))) (sym d) a
  | inr d ↦ subst (λ (t : Bool). P (cond t (record { a = v; b = w }) (record { a = w; b = v }))) (sym d) b
]

abbrev Joins : Sym → Sym → Pair → Type 0
Joins v w p = joins (v, w) p ≡ true

twice : (v w : Sym) → Joins v w (ordered (ordered v w).a (ordered v w).b)
unfolding pair
twice v w = ordered_is v w (λ p. Joins v w (ordered p.a p.b)) (ordered_is v w (Joins v w) (joins_straight v w) (joins_turned v w)) (ordered_is w v (Joins v w) (joins_turned v w) (joins_straight v w))

any_join : (vw : Sym × Sym) (ps : List Pair) (p : Pair) → Contains ps p → joins vw p ≡ true → list_any (joins vw) ps ≡ true
any_join vw [] p h e = absurd (nothing p h)
any_join vw (q ∷ ps) p h e = elim (parted p q ps h) [
  | inl is ↦ or_left (joins vw q) (list_any (joins vw) ps) (ap (joins vw) is ∙ e)
  | inr l ↦ or_right (joins vw q) (list_any (joins vw) ps) (any_join vw ps p l e)
]

pub is_active : (db : Database) (differ : NamesDiffer db.symbols) (ps : List Pair) (v w : Sym) → v.0 < length db.symbols → w.0 < length db.symbols → Contains ps (ordered v w)
    → list_any (joins (v, w)) (pair_set (flat_map (λ (l : PairLine). two_of (filter_map (symbol_of db) l.names)) (map (written_pair db) ps))) ≡ true
unfolding pair
is_active db differ ps v w l m h =
    let named = ordered_is v w (IsNamedPair db) (record { a = l; b = m }) (record { a = m; b = l }) in
    any_join (v, w) (pair_set (flat_map (λ (x : PairLine). two_of (filter_map (symbol_of db) x.names)) (map (written_pair db) ps))) (ordered (ordered v w).a (ordered v w).b)
    (written_is_active db differ ps (ordered v w) named h) (twice v w)

pub needed_pair : (u : Use) (p : Pair) (v w : Sym) → Contains u.assertion.frame.pairs p → Contains (variables (value_of u p.a)) v → Contains (variables (value_of u p.b)) w → clash_of u ≡ None
    → (is_shared (v, w) ≡ false) × Contains (needed u) (ordered v w)
needed_pair u p v w h i j clash =
    let c = crossing u p v w i j in
    let apart = not_shared u p v w clash h c in
    (apart, is_needed u p v w h c apart)
