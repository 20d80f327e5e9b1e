-- What is kept of active statements, said of the statements.
use Rattle.std.proofs.Common.{◌≡◌, ℕ, zero, suc, ◌<◌, ◌≤◌, Bool, true, false, cond, ◌||◌, List, [], ◌∷◌, ◌++◌, append-nil, append_assoc, length, drop}
use Rattle.std.proofs.Common.{map, reverse, flat_map, Option, Some, None, slice_get, option_map, option_and_then, position, nat_eq, refl, sym, ap}
use Rattle.std.proofs.Common.{◌∙◌, arith, inl, inr, subst, codes, ◌⊎◌}
use Rattle.std.specs.List.{list_any, filter, AllByRecursion, ends_with}
use Rattle.std.specs.Str.{bytes_eq}
use Rattle.std.proofs.lemmas.Bool.{cases_Bool, or_cases, or_left, or_right, or_parts}
use Rattle.std.proofs.lemmas.Bool.Decides.{nat_tests}
use Rattle.std.proofs.lemmas.List.{map-append, reverse-append}
use Rattle.std.proofs.lemmas.List.Folds.{list_any-append}
use Rattle.mm_base.proofs.Positions.{position-cons}
use Rattle.mm_base.specs.declared.symbols.Sym.{Sym}
use Rattle.mm_model.specs.Names.{Name, contains}
use Rattle.mm_model.specs.Statements.{Statement, has_keyword, labels_in, labelled, symbols_in, second, active, path, with_keyword}
use Rattle.mm_model.specs.Frames.{symbols, symbol_in, formula_of}
use Rattle.mm_model.proofs.Scopes.{path-open, path-close, path-plain, length-drop-lt}
use Rattle.model_laws.specs.StatementLaws.{IsSound, AreSound}
use Rattle.frame_lists.specs.declared.entry.EntryKind.{EntryKind}
use Rattle.frame_lists.specs.declared.scope.Scope.{Scope}
use Rattle.frame_lists.specs.Entries.{kind_in}
use Rattle.frame_lists.specs.Steps.{has, is_floating, declared, with_float, float_of}
use Rattle.frame_lists.proofs.Keywords.{is_variables, is_distinct, is_essential, kind-is_variables, kind-is_floating}
use Rattle.frame_lists.proofs.Members.{In}
use Rattle.frame_lists.proofs.Numbered.{Numbered, item, on, here, on-is, on-skip, on-keep, here-open}
use Rattle.frame_lists.proofs.Passing.{state}
use Rattle.frame_lists.proofs.Placed.{IsPlaced, item-placed, all-placed}
use Rattle.frame_lists.proofs.ByNumber.{has_symbol, number, number-within, contains-symbols, test-number, variable-known, name-self}
use Rattle.frame_lists.proofs.Added.{plus, added-essentials, added-hyps, added-distinct, added-variables, no_float, a_float, filter-last}

or-swap : (a b : Bool) → (a || b) ≡ (b || a)
or-swap true true = refl
or-swap true false = refl
or-swap false true = refl
or-swap false false = refl

or-assoc : (a b c : Bool) → ((a || b) || c) ≡ (a || (b || c))
or-assoc true b c = refl
or-assoc false b c = refl

or-none : (a : Bool) → (a || false) ≡ a
or-none true = refl
or-none false = refl

or-have : (a b : Bool) → b ≡ true → a ≡ true → (a || b) ≡ a
or-have true b h k = refl
or-have false b h k = absurd cc

has-push : (xs : List ℕ) (x j : ℕ) → has (xs ++ x ∷ []) j ≡ (has xs j || nat_eq j x)
has-push xs x j = list_any-append (nat_eq j) xs (x ∷ []) ∙ ap (λ b. has xs j || b) (or-none (nat_eq j x))

pub declared-has : (vs : List ℕ) (ss : List Sym) (j : ℕ) → has (declared vs ss) j ≡ (has vs j || has_symbol ss j)
declared-has vs [] j = sym (or-none (has vs j))
declared-has vs (s ∷ ss) j = elim (cases_Bool (has vs s.0)) [
  | inl h ↦ rw h (declared-has vs ss j ∙ covered (nat_eq j s.0) refl h)
  | inr h ↦ rw h (declared-has (vs ++ s.0 ∷ []) ss j ∙ ap (λ b. b || has_symbol ss j) (has-push vs s.0 j) ∙ or-assoc (has vs j) (nat_eq j s.0) (has_symbol ss j))
]
  where
    covered : (b : Bool) → nat_eq j s.0 ≡ b → has vs s.0 ≡ true → (has vs j || has_symbol ss j) ≡ (has vs j || (nat_eq j s.0 || has_symbol ss j))
    covered true e h = let same : s.0 ≡ j = grind (arith, nat_tests) in let there : has vs j ≡ true = ap (has vs) (sym same) ∙ h in rw there refl
    covered false e h = rw e refl

pub symbol-found : (names xs : List Name) (j : ℕ) → has_symbol (map (symbol_in names) xs) j ≡ true → (x : Name) × (contains xs x ≡ true) × (number names x ≡ j)
symbol-found names [] j h = absurd cc
symbol-found names (x ∷ xs) j h = elim (or_cases (nat_eq j (number names x)) (has_symbol (map (symbol_in names) xs) j) h) [
  | inl e ↦ let same : number names x ≡ j = grind (arith, nat_tests) in (x, or_left (bytes_eq x x) (contains xs x) (name-self x), same)
  | inr k ↦ let r = symbol-found names xs j k in (r.0, or_right (bytes_eq r.0 x) (contains xs r.0) r.1, r.2)
]

abbrev pub statements_of : List Numbered → List Statement
statements_of ns = map (λ (i : Numbered). i.statement) ns

-- the symbols of those with a keyword
abbrev pub listed_by : (Statement → List Name) → List ℕ → List Statement → List Name
listed_by f k ss = flat_map f (with_keyword k ss)

abbrev pub float_pair : List Name → Numbered → List (ℕ × ℕ)
float_pair names i = cond (is_floating (kind_in i.statement)) (map (λ v. (number names v, i.label)) (second (symbols_in i.statement))) []

-- the variables of `$f` with their labels, in order
abbrev pub float_pairs : List Name → List Numbered → List (ℕ × ℕ)
float_pairs names [] = []
float_pairs names (i ∷ ns) = float_pairs names ns ++ float_pair names i

abbrev pub firsts : List (ℕ × ℕ) → List ℕ
firsts ps = map (λ (p : ℕ × ℕ). p.0) ps

abbrev pub seconds : List (ℕ × ℕ) → List ℕ
seconds ps = map (λ (p : ℕ × ℕ). p.1) ps

-- the first pair of a number
abbrev pub look : ℕ → List (ℕ × ℕ) → Option ℕ
look v [] = None
look v (p ∷ ps) = cond (nat_eq v p.0) (Some p.1) (look v ps)

look-is : (v : ℕ) (ps : List (ℕ × ℕ)) → option_and_then (λ k. slice_get (seconds ps) k) (position (nat_eq v) (firsts ps)) ≡ look v ps
look-is v [] = refl
look-is v (p ∷ ps) =
    ap (λ o. option_and_then (λ k. slice_get (seconds (p ∷ ps)) k) o) (position-cons (nat_eq v) p.0 (firsts ps))
    ∙ elim (cases_Bool (nat_eq v p.0)) as
    (λ w. option_and_then (λ k. slice_get (seconds (p ∷ ps)) k)
    (cond (nat_eq v p.0) (Some 0) (option_map (λ n. suc n) (position (nat_eq v) (firsts ps))))
    ≡ look v (p ∷ ps)) [
      | inl h ↦ rw h refl
      | inr h ↦ rw h (next (position (nat_eq v) (firsts ps)) ∙ look-is v ps)
    ]
  where
    next : (o : Option ℕ) → option_and_then (λ k. slice_get (seconds (p ∷ ps)) k) (option_map (λ n. suc n) o) ≡ option_and_then (λ k. slice_get (seconds ps) k) o
    next None = refl
    next (Some k) = refl

pub look-in : (v x : ℕ) (ps : List (ℕ × ℕ)) → look v ps ≡ Some x → In (v, x) ps
look-in v x [] h = absurd cc
look-in v x (p ∷ ps) h = elim (cases_Bool (nat_eq v p.0)) [
  | inl e ↦
      let is : Some p.1 ≡ Some x = rw e at h in
      let one : v ≡ p.0 = grind (arith, nat_tests) in
      let two : x ≡ p.1 = cc in
      let pair : ℕ → ℕ → ℕ × ℕ = λ a b. (a, b) in
      inl (ap (λ a. pair a x) one ∙ ap (λ b. pair p.0 b) two)
  | inr e ↦ inr (look-in v x ps (rw e at h))
]

look-left : (v x : ℕ) (ps qs : List (ℕ × ℕ)) → look v ps ≡ Some x → look v (ps ++ qs) ≡ Some x
look-left v x [] qs h = absurd cc
look-left v x (p ∷ ps) qs h = elim (cases_Bool (nat_eq v p.0)) [
  | inl e ↦ rw e (rw e at h)
  | inr e ↦ rw e (look-left v x ps qs (rw e at h))
]

look-right : (v : ℕ) (ps qs : List (ℕ × ℕ)) → has (firsts ps) v ≡ false → look v (ps ++ qs) ≡ look v qs
look-right v [] qs h = refl
look-right v (p ∷ ps) qs h = let parts = or_parts (nat_eq v p.0) (has (firsts ps) v) h in rw parts.0 (look-right v ps qs parts.1)

abbrev pub joined : ℕ → ℕ → ℕ × ℕ
joined a b = (a, b)

-- each pair is the first of its number
abbrev pub Unique : List (ℕ × ℕ) → Type 0
Unique ps = (v x : ℕ) → In (v, x) ps → look v ps ≡ Some x

unique-push : (ps : List (ℕ × ℕ)) (w l : ℕ) → has (firsts ps) w ≡ false → Unique ps → Unique (ps ++ (w, l) ∷ [])
unique-push ps w l new u v x i = elim (in-push v x ps i) [
  | inl k ↦ look-left v x ps ((w, l) ∷ []) (u v x k)
  | inr e ↦
      let one : v ≡ w = ap (λ (p : ℕ × ℕ). p.0) e in
      let two : x ≡ l = ap (λ (p : ℕ × ℕ). p.1) e in
      let t : nat_eq v w ≡ true = grind (arith, nat_tests, one) in
      look-right v ps ((w, l) ∷ []) (ap (has (firsts ps)) one ∙ new) ∙ rw t (ap (λ (k : ℕ). Some k) (sym two))
]
  where
    in-push : (v x : ℕ) (ps : List (ℕ × ℕ)) → In (v, x) (ps ++ (w, l) ∷ []) → In (v, x) ps ⊎ (joined v x ≡ joined w l)
    in-push v x [] i = elim i [ inl e ↦ inr e | inr k ↦ absurd k ]
    in-push v x (p ∷ ps) i = elim i [ inl e ↦ inl (inl e) | inr k ↦ elim (in-push v x ps k) [ inl j ↦ inl (inr j) | inr e ↦ inr e ] ]

-- ---- at each level of blocks

module _ (Q : List Numbered → Type 0) (none : Q []) (Fact : List Statement → Statement → Type 0)
    (next : (s : Statement) (e : List Statement) → Fact e s → Q (here e) → Q (item s e ∷ here e)) where
  abbrev pub Facts : List Statement → Type 0
  Facts [] = Unit {0}
  Facts (s ∷ e) = Fact e s × Facts e

  abbrev Levels : List Statement → List ℕ → Type 0
  Levels e p = (k : ℕ) → k ≤ length p → Q (on (drop k p) e)

  plain-levels : (s : Statement) (e : List Statement) → Fact e s → Levels e (path e) → Levels (s ∷ e) (path e)
  plain-levels s e f q zero h = subst Q (sym (on-keep s e)) (next s e f (q 0 (omega arith)))
  plain-levels s e f q (suc k) h = subst Q (sym (on-skip (drop (suc k) (path e)) s e (length-drop-lt k (path e) (omega (arith, h))))) (q (suc k) h)

  open-levels : (s : Statement) (e : List Statement) → Fact e s → Levels e (path e) → has_keyword (codes "${") s ≡ true → Levels (s ∷ e) (length e ∷ path e)
  open-levels s e f q o zero h = subst Q (sym (here-open s e o) ∙ ap (λ (p : List ℕ). on p (s ∷ e)) (path-open s e o)) (next s e f (q 0 (omega arith)))
  open-levels s e f q o (suc k) h = plain-levels s e f q k (omega (arith, h))

  length-one : (p : List ℕ) (k : ℕ) → 0 < length p → k ≤ length (drop 1 p) → suc k ≤ length p
  length-one [] k t h = let bad : ⊥ = omega (arith, t) in absurd bad
  length-one (n ∷ p) k t h = omega (arith, h)

  close-levels : (s : Statement) (e : List Statement) (p : List ℕ) → path e ≡ p → Fact e s → Levels e (path e) → Levels (s ∷ e) (drop 1 p)
  close-levels s e [] is f q k h = subst (λ (p : List ℕ). Levels (s ∷ e) p) is (plain-levels s e f q) k h
  close-levels s e (n ∷ p) is f q k h =
      let deep : suc k ≤ length (path e) = subst (λ (r : List ℕ). suc k ≤ length r) (sym is) (length-one (n ∷ p) k (omega arith) h) in
      let same : drop k p ≡ drop (suc k) (path e) = ap (λ (r : List ℕ). drop (suc k) r) (sym is) in
      subst Q (sym (ap (λ (r : List ℕ). on r (s ∷ e)) same ∙ on-skip (drop (suc k) (path e)) s e (length-drop-lt k (path e) (omega (arith, deep))))) (q (suc k) deep)

  levels : (e : List Statement) → Facts e → Levels e (path e)
  levels [] f zero h = none
  levels [] f (suc k) h = none
  levels (s ∷ e) f k h = elim (cases_Bool (has_keyword (codes "${") s)) [
    | inl o ↦ subst (λ (p : List ℕ). Levels (s ∷ e) p) (sym (path-open s e o)) (open-levels s e f.0 (levels e f.1) o) k h
    | inr o ↦ elim (cases_Bool (has_keyword (codes "$}") s)) [
      | inl c ↦ subst (λ (p : List ℕ). Levels (s ∷ e) p) (sym (path-close s e o c)) (close-levels s e (path e) refl f.0 (levels e f.1)) k h
      | inr c ↦ subst (λ (p : List ℕ). Levels (s ∷ e) p) (sym (path-plain s e o c)) (plain-levels s e f.0 (levels e f.1)) k h
    ]
  ]

  pub at_here : (e : List Statement) → Facts e → Q (here e)
  at_here e f = levels e f 0 (omega arith)

-- ---- in a database

module _ (ss : List Statement) where
  abbrev names : List Name
  names = symbols ss

  variables-known : (ns : List Numbered) (v : Name) → AllByRecursion (IsPlaced ss) ns → contains (listed_by symbols_in (codes "$v") (statements_of ns)) v ≡ true → contains names v ≡ true
  variables-known [] v a h = absurd cc
  variables-known (i ∷ ns) v a h = elim (cases_Bool (has_keyword (codes "$v") i.statement)) [
    | inl k ↦
        let here' : contains (symbols_in i.statement ++ listed_by symbols_in (codes "$v") (statements_of ns)) v ≡ true = rw k at h in
        elim
        (or_cases (contains (symbols_in i.statement) v) (contains (listed_by symbols_in (codes "$v") (statements_of ns)) v)
        (sym (list_any-append (bytes_eq v) (symbols_in i.statement) (listed_by symbols_in (codes "$v") (statements_of ns))) ∙ here')) [
          | inl d ↦ variable-known ss i.at i.statement v a.0.there k d
          | inr d ↦ variables-known ns v a.1 d
        ]
    | inr k ↦ let later : contains (listed_by symbols_in (codes "$v") (statements_of ns)) v ≡ true = rw k at h in variables-known ns v a.1 later
  ]

  -- an active statement with what is known of it
  pub record IsGood (i : Numbered) : Type 0 where
    pub placed : IsPlaced ss i
    pub has_label : (k : List ℕ) → list_any (bytes_eq k) labelled ≡ true → has_keyword k i.statement ≡ true → length (labels_in i.statement) ≡ 1
    pub float_known : (v : Name) → has_keyword (codes "$f") i.statement ≡ true → contains (second (symbols_in i.statement)) v ≡ true → contains names v ≡ true

  active-is : (e : List Statement) → active e ≡ statements_of (here e)
  active-is e = sym (on-is (path e) e)

  item-good : (s : Statement) (e rest : List Statement) → ss ≡ reverse (s ∷ e) ++ rest → IsSound e s → AllByRecursion (IsPlaced ss) (here e) → IsGood (item s e)
  item-good s e rest h sound placed_ = record {
    placed = item-placed s e rest ss h;
    has_label = sound.has_label;
    float_known = λ v f stands. variables-known (here e) v placed_ (ap (λ l. contains (listed_by symbols_in (codes "$v") l) v) (sym (active-is e)) ∙ sound.float_is_variable v f stands);
  }

  back : (s : Statement) (e rest : List Statement) → ss ≡ reverse (s ∷ e) ++ rest → ss ≡ reverse e ++ s ∷ rest
  back s e rest h = h ∙ ap (λ l. l ++ rest) (reverse-append (s ∷ []) e) ∙ append_assoc (reverse e) (s ∷ []) rest

  pub all-good : (e rest : List Statement) → ss ≡ reverse e ++ rest → AreSound e → (p : List ℕ) → AllByRecursion IsGood (on p e)
  all-good [] rest h sound p = tt
  all-good (s ∷ e) rest h sound p =
      let later = all-good e (s ∷ rest) (back s e rest h) sound.1 p in
      let good = item-good s e rest h sound.0 (all-placed e (s ∷ rest) ss (back s e rest h) (path e)) in
      elim (cases_Bool (ends_with nat_eq p (path e))) [
        | inl d ↦ rw d (good, later)
        | inr d ↦ rw d later
      ]

  -- ---- variables

  pub variables-law : (ns : List Numbered) (v : Name) → contains names v ≡ true → has (state names ns).variables (number names v) ≡ contains (listed_by symbols_in (codes "$v") (statements_of ns)) v
  variables-law [] v known = refl
  variables-law (i ∷ ns) v known =
      let st = i.statement in
      let old = (state names ns).variables in
      let later = variables-law ns v known in
      ap (λ l. has l (number names v)) (added-variables (kind_in st) (formula_of names st) i.at i.label (state names ns))
      ∙ elim (cases_Bool (has_keyword (codes "$v") st)) as
      (λ w. has (cond (is_variables (kind_in st)) (declared old (formula_of names st)) old) (number names v)
      ≡ contains (listed_by symbols_in (codes "$v") (st ∷ statements_of ns)) v) [
        | inl k ↦ rw (sym (kind-is_variables st) ∙ k, k) (
            declared-has old (formula_of names st) (number names v)
            ∙ ap (λ b. b || has_symbol (formula_of names st) (number names v)) later
            ∙ ap (λ b. contains (listed_by symbols_in (codes "$v") (statements_of ns)) v || b) (sym (contains-symbols names v (symbols_in st) known))
            ∙ or-swap (contains (listed_by symbols_in (codes "$v") (statements_of ns)) v) (contains (symbols_in st) v)
            ∙ sym (list_any-append (bytes_eq v) (symbols_in st) (listed_by symbols_in (codes "$v") (statements_of ns))))
        | inr k ↦ rw (sym (kind-is_variables st) ∙ k, k) later
      ]

  pub variables-within : (ns : List Numbered) (j : ℕ) → AllByRecursion (IsPlaced ss) ns → has (state names ns).variables j ≡ true → j < length names
  variables-within [] j a h = absurd cc
  variables-within (i ∷ ns) j a h =
      let st = i.statement in
      let old = (state names ns).variables in
      let now : has (cond (is_variables (kind_in st)) (declared old (formula_of names st)) old) j ≡ true =
      ap (λ l. has l j) (sym (added-variables (kind_in st) (formula_of names st) i.at i.label (state names ns))) ∙ h in
      elim (cases_Bool (has_keyword (codes "$v") st)) [
        | inl k ↦
            let both : has (declared old (formula_of names st)) j ≡ true = rw (sym (kind-is_variables st) ∙ k) at now in
            elim (or_cases (has old j) (has_symbol (formula_of names st) j) (sym (declared-has old (formula_of names st) j) ∙ both)) [
              | inl d ↦ variables-within ns j a.1 d
              | inr d ↦ let x = symbol-found names (symbols_in st) j d in subst (λ (n : ℕ). n < length names) x.2 (number-within names x.0 (variable-known ss i.at st x.0 a.0.there k x.1))
            ]
        | inr k ↦ let less : has old j ≡ true = rw (sym (kind-is_variables st) ∙ k) at now in variables-within ns j a.1 less
      ]

  -- ---- labels and numbers, in order

  abbrev pub kind_of : Numbered → EntryKind
  kind_of i = kind_in i.statement

  abbrev pub labels_by : (EntryKind → Bool) → List Numbered → List ℕ
  labels_by q ns = map (λ (i : Numbered). i.label) (filter (λ i. q (kind_of i)) (reverse ns))

  pub essentials-are : (ns : List Numbered) → (state names ns).essentials ≡ labels_by is_essential ns
  essentials-are [] = refl
  essentials-are (i ∷ ns) =
      added-essentials (kind_of i) (formula_of names i.statement) i.at i.label (state names ns)
      ∙ ap (λ l. plus (is_essential (kind_of i)) l i.label) (essentials-are ns)
      ∙ sym (filter-last (λ (j : Numbered). j.label) (λ (j : Numbered). is_essential (kind_of j)) i ns)

  pub hyps-are : (ns : List Numbered) → (state names ns).hyps ≡ labels_by (λ k. is_floating k || is_essential k) ns
  hyps-are [] = refl
  hyps-are (i ∷ ns) =
      added-hyps (kind_of i) (formula_of names i.statement) i.at i.label (state names ns)
      ∙ ap (λ l. plus (is_floating (kind_of i) || is_essential (kind_of i)) l i.label) (hyps-are ns)
      ∙ sym (filter-last (λ (j : Numbered). j.label) (λ (j : Numbered). is_floating (kind_of j) || is_essential (kind_of j)) i ns)

  pub distinct-are : (ns : List Numbered) → (state names ns).distinct ≡ map (λ (i : Numbered). i.at) (filter (λ i. is_distinct (kind_of i)) (reverse ns))
  distinct-are [] = refl
  distinct-are (i ∷ ns) =
      added-distinct (kind_of i) (formula_of names i.statement) i.at i.label (state names ns)
      ∙ ap (λ l. plus (is_distinct (kind_of i)) l i.at) (distinct-are ns)
      ∙ sym (filter-last (λ (j : Numbered). j.at) (λ (j : Numbered). is_distinct (kind_of j)) i ns)

  -- ---- `$f`

  pub typed-law : (ns : List Numbered) (v : Name) → contains names v ≡ true
      → contains (listed_by (λ s. second (symbols_in s)) (codes "$f") (statements_of ns)) v ≡ has (firsts (float_pairs names ns)) (number names v)
  typed-law [] v known = refl
  typed-law (i ∷ ns) v known =
      let st = i.statement in
      let later = typed-law ns v known in
      let rest = listed_by (λ s. second (symbols_in s)) (codes "$f") (statements_of ns) in
      let split : has (firsts (float_pairs names ns ++ float_pair names i)) (number names v)
      ≡ (has (firsts (float_pairs names ns)) (number names v) || has (firsts (float_pair names i)) (number names v)) =
      ap (λ l. has l (number names v)) (map-append (λ (p : ℕ × ℕ). p.0) (float_pairs names ns) (float_pair names i))
      ∙ list_any-append (nat_eq (number names v)) (firsts (float_pairs names ns)) (firsts (float_pair names i)) in
      elim (cases_Bool (has_keyword (codes "$f") st)) as
      (λ w. contains (listed_by (λ s. second (symbols_in s)) (codes "$f") (st ∷ statements_of ns)) v
      ≡ has (firsts (float_pairs names (i ∷ ns))) (number names v)) [
        | inl k ↦ sym (split ∙ rw (sym (kind-is_floating st) ∙ k, k) (
            ap (λ b. b || has (firsts (map (λ u. (number names u, i.label)) (second (symbols_in st)))) (number names v)) (sym later)
            ∙ ap (λ b. contains rest v || b) (one (second (symbols_in st)))
            ∙ or-swap (contains rest v) (contains (second (symbols_in st)) v)
            ∙ sym (list_any-append (bytes_eq v) (second (symbols_in st)) rest)))
        | inr k ↦ sym (split ∙ rw (sym (kind-is_floating st) ∙ k, k) (or-none (has (firsts (float_pairs names ns)) (number names v)) ∙ sym later))
      ]
    where
      one : (us : List Name) → has (firsts (map (λ u. (number names u, i.label)) us)) (number names v) ≡ contains us v
      one [] = refl
      one (u ∷ us) = ap (λ b. b || has (firsts (map (λ x. (number names x, i.label)) us)) (number names v)) (sym (test-number names v u known)) ∙ ap (λ b. bytes_eq v u || b) (one us)

  pub record FloatsAre (ns : List Numbered) : Type 0 where
    pub typed_are : (state names ns).typed ≡ firsts (float_pairs names ns)
    pub floats_are : (state names ns).floats ≡ seconds (float_pairs names ns)
    pub unique : Unique (float_pairs names ns)

  pub record IsNewFloat (e : List Statement) (s : Statement) : Type 0 where
    pub new : (v : Name) → has_keyword (codes "$f") s ≡ true → contains (second (symbols_in s)) v ≡ true → has (firsts (float_pairs names (here e))) (number names v) ≡ false

  new-float : (s : Statement) (e rest : List Statement) → ss ≡ reverse (s ∷ e) ++ rest → IsSound e s → IsNewFloat e s
  new-float s e rest h sound = record {
    new = λ v f stands.
        let placed_ = all-placed e (s ∷ rest) ss (back s e rest h) (path e) in
        let known = (item-good s e rest h sound placed_).float_known v f stands in
        sym (typed-law (here e) v known) ∙ ap (λ l. contains (listed_by (λ x. second (symbols_in x)) (codes "$f") l) v) (sym (active-is e)) ∙ sound.new_float v f stands;
  }

  kept-floats : (i : Numbered) (ns : List Numbered) → is_floating (kind_of i) ≡ false → FloatsAre ns → FloatsAre (i ∷ ns)
  kept-floats i ns k f =
      let none = no_float (kind_of i) (formula_of names i.statement) i.at i.label (state names ns) k in
      let same : float_pairs names (i ∷ ns) ≡ float_pairs names ns =
      ap (λ b. float_pairs names ns ++ cond b (map (λ v. (number names v, i.label)) (second (symbols_in i.statement))) []) k
      ∙ append-nil (float_pairs names ns) in
      record {
        typed_are = none.typed ∙ f.typed_are ∙ ap firsts (sym same);
        floats_are = none.floats ∙ f.floats_are ∙ ap seconds (sym same);
        unique = subst Unique (sym same) f.unique;
      }

  more-floats : (i : Numbered) (ns : List Numbered) → is_floating (kind_of i) ≡ true → (us : List Name) → symbols_in i.statement ≡ us
      → ((v : Name) → contains (second us) v ≡ true → has (firsts (float_pairs names ns)) (number names v) ≡ false) → FloatsAre ns
      → FloatsAre (i ∷ ns)
  more-floats i ns k [] is new f =
      let is_f = a_float (kind_of i) (formula_of names i.statement) i.at i.label (state names ns) k in
      let base = record (state names ns) { hyps = (state names ns).hyps ++ i.label ∷ [] } in
      let same : float_pairs names (i ∷ ns) ≡ float_pairs names ns =
      ap (λ b. float_pairs names ns ++ cond b (map (λ v. (number names v, i.label)) (second (symbols_in i.statement))) []) k
      ∙ ap (λ (u : List Name). float_pairs names ns ++ map (λ v. (number names v, i.label)) (second u)) is
      ∙ append-nil (float_pairs names ns) in
      record {
        typed_are = is_f.typed ∙ ap (λ (u : List Name). (with_float base i.label (map (symbol_in names) u)).typed) is ∙ f.typed_are ∙ ap firsts (sym same);
        floats_are = is_f.floats ∙ ap (λ (u : List Name). (with_float base i.label (map (symbol_in names) u)).floats) is ∙ f.floats_are ∙ ap seconds (sym same);
        unique = subst Unique (sym same) f.unique;
      }
  more-floats i ns k (a ∷ []) is new f =
      let is_f = a_float (kind_of i) (formula_of names i.statement) i.at i.label (state names ns) k in
      let base = record (state names ns) { hyps = (state names ns).hyps ++ i.label ∷ [] } in
      let same : float_pairs names (i ∷ ns) ≡ float_pairs names ns =
      ap (λ b. float_pairs names ns ++ cond b (map (λ v. (number names v, i.label)) (second (symbols_in i.statement))) []) k
      ∙ ap (λ (u : List Name). float_pairs names ns ++ map (λ v. (number names v, i.label)) (second u)) is
      ∙ append-nil (float_pairs names ns) in
      record {
        typed_are = is_f.typed ∙ ap (λ (u : List Name). (with_float base i.label (map (symbol_in names) u)).typed) is ∙ f.typed_are ∙ ap firsts (sym same);
        floats_are = is_f.floats ∙ ap (λ (u : List Name). (with_float base i.label (map (symbol_in names) u)).floats) is ∙ f.floats_are ∙ ap seconds (sym same);
        unique = subst Unique (sym same) f.unique;
      }
  more-floats i ns k (a ∷ v ∷ us) is new f =
      let is_f = a_float (kind_of i) (formula_of names i.statement) i.at i.label (state names ns) k in
      let base = record (state names ns) { hyps = (state names ns).hyps ++ i.label ∷ [] } in
      let mine : has (firsts (float_pairs names ns)) (number names v) ≡ false = new v (or_left (bytes_eq v v) false (name-self v)) in
      let absent : has (state names ns).typed (number names v) ≡ false = ap (λ l. has l (number names v)) f.typed_are ∙ mine in
      let pairs : float_pairs names (i ∷ ns) ≡ float_pairs names ns ++ (number names v, i.label) ∷ [] =
      ap (λ b. float_pairs names ns ++ cond b (map (λ u. (number names u, i.label)) (second (symbols_in i.statement))) []) k
      ∙ ap (λ (w : List Name). float_pairs names ns ++ map (λ u. (number names u, i.label)) (second w)) is in
      record {
        typed_are =
            is_f.typed ∙ ap (λ (u : List Name). (with_float base i.label (map (symbol_in names) u)).typed) is ∙ typed-put absent
            ∙ ap (λ l. l ++ number names v ∷ []) f.typed_are
            ∙ sym (ap firsts pairs ∙ map-append (λ (p : ℕ × ℕ). p.0) (float_pairs names ns) ((number names v, i.label) ∷ []));
        floats_are =
            is_f.floats ∙ ap (λ (u : List Name). (with_float base i.label (map (symbol_in names) u)).floats) is ∙ floats-put absent
            ∙ ap (λ l. l ++ i.label ∷ []) f.floats_are
            ∙ sym (ap seconds pairs ∙ map-append (λ (p : ℕ × ℕ). p.1) (float_pairs names ns) ((number names v, i.label) ∷ []));
        unique = subst Unique (sym pairs) (unique-push (float_pairs names ns) (number names v) i.label mine f.unique);
      }
    where
      typed-put : has (state names ns).typed (number names v) ≡ false
          → (with_float (record (state names ns) { hyps = (state names ns).hyps ++ i.label ∷ [] }) i.label (map (symbol_in names) (a ∷ v ∷ us))).typed
          ≡ (state names ns).typed ++ number names v ∷ []
      typed-put h = rw h refl

      floats-put : has (state names ns).typed (number names v) ≡ false
          → (with_float (record (state names ns) { hyps = (state names ns).hyps ++ i.label ∷ [] }) i.label
          (map (symbol_in names) (a ∷ v ∷ us))).floats
          ≡ (state names ns).floats ++ i.label ∷ []
      floats-put h = rw h refl

  floats-next : (s : Statement) (e : List Statement) → IsNewFloat e s → FloatsAre (here e) → FloatsAre (item s e ∷ here e)
  floats-next s e new f = elim (cases_Bool (has_keyword (codes "$f") s)) [
    | inl k ↦ more-floats (item s e) (here e) (sym (kind-is_floating s) ∙ k) (symbols_in s) refl (λ v stands. new.new v k stands) f
    | inr k ↦ kept-floats (item s e) (here e) (sym (kind-is_floating s) ∙ k) f
  ]

  new-floats : (e rest : List Statement) → ss ≡ reverse e ++ rest → AreSound e → Facts FloatsAre (record { typed_are = refl; floats_are = refl; unique = λ v x i. absurd i }) IsNewFloat floats-next e
  new-floats [] rest h sound = tt
  new-floats (s ∷ e) rest h sound = (new-float s e rest h sound.0, new-floats e (s ∷ rest) (back s e rest h) sound.1)

  pub floats-here : (e rest : List Statement) → ss ≡ reverse e ++ rest → AreSound e → FloatsAre (here e)
  floats-here e rest h sound = at_here FloatsAre (record { typed_are = refl; floats_are = refl; unique = λ v x i. absurd i }) IsNewFloat floats-next e (new-floats e rest h sound)

  pub float-is : (ns : List Numbered) (s : Scope) (v : ℕ) → FloatsAre ns → s.typed ≡ (state names ns).typed → s.floats ≡ (state names ns).floats → float_of s v ≡ look v (float_pairs names ns)
  float-is ns s v f t u =
      ap (λ l. option_and_then (λ k. slice_get s.floats k) (position (nat_eq v) l)) (t ∙ f.typed_are)
      ∙ ap (λ l. option_and_then (λ k. slice_get l k) (position (nat_eq v) (firsts (float_pairs names ns)))) (u ∙ f.floats_are)
      ∙ look-is v (float_pairs names ns)
