-- No constant is a variable, by the bytes of tokens.
use Rattle.std.proofs.Common.{◌≡◌, ◌⊎◌, ℕ, suc, ◌+◌, Bool, true, false, ◌&&◌, ◌||◌, cond, List, [], ◌∷◌, ◌++◌, take, drop, flat_map, refl, sym, ap, ◌∙◌}
use Rattle.std.proofs.Common.{subst, inl, inr, codes, append_assoc, arith, nat_eq}
use Rattle.std.specs.Prelude.{filter, take_while}
use Rattle.std.specs.List.{list_any, prefix_len, ends_with}
use Rattle.std.specs.Str.{bytes_eq}
use Rattle.std.proofs.lemmas.Bool.{cases_Bool, or_cases, or_left, or_right, or_parts, not-true, both_ways}
use Rattle.std.proofs.lemmas.List.Folds.{list_any-append}
use Rattle.mm_model.specs.Names.{Name, contains}
use Rattle.model_laws.proofs.Listed.{same_names}
use Rattle.install_laws.specs.InstalledStatements.{HasNoDollar}
use Rattle.install_laws.proofs.ActiveLaw.{all_append}
use Rattle.install_laws.proofs.NamesLaw.{is_plain, body_names, symbol_names}
use Rattle.model_laws.proofs.Passing.{any-filter, any_kept, any-flat}
use Rattle.install_laws.proofs.ActiveNames.{has_kw, path_of, on_path, active_of, variables_of}
use Rattle.installed_laws.proofs.RuleTable.{AllFalse, table, token, known, taken, extra, bad, constants_of, ever_of, Passes}
use Rattle.installed_laws.proofs.Walks.{Walk, Each}
use Rattle.installed_laws.proofs.BlockWords.{ArePlain, plain_word, plain_token, front_with, front_is_at}

one_plus : (m : ℕ) → 1 + m ≡ suc m
one_plus m = omega arith

pub while_plain : (x : Name) (xs : List Name) → is_plain x ≡ true → take_while is_plain (x ∷ xs) ≡ x ∷ take_while is_plain xs
while_plain x xs e = ap (λ b. take (cond b (1 + prefix_len is_plain xs) 0) (x ∷ xs)) e ∙ ap (λ m. take m (x ∷ xs)) (one_plus (prefix_len is_plain xs))

while_stops : (x : Name) (xs : List Name) → is_plain x ≡ false → take_while is_plain (x ∷ xs) ≡ []
while_stops x xs e = ap (λ b. take (cond b (1 + prefix_len is_plain xs) 0) (x ∷ xs)) e

body_plain : (x : Name) (xs : List Name) → is_plain x ≡ true → body_names (x ∷ xs) ≡ body_names xs
body_plain x xs e = ap (λ b. drop (cond b (1 + prefix_len is_plain xs) 0) (x ∷ xs)) e ∙ ap (λ m. drop m (x ∷ xs)) (one_plus (prefix_len is_plain xs))

body_stops : (x : Name) (xs : List Name) → is_plain x ≡ false → body_names (x ∷ xs) ≡ x ∷ xs
body_stops x xs e = ap (λ b. drop (cond b (1 + prefix_len is_plain xs) 0) (x ∷ xs)) e

-- ---- a symbol of a statement, where it passes the rules

module _ (e : List (List Name)) (k n : Name) (stops : is_plain k ≡ false) (differs : bytes_eq k (codes "$=") ≡ false) where
  record Found : Type 0 where
    pub us : List Name
    pub after : List Name
    pub tests : (t x b : Bool) × AllFalse (table (known e n) (front_with k false us n) plain_word t x b)

  found_here : (f us : List Name) (after : List Name) → ArePlain f → ArePlain us → HasNoDollar n → Passes e (f ++ k ∷ us) n after → Found
  found_here f us after pf pu pn h =
      let whole = f ++ k ∷ us in
      record {
        us = us;
        after = after;
        tests = (
          taken e whole n,
          extra whole n after,
          bad whole n,
          subst (λ x. AllFalse (table (known e n) (front_with k false us n) x (taken e whole n) (extra whole n after) (bad whole n))) (plain_token n pn)
              (subst (λ x. AllFalse (table (known e n) x (token n) (taken e whole n) (extra whole n after) (bad whole n))) (front_is_at f k us n pf stops differs pu) h),
        );
      }

  in_symbols : (f us s : List Name) → ArePlain f → ArePlain us → Walk e (f ++ k ∷ us) s → contains (take_while is_plain s) n ≡ true → Found
  in_symbols f us [] pf pu h c = absurd cc
  in_symbols f us (x ∷ s) pf pu h c = elim (cases_Bool (is_plain x)) [
    | inr d ↦ let bad : false ≡ true = sym (ap (λ ns. contains ns n) (while_stops x s d)) ∙ c in absurd cc
    | inl d ↦
        let px : HasNoDollar x = not-true _ d in
        elim (or_cases (bytes_eq n x) (contains (take_while is_plain s) n) (sym (ap (λ ns. contains ns n) (while_plain x s d)) ∙ c)) [
          | inl same ↦
              let is : n ≡ x = same_names n x same in
              found_here f us (take 1 s) pf pu (subst HasNoDollar (sym is) px) (subst (λ y. Passes e (f ++ k ∷ us) y (take 1 s)) (sym is) h.0)
          | inr later ↦ in_symbols f (us ++ x ∷ []) s pf (all_append HasNoDollar us (x ∷ []) pu (px, tt)) (subst (λ g. Walk e g s) (append_assoc f (k ∷ us) (x ∷ [])) h.1) later
        ]
  ]

  in_statement : (f s : List Name) → ArePlain f → Walk e f s → has_kw k s ≡ true → contains (symbol_names s) n ≡ true → Found
  in_statement f [] pf h is c = absurd cc
  in_statement f (w ∷ s) pf h is c = elim (cases_Bool (is_plain w)) [
    | inl d ↦
        let same = body_plain w s d in
        in_statement (f ++ w ∷ []) s (all_append HasNoDollar f (w ∷ []) pf (not-true _ d, tt)) h.1
        (sym (ap (λ ns. list_any (λ m. bytes_eq m k) (take 1 ns)) same) ∙ is) (sym (ap (λ ns. contains (take_while is_plain (drop 1 ns)) n) same) ∙ c)
    | inr d ↦
        let same = body_stops w s d in
        let first : (bytes_eq w k || false) ≡ true = sym (ap (λ ns. list_any (λ m. bytes_eq m k) (take 1 ns)) same) ∙ is in
        let is_k : w ≡ k = elim (or_cases (bytes_eq w k) false first) [ inl g ↦ same_names w k g | inr g ↦ let bad : false ≡ true = g in absurd cc ] in
        in_symbols f [] s pf tt (subst (λ x. Walk e (f ++ x ∷ []) s) is_k h.1) (sym (ap (λ ns. contains (take_while is_plain (drop 1 ns)) n) same) ∙ c)
  ]

-- ---- a declared symbol is new

constant_new : (e : List (List Name)) (s : List Name) (n : Name) → Walk e [] s → has_kw (codes "$c") s ≡ true → contains (symbol_names s) n ≡ true → contains (ever_of e) n ≡ false
constant_new e s n h is c =
    let f = in_statement e (codes "$c") n refl refl [] s tt h is c in
    let one = or_parts (contains (constants_of e) n || contains (ever_of e) n || contains f.us n) false f.tests.3.1.1.0 in
    (or_parts (contains (constants_of e) n) (contains (ever_of e) n) (or_parts (contains (constants_of e) n || contains (ever_of e) n) (contains f.us n) one.0).0).1

variable_new : (e : List (List Name)) (s : List Name) (n : Name) → Walk e [] s → has_kw (codes "$v") s ≡ true → contains (symbol_names s) n ≡ true → contains (constants_of e) n ≡ false
variable_new e s n h is c =
    let f = in_statement e (codes "$v") n refl refl [] s tt h is c in
    let one : (contains (constants_of e) n || (known e n).variable || contains f.us n) ≡ false = f.tests.3.1.1.0 in
    (or_parts (contains (constants_of e) n) (known e n).variable (or_parts (contains (constants_of e) n || (known e n).variable) (contains f.us n) one).0).0

-- of `$c` and `$v` a statement has one keyword
one_keyword : (s : List Name) → has_kw (codes "$c") s ≡ true → has_kw (codes "$v") s ≡ true → ⊥
one_keyword s h k = by (body_names s) h k
  where
    first : (m j : Name) → (bytes_eq m j || false) ≡ true → m ≡ j
    first m j h = elim (or_cases (bytes_eq m j) false h) [ inl d ↦ same_names m j d | inr d ↦ let bad : false ≡ true = d in absurd cc ]

    by : (ns : List Name) → list_any (λ m. bytes_eq m (codes "$c")) (take 1 ns) ≡ true → list_any (λ m. bytes_eq m (codes "$v")) (take 1 ns) ≡ true → ⊥
    by [] h k = let bad : false ≡ true = h in absurd cc
    by (m ∷ ns) h k = let bad : false ≡ true = subst (λ x. (bytes_eq x (codes "$v") || false) ≡ true) (first m (codes "$c") h) k in absurd cc

-- what a name among those that statements with a keyword declare stands in
split_declared : (k : Name) (s : List Name) (e : List (List Name)) (n : Name) → (b : Bool) → has_kw k s ≡ b
    → contains (flat_map symbol_names (cond b (s ∷ filter (has_kw k) e) (filter (has_kw k) e))) n ≡ true
    → ((has_kw k s ≡ true) × (contains (symbol_names s) n ≡ true)) ⊎ (contains (flat_map symbol_names (filter (has_kw k) e)) n ≡ true)
split_declared k s e n false is h = inr h
split_declared k s e n true is h =
    elim (or_cases (contains (symbol_names s) n) _ (sym (list_any-append (bytes_eq n) (symbol_names s) (flat_map symbol_names (filter (has_kw k) e))) ∙ h)) [
      | inl c ↦ inl (is, c)
      | inr c ↦ inr c
    ]

pub constants_apart : (e : List (List Name)) → Each e → (n : Name) → contains (constants_of e) n ≡ true → contains (ever_of e) n ≡ true → ⊥
constants_apart [] h n c v = cc
constants_apart (s ∷ e) h n c v =
    elim (split_declared (codes "$c") s e n (has_kw (codes "$c") s) refl c) [
      | inl a ↦ elim (split_declared (codes "$v") s e n (has_kw (codes "$v") s) refl v) [
        | inl b ↦ one_keyword s a.0 b.0
        | inr b ↦ both_ways (contains (ever_of e) n) (constant_new e s n h.0 a.0 a.1) b
      ]
      | inr a ↦ elim (split_declared (codes "$v") s e n (has_kw (codes "$v") s) refl v) [
        | inl b ↦ both_ways (contains (constants_of e) n) (variable_new e s n h.0 b.0 b.1) a
        | inr b ↦ constants_apart e h.1 n a b
      ]
    ]

-- an active variable was declared
pub active_ever : (e : List (List Name)) (n : Name) → contains (variables_of e) n ≡ true → contains (ever_of e) n ≡ true
active_ever e n h =
    let q : List Name → Bool = λ s. has_kw (codes "$v") s && contains (symbol_names s) n in
    let some : list_any q (active_of e) ≡ true =
    any-filter (λ s. contains (symbol_names s) n) (has_kw (codes "$v")) (active_of e) (sym (any-flat (bytes_eq n) symbol_names (filter (has_kw (codes "$v")) (active_of e))) ∙ h) in
    any-flat (bytes_eq n) symbol_names (filter (has_kw (codes "$v")) e) ∙ any_kept (λ s. contains (symbol_names s) n) (has_kw (codes "$v")) e (any-on q (path_of e) e some)
  where
    any-on : (q : List Name → Bool) (p : List ℕ) (e : List (List Name)) → list_any q (on_path p e) ≡ true → list_any q e ≡ true
    any-on q p [] h = h
    any-on q p (s ∷ e) h = by (ends_with nat_eq p (path_of e)) h (any-on q p e)
      where
        by : (b : Bool) → list_any q (cond b (s ∷ on_path p e) (on_path p e)) ≡ true → (list_any q (on_path p e) ≡ true → list_any q e ≡ true) → (q s || list_any q e) ≡ true
        by true k more = elim (or_cases (q s) (list_any q (on_path p e)) k) [ inl d ↦ or_left (q s) (list_any q e) d | inr d ↦ or_right (q s) (list_any q e) (more d) ]
        by false k more = or_right (q s) (list_any q e) (more k)
