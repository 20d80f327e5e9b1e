-- The variables of an assertion and of the active `$e`.
use Rattle.std.proofs.Common.{◌≡◌, ℕ, zero, suc, Bool, true, false, ◌&&◌, ◌||◌, List, [], ◌∷◌, ◌++◌, append-nil, length, map, reverse, Some}
use Rattle.std.proofs.Common.{slice_get, option_map, unwrap_or, get_or, refl, sym, ap, ◌∙◌, arith, inl, inr, codes, nat_eq}
use Rattle.std.specs.List.{list_any, filter, AllByRecursion}
use Rattle.std.proofs.lemmas.Bool.{cases_Bool}
use Rattle.std.proofs.lemmas.Bool.Decides.{nat_tests}
use Rattle.std.proofs.lemmas.List.{reverse-append}
use Rattle.std.proofs.lemmas.List.Folds.{list_any-append}
use Rattle.mm_base.specs.declared.symbols.Sym.{Sym}
use Rattle.mm_model.specs.Names.{Name, contains}
use Rattle.mm_model.specs.declared.frames.Hyp.{Hyp}
use Rattle.mm_model.specs.Statements.{Statement, has_keyword, labels_in, symbols_in, with_keyword}
use Rattle.mm_model.specs.Frames.{symbols, formula_of, label_in, hypothesis_of}
use Rattle.frame_lists.specs.declared.entry.Entry.{Entry}
use Rattle.frame_lists.specs.declared.listed.Listed.{Listed}
use Rattle.frame_lists.specs.declared.scope.Scope.{Scope}
use Rattle.frame_lists.specs.Lists.{AreOf}
use Rattle.frame_lists.specs.Entries.{entry_in, kind_in}
use Rattle.frame_lists.specs.Steps.{has, is_floating, marked, marked_all, mandatory, symbols_at, position_at, floating_at, hypothesis_at}
use Rattle.frame_lists.proofs.Keywords.{is_essential, kind-is_essential, kind-is_floating}
use Rattle.frame_lists.proofs.Numbered.{Numbered}
use Rattle.frame_lists.proofs.Placed.{IsPlaced}
use Rattle.frame_lists.proofs.ByNumber.{has_symbol, number, contains-symbols, any-turned}
use Rattle.frame_lists.proofs.Added.{map-reverse, filter-append}
use Rattle.frame_lists.proofs.StateLaws.{IsGood, statements_of, listed_by, variables-law, essentials-are}
use Rattle.frame_lists.proofs.Passing.{state}

-- ---- Booleans

keep-or : (a v f : Bool) → (v && f) ≡ false → (a || (v && f)) ≡ a
keep-or true v f h = refl
keep-or false v f h = h

spread : (a v f r : Bool) → ((a || (v && f)) || (v && r)) ≡ (a || (v && (f || r)))
spread true v f r = refl
spread false true f r = refl
spread false false f r = refl

or-none : (a : Bool) → (a || false) ≡ a
or-none true = refl
or-none false = refl

has-push : (xs : List ℕ) (x j : ℕ) → has (xs ++ x ∷ []) j ≡ (has xs j || nat_eq j x)
has-push xs x j = list_any-append (nat_eq j) xs (x ∷ []) ∙ ap (λ b. has xs j || b) (or-none (nat_eq j x))

-- ---- the set

step-in : (a v f r : Bool) → v ≡ true → ((a || f) || (v && r)) ≡ (a || (v && (f || r)))
step-in true v f r h = refl
step-in false true f r h = refl
step-in false false f r h = absurd cc

module _ (vars : List ℕ) where
  pub marked-has : (set : List ℕ) (ss : List Sym) (j : ℕ) → has (marked vars set ss) j ≡ (has set j || (has vars j && has_symbol ss j))
  marked-has set [] j = none (has set j) (has vars j)
    where
      none : (a v : Bool) → a ≡ (a || (v && false))
      none true v = refl
      none false true = refl
      none false false = refl
  marked-has set (s ∷ ss) j = elim (cases_Bool (has vars s.0)) [
    | inl v ↦ elim (cases_Bool (has set s.0)) [
      | inl h ↦ rw (v, h) (marked-has set ss j ∙ there (nat_eq j s.0) refl h)
      | inr h ↦ rw (v, h) (marked-has (set ++ s.0 ∷ []) ss j ∙ ap (λ b. b || (has vars j && has_symbol ss j)) (has-push set s.0 j) ∙ new (nat_eq j s.0) refl v)
    ]
    | inr v ↦ rw v (marked-has set ss j ∙ other (nat_eq j s.0) refl v)
  ]
    where
      there : (b : Bool) → nat_eq j s.0 ≡ b → has set s.0 ≡ true → (has set j || (has vars j && has_symbol ss j)) ≡ (has set j || (has vars j && (nat_eq j s.0 || has_symbol ss j)))
      there true e h = let same : s.0 ≡ j = grind (arith, nat_tests) in let is : has set j ≡ true = ap (has set) (sym same) ∙ h in rw is refl
      there false e h = rw e refl

      new : (b : Bool) → nat_eq j s.0 ≡ b → has vars s.0 ≡ true → ((has set j || nat_eq j s.0) || (has vars j && has_symbol ss j)) ≡ (has set j || (has vars j && (nat_eq j s.0 || has_symbol ss j)))
      new true e v = let same : s.0 ≡ j = grind (arith, nat_tests) in let is : has vars j ≡ true = ap (has vars) (sym same) ∙ v in step-in (has set j) (has vars j) (nat_eq j s.0) (has_symbol ss j) is
      new false e v = rw e (ap (λ b. b || (has vars j && has_symbol ss j)) (or-none (has set j)))

      other : (b : Bool) → nat_eq j s.0 ≡ b → has vars s.0 ≡ false → (has set j || (has vars j && has_symbol ss j)) ≡ (has set j || (has vars j && (nat_eq j s.0 || has_symbol ss j)))
      other true e v = let same : s.0 ≡ j = grind (arith, nat_tests) in let is : has vars j ≡ false = ap (has vars) (sym same) ∙ v in rw is refl
      other false e v = rw e refl

  -- a symbol of one of the statements of these labels
  abbrev pub any_symbol : Listed → List ℕ → ℕ → Bool
  any_symbol l es j = list_any (λ n. has_symbol (symbols_at l (position_at l n)) j) es

  pub marked_all-has : (l : Listed) (set es : List ℕ) (j : ℕ) → has (marked_all l vars set es) j ≡ (has set j || (has vars j && any_symbol l es j))
  marked_all-has l set [] j = none (has set j) (has vars j)
    where
      none : (a v : Bool) → a ≡ (a || (v && false))
      none true v = refl
      none false true = refl
      none false false = refl
  marked_all-has l set (n ∷ es) j =
      let here' = symbols_at l (position_at l n) in
      marked_all-has l (marked vars set here') es j
      ∙ ap (λ b. b || (has vars j && any_symbol l es j)) (marked-has set here' j)
      ∙ spread (has set j) (has vars j) (has_symbol here' j) (any_symbol l es j)

pub mandatory-has : (l : Listed) (s : Scope) (ss : List Sym) (j : ℕ) → has (mandatory l s ss) j ≡ (has s.variables j && (has_symbol ss j || any_symbol s.variables l s.essentials j))
mandatory-has l s ss j =
    marked_all-has s.variables l (marked s.variables [] ss) s.essentials j
    ∙ ap (λ b. b || (has s.variables j && any_symbol s.variables l s.essentials j)) (marked-has s.variables [] ss j)
    ∙ spread false (has s.variables j) (has_symbol ss j) (any_symbol s.variables l s.essentials j)

-- ---- look-ups

pub get-map : {X Y : Type 0} (f : X → Y) (xs : List X) (k : ℕ) → slice_get (map f xs) k ≡ option_map f (slice_get xs k)
get-map f [] zero = refl
get-map f [] (suc k) = refl
get-map f (x ∷ xs) zero = refl
get-map f (x ∷ xs) (suc k) = get-map f xs k

get-or : {X : Type 0} (xs : List X) (k : ℕ) (x d : X) → slice_get xs k ≡ Some x → get_or xs k d ≡ x
get-or [] zero x d h = absurd cc
get-or [] (suc k) x d h = absurd cc
get-or (y ∷ xs) zero x d h = cc
get-or (y ∷ xs) (suc k) x d h = get-or xs k x d h

pub filter-reverse : {X : Type 0} (q : X → Bool) (xs : List X) → filter q (reverse xs) ≡ reverse (filter q xs)
filter-reverse q [] = refl
filter-reverse q (x ∷ xs) =
    ap (λ l. filter q l) (reverse-append (x ∷ []) xs) ∙ filter-append q (reverse xs) (x ∷ []) ∙ ap (λ l. l ++ filter q (x ∷ [])) (filter-reverse q xs)
    ∙ elim (cases_Bool (q x)) as (λ w. reverse (filter q xs) ++ filter q (x ∷ []) ≡ reverse (filter q (x ∷ xs))) [
      | inl h ↦ rw h (sym (reverse-append (x ∷ []) (filter q xs)))
      | inr h ↦ rw h (append-nil (reverse (filter q xs)))
    ]

module _ (ss : List Statement) (l : Listed) (of : AreOf l ss) where
  abbrev names : List Name
  names = symbols ss

  pub entry-at : (k : ℕ) (s : Statement) → slice_get ss k ≡ Some s → slice_get l.entries k ≡ Some (entry_in names s)
  entry-at k s h = ap (λ xs. slice_get xs k) of.entries_are ∙ get-map (entry_in names) ss k ∙ ap (λ o. option_map (entry_in names) o) h

  pub symbols-is : (k : ℕ) (s : Statement) → slice_get ss k ≡ Some s → symbols_at l k ≡ formula_of names s
  symbols-is k s h = ap (λ o. unwrap_or (option_map (λ (x : Entry). x.symbols) o) []) (entry-at k s h)

  floating-is : (k : ℕ) (s : Statement) → slice_get ss k ≡ Some s → floating_at l k ≡ has_keyword (codes "$f") s
  floating-is k s h = ap (λ o. unwrap_or (option_map (λ (x : Entry). is_floating x.kind) o) false) (entry-at k s h) ∙ sym (kind-is_floating s)

  pub position-is : (i : Numbered) → IsPlaced ss i → length (labels_in i.statement) ≡ 1 → position_at l i.label ≡ i.at
  position-is i p one = ap (λ xs. unwrap_or (slice_get xs i.label) 0) of.positions_are ∙ ap (λ o. unwrap_or o 0) (p.position one)

  pub hypothesis-is : (i : Numbered) → IsPlaced ss i → length (labels_in i.statement) ≡ 1 → hypothesis_at l i.label ≡ hypothesis_of names i.statement
  hypothesis-is i p one =
      let place = position-is i p one in
      let name : get_or l.labels i.label [] ≡ label_in i.statement = get-or l.labels i.label (label_in i.statement) [] (ap (λ xs. slice_get xs i.label) of.labels_are ∙ p.label one) in
      let make : Name → Bool → List Sym → Hyp = λ n f s. record { name = n; floating = f; formula = s } in
      ap (λ n. make n (floating_at l (position_at l i.label)) (symbols_at l (position_at l i.label))) name
      ∙ ap (λ k. make (label_in i.statement) (floating_at l k) (symbols_at l k)) place
      ∙ ap (λ f. make (label_in i.statement) f (symbols_at l i.at)) (floating-is i.at i.statement p.there)
      ∙ ap (λ s. make (label_in i.statement) (has_keyword (codes "$f") i.statement) s) (symbols-is i.at i.statement p.there)

  -- ---- the symbols of the active `$e`

  essential-symbols : (vars : List ℕ) (ns : List Numbered) (v : Name) → contains names v ≡ true → AllByRecursion (IsGood ss) ns
      → list_any (λ n. has_symbol (symbols_at l (position_at l n)) (number names v))
      (map (λ (i : Numbered). i.label) (filter (λ i. is_essential (kind_in i.statement)) ns))
      ≡ list_any (λ f. contains (symbols_in f) v) (with_keyword (codes "$e") (statements_of ns))
  essential-symbols vars [] v known a = refl
  essential-symbols vars (i ∷ ns) v known a =
      let later = essential-symbols vars ns v known a.1 in
      let rest = list_any (λ f. contains (symbols_in f) v) (with_keyword (codes "$e") (statements_of ns)) in
      elim (cases_Bool (has_keyword (codes "$e") i.statement)) as
      (λ w. list_any (λ n. has_symbol (symbols_at l (position_at l n)) (number names v))
      (map (λ (j : Numbered). j.label) (filter (λ j. is_essential (kind_in j.statement)) (i ∷ ns)))
      ≡ list_any (λ f. contains (symbols_in f) v) (with_keyword (codes "$e") (i.statement ∷ statements_of ns))) [
        | inl k ↦
            let one = a.0.has_label (codes "$e") refl k in
            let same : symbols_at l (position_at l i.label) ≡ formula_of names i.statement = ap (λ n. symbols_at l n) (position-is i a.0.placed one) ∙ symbols-is i.at i.statement a.0.placed.there in
            let here' : has_symbol (symbols_at l (position_at l i.label)) (number names v) ≡ contains (symbols_in i.statement) v =
            ap (λ s. has_symbol s (number names v)) same ∙ sym (contains-symbols names v (symbols_in i.statement) known) in
            rw (sym (kind-is_essential i.statement) ∙ k, k)
            (ap (λ b. b
            || list_any (λ n. has_symbol (symbols_at l (position_at l n)) (number names v))
            (map (λ (j : Numbered). j.label) (filter (λ j. is_essential (kind_in j.statement)) ns))) here'
            ∙ ap (λ b. contains (symbols_in i.statement) v || b) later)
        | inr k ↦ rw (sym (kind-is_essential i.statement) ∙ k, k) later
      ]

  pub essential-law : (vars : List ℕ) (ns : List Numbered) (v : Name) → contains names v ≡ true → AllByRecursion (IsGood ss) ns
      → any_symbol vars l (state names ns).essentials (number names v) ≡ list_any (λ f. contains (symbols_in f) v) (with_keyword (codes "$e") (statements_of ns))
  essential-law vars ns v known a =
      let label : Numbered → ℕ = λ i. i.label in
      let q : Numbered → Bool = λ i. is_essential (kind_in i.statement) in
      let p : ℕ → Bool = λ n. has_symbol (symbols_at l (position_at l n)) (number names v) in
      ap (λ es. any_symbol vars l es (number names v)) (essentials-are ss ns)
      ∙ ap (λ xs. list_any p (map label xs)) (filter-reverse q ns) ∙ ap (λ xs. list_any p xs) (map-reverse label (filter q ns)) ∙ any-turned p (map label (filter q ns))
      ∙ essential-symbols vars ns v known a

  -- a known variable is mandatory by its number where it is by its name
  pub mandatory-law : (ns : List Numbered) (s : Scope) (st : Statement) (v : Name) → contains names v ≡ true → AllByRecursion (IsGood ss) ns
      → s.variables ≡ (state names ns).variables → s.essentials ≡ (state names ns).essentials
      → has (mandatory l s (formula_of names st)) (number names v)
      ≡ (contains (listed_by symbols_in (codes "$v") (statements_of ns)) v
      && list_any (λ f. contains (symbols_in f) v) (st ∷ with_keyword (codes "$e") (statements_of ns)))
  mandatory-law ns s st v known a is_v is_e =
      let f = formula_of names st in
      let j = number names v in
      mandatory-has l s f j
      ∙ ap (λ b. b && (has_symbol f j || any_symbol s.variables l s.essentials j)) (ap (λ x. has x j) is_v ∙ variables-law ss ns v known)
      ∙ ap (λ b. contains (listed_by symbols_in (codes "$v") (statements_of ns)) v && (b || any_symbol s.variables l s.essentials j)) (sym (contains-symbols names v (symbols_in st) known))
      ∙ ap (λ b. contains (listed_by symbols_in (codes "$v") (statements_of ns)) v && (contains (symbols_in st) v || b))
      (ap (λ x. any_symbol s.variables l x j) is_e ∙ essential-law s.variables ns v known a)
