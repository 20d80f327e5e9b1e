-- What is declared below a place has a number, and a formula of known symbols is one of a database.
use Rattle.std.proofs.Common.{◌≡◌, ◌<◌, ◌==◌, ℕ, Bool, true, false, cond, ◌&&◌, List, [], ◌∷◌, length, map, take, reverse, Option, Some, None}
use Rattle.std.proofs.Common.{option_map, refl, sym, ap, ◌∙◌, subst, inl, inr, ◌⊎◌, codes, flat_map, get_or}
use Rattle.std.specs.Prelude.{is_some, find}
use Rattle.std.specs.List.{AllByRecursion, list_any, filter}
use Rattle.std.specs.Str.{bytes_eq}
use Rattle.std.proofs.lemmas.Bool.{cases_Bool, and_parts, and_from, or_cases, or_left, or_right, eq-eqb}
use Rattle.std.proofs.lemmas.List.{reverse-reverse}
use Rattle.std.proofs.lemmas.List.Sums.{passes_at_first}
use Rattle.mm_base.specs.declared.symbols.Sym.{Sym}
use Rattle.mm_base.specs.declared.symbols.Typecode.{Typecode}
use Rattle.mm_model.specs.declared.frames.Hyp.{Hyp}
use Rattle.mm_model.specs.declared.rows.Leaf.TheVariants as leaf
use Rattle.mm_model.specs.Names.{Name}
use Rattle.mm_model.specs.Words.{Word}
use Rattle.mm_model.specs.Statements.{Statement, is, is_one_of, body, has_keyword, has_one_of, with_keyword, symbols_in, second, contains, constants, variables, typed, active, path}
use Rattle.mm_model.specs.Frames.{symbols, without_repeats, symbol_in, below, hypothesis_of, formula_of, is_hypothesis, active_at, is_constant_at}
use Rattle.mm_model.specs.Productions.{TypedVariable, typed_by, typed_variables, floats}
use Rattle.mm_model.specs.Book.{Database, declared_leaf, float_of}
use Rattle.mm_model.specs.BookFacts.{IsKnownAt}
use Rattle.model_laws.proofs.Listed.{first_within, same_names}
use Rattle.model_laws.proofs.Passing.{any-reverse, any-take, any-filter, any_kept, any-with, any-active, any-map, any-flat}
use Rattle.model_laws.proofs.FrameFacts.{is_float, filter-map}
use Rattle.model_laws.proofs.Symbols.{Meant, FormulaKnown}

-- ---- what is declared below a place has a number

kept_names : (seen ns : List Name) (n : Name) → contains ns n ≡ true → contains seen n ≡ false → contains (without_repeats seen ns) n ≡ true
kept_names seen [] n h new = h
kept_names seen (x ∷ ns) n h new = elim (cases_Bool (contains seen x)) [
  | inl d ↦ elim (or_cases (bytes_eq n x) (contains ns n) h) [
    | inl g ↦ let bad : true ≡ false = sym d ∙ ap (contains seen) (sym (same_names n x g)) ∙ new in absurd cc
    | inr g ↦ rw d (kept_names seen ns n g new)
  ]
  | inr d ↦ elim (cases_Bool (bytes_eq n x)) [
    | inl g ↦ rw d (or_left (bytes_eq n x) (contains (without_repeats (x ∷ seen) ns) n) g)
    | inr g ↦
        let later : contains ns n ≡ true = rw g at h in
        let unseen : contains (x ∷ seen) n ≡ false = rw g new in
        rw d (or_right (bytes_eq n x) (contains (without_repeats (x ∷ seen) ns) n) (kept_names (x ∷ seen) ns n later unseen))
  ]
]

pub one_of_two : (j k : List ℕ) (i : List ℕ) → list_any (bytes_eq i) (j ∷ k ∷ []) ≡ true → (ws : List Word) → list_any (is i) ws ≡ true → list_any (is_one_of (j ∷ k ∷ [])) ws ≡ true
one_of_two j k i listed_ ws h = any-with (is i) (is_one_of (j ∷ k ∷ [])) (λ w d. ap (λ (bs : List ℕ). list_any (bytes_eq bs) (j ∷ k ∷ [])) (same_names w.bytes i d) ∙ listed_) ws h

module _ (ss : List Statement) (at : ℕ) where
  abbrev pub names : List Name
  names = symbols ss

  abbrev pub b : List Statement
  b = below ss at

  pub declares : (k : List ℕ) → list_any (bytes_eq k) (codes "$c" ∷ codes "$v" ∷ []) ≡ true → (n : Name)
      → list_any (λ x. has_keyword k x && contains (symbols_in x) n) b ≡ true → contains names n ≡ true
  declares k listed_ n h =
      let whole = any-take _ at ss (any-reverse _ (take at ss) h) in
      let some = any-with (λ x. has_keyword k x && contains (symbols_in x) n) (λ x. has_one_of (codes "$c" ∷ codes "$v" ∷ []) x && contains (symbols_in x) n)
      (λ x d. let both = and_parts (has_keyword k x) (contains (symbols_in x) n) d in and_from _ _ (one_of_two (codes "$c") (codes "$v") k listed_ (take 1 (body x)) both.0) both.1) ss whole in
      let stands : contains (flat_map symbols_in (filter (has_one_of (codes "$c" ∷ codes "$v" ∷ [])) ss)) n ≡ true =
      any-flat (bytes_eq n) symbols_in (filter (has_one_of (codes "$c" ∷ codes "$v" ∷ [])) ss) ∙ any_kept (λ x. contains (symbols_in x) n) (has_one_of (codes "$c" ∷ codes "$v" ∷ [])) ss some in
      kept_names [] (flat_map symbols_in (filter (has_one_of (codes "$c" ∷ codes "$v" ∷ [])) ss)) n stands refl

  pub constant_known : (n : Name) → contains (constants b) n ≡ true → contains names n ≡ true
  constant_known n h =
      declares (codes "$c") refl n (any-filter (λ x. contains (symbols_in x) n) (has_keyword (codes "$c")) b (sym (any-flat (bytes_eq n) symbols_in (with_keyword (codes "$c") b)) ∙ h))

  pub variable_known : (n : Name) → contains (variables b) n ≡ true → contains names n ≡ true
  variable_known n h =
      declares (codes "$v") refl n
      (any-active _ (path b) b (any-filter (λ x. contains (symbols_in x) n) (has_keyword (codes "$v")) (active b) (sym (any-flat (bytes_eq n) symbols_in (with_keyword (codes "$v") (active b))) ∙ h)))

  pub number_known : (n : Name) → contains names n ≡ true → (symbol_in names n).0 < length names
  number_known n h = first_within (bytes_eq n) names h

  pub name_back : (n : Name) → contains names n ≡ true → get_or names (symbol_in names n).0 [] ≡ n
  name_back n h = sym (same_names n (get_or names (symbol_in names n).0 []) (passes_at_first (bytes_eq n) names [] (first_within (bytes_eq n) names h)))

  -- ---- a symbol that means something is a leaf

  numbers_of : (n : Name) → (ms : List Name) → contains ms n ≡ true → list_any (λ (v : Sym). v.0 == (symbol_in names n).0) (map (symbol_in names) ms) ≡ true
  numbers_of n ms h =
      any-map (λ (v : Sym). v.0 == (symbol_in names n).0) (symbol_in names) ms
      ∙ any-with (bytes_eq n) (λ m. (symbol_in names m).0 == (symbol_in names n).0)
      (λ m d. eq-eqb (symbol_in names m).0 (symbol_in names n).0 (ap (λ x. (symbol_in names x).0) (sym (same_names n m d)))) ms h

  pub variable_is_active : (n : Name) → contains (variables b) n ≡ true → list_any (λ (v : Sym). v.0 == (symbol_in names n).0) (active_at ss at).variables ≡ true
  variable_is_active n h =
      let both = any-with (bytes_eq n) (λ m. contains (variables b) m && bytes_eq n m)
      (λ m d. and_from (contains (variables b) m) (bytes_eq n m) (ap (contains (variables b)) (sym (same_names n m d)) ∙ h) d) names (variable_known n h) in
      numbers_of n (filter (contains (variables b)) names) (any_kept (bytes_eq n) (contains (variables b)) names both)

  abbrev is_number_of : Name → TypedVariable → Bool
  is_number_of n v = v.sym.0 == (symbol_in names n).0

  typed_stands : (n : Name) (ns : List Name) → contains (second ns) n ≡ true → list_any (is_number_of n) (typed_by (map (symbol_in names) ns)) ≡ true
  typed_stands n [] h = absurd cc
  typed_stands n (a ∷ []) h = absurd cc
  typed_stands n (a ∷ v ∷ more) h = elim (or_cases (bytes_eq n v) false h) [
    | inl d ↦ or_left _ _ (eq-eqb (symbol_in names v).0 (symbol_in names n).0 (ap (λ x. (symbol_in names x).0) (sym (same_names n v d))))
    | inr d ↦ let bad : false ≡ true = d in absurd cc
  ]

  float_stands : (n : Name) → contains (typed b) n ≡ true → list_any (is_number_of n) (typed_variables (active_at ss at).hyps) ≡ true
  float_stands n h =
      let types : Statement → List Name = λ (s : Statement). second (symbols_in s) in
      let hs = filter is_hypothesis (reverse (active b)) in
      let some : list_any (λ x. is_float x && contains (types x) n) (active b) ≡ true =
      any-filter (λ x. contains (types x) n) is_float (active b) (sym (any-flat (bytes_eq n) types (with_keyword (codes "$f") (active b))) ∙ h) in
      let turned = any-reverse (λ x. is_float x && contains (types x) n) (reverse (active b)) (ap (list_any (λ x. is_float x && contains (types x) n)) (reverse-reverse (active b)) ∙ some) in
      let marked = any-with (λ x. is_float x && contains (types x) n) (λ x. is_hypothesis x && (is_float x && contains (types x) n))
      (λ x d. and_from _ _ (one_of_two (codes "$f") (codes "$e") (codes "$f") refl (take 1 (body x)) (and_parts (is_float x) (contains (types x) n) d).0) d) (reverse (active b)) turned in
      let here = any_kept (λ x. contains (types x) n) is_float hs (any_kept (λ x. is_float x && contains (types x) n) is_hypothesis (reverse (active b)) marked) in
      let made = any-with (λ x. contains (types x) n) (λ x. list_any (is_number_of n) (typed_by (formula_of names x))) (λ x d. typed_stands n (symbols_in x) d) (filter is_float hs) here in
      any-flat (is_number_of n) (λ (x : Hyp). typed_by x.formula) (floats (active_at ss at).hyps)
      ∙ ap (list_any (λ (x : Hyp). list_any (is_number_of n) (typed_by x.formula))) (filter-map (λ (x : Hyp). x.floating) (hypothesis_of names) hs)
      ∙ any-map (λ (x : Hyp). list_any (is_number_of n) (typed_by x.formula)) (hypothesis_of names) (filter is_float hs)
      ∙ made

  found_some : {X Y : Type 0} (p : X → Bool) (f : X → Y) (xs : List X) → list_any p xs ≡ true → is_some (option_map f (find p xs)) ≡ true
  found_some p f [] h = absurd cc
  found_some p f (x ∷ xs) h = elim (cases_Bool (p x)) [
    | inl d ↦ rw d refl
    | inr d ↦ rw d (found_some p f xs (rw d at h))
  ]

  float_found : (n : Name) → contains (typed b) n ≡ true → is_some (float_of (symbol_in names n) (active_at ss at).hyps) ≡ true
  float_found n h = found_some (is_number_of n) (λ (v : TypedVariable). v.code) (typed_variables (active_at ss at).hyps) (float_stands n h)

  -- ---- in the database of the text

  module _ (db : Database)
      (same_symbols : db.symbols ≡ symbols ss)
      (same_active : db.active_at at ≡ active_at ss at)
      (same_constants : (s : Sym) → db.is_constant_at s at ≡ is_constant_at ss s at) where
    leaf_by : (c v : Bool) (o : Option Typecode) (s : Sym) → (c ≡ true) ⊎ ((v ≡ true) × (is_some o ≡ true))
        → is_some (cond c (Some (leaf.Const s)) (cond v (option_map (λ (t : Typecode). leaf.Var s t) o) None)) ≡ true
    leaf_by true v o s h = refl
    leaf_by false true (Some t) s h = refl
    leaf_by false true None s (inl h) = absurd cc
    leaf_by false true None s (inr h) = let bad : false ≡ true = h.1 in absurd cc
    leaf_by false false o s (inl h) = absurd cc
    leaf_by false false o s (inr h) = let bad : false ≡ true = h.0 in absurd cc

    leaf_is : (n : Name) → Meant b n → is_some (declared_leaf db at (symbol_in names n)) ≡ true
    leaf_is n m =
        let s = symbol_in names n in
        leaf_by (db.is_constant_at s at) (list_any (λ (v : Sym). v.0 == s.0) (db.active_at at).variables) (float_of s (db.active_at at).hyps) s
        (elim m [
          | inl c ↦ inl (same_constants s ∙ ap (contains (constants b)) (name_back n (constant_known n c)) ∙ c)
          | inr v ↦ inr (ap (λ a. list_any (λ (w : Sym). w.0 == s.0) a.variables) same_active ∙ variable_is_active n v.0, ap (λ a. is_some (float_of s a.hyps)) same_active ∙ float_found n v.1)
        ])

    in_names : (n : Name) → Meant b n → contains names n ≡ true
    in_names n m = elim m [ inl c ↦ constant_known n c | inr v ↦ variable_known n v.0 ]

    number_is : (n : Name) → contains names n ≡ true → (symbol_in names n).0 < length db.symbols
    number_is n h = subst (λ ns. (symbol_in names n).0 < length ns) (sym same_symbols) (number_known n h)

    numbers_are : (ns : List Name) → AllByRecursion (Meant b) ns → AllByRecursion (λ s. s.0 < length db.symbols) (map (symbol_in names) ns)
    numbers_are [] h = tt
    numbers_are (n ∷ ns) h = (number_is n (in_names n h.0), numbers_are ns h.1)

    leaves_are : (ns : List Name) → AllByRecursion (Meant b) ns → AllByRecursion (λ s. is_some (declared_leaf db at s) ≡ true) (map (symbol_in names) ns)
    leaves_are [] h = tt
    leaves_are (n ∷ ns) h = (leaf_is n h.0, leaves_are ns h.1)

    pub known_at_place : (ns : List Name) → FormulaKnown b ns → IsKnownAt db at (map (symbol_in names) ns)
    known_at_place [] h = record { symbols = tt; leaves = tt }
    known_at_place (c ∷ ns) h = record { symbols = (number_is c (constant_known c h.0), numbers_are ns h.1); leaves = leaves_are ns h.1 }

    pub all_known_at_place : (hs : List Statement) → AllByRecursion (λ h. FormulaKnown b (symbols_in h)) hs → AllByRecursion (λ (x : Hyp). IsKnownAt db at x.formula) (map (hypothesis_of names) hs)
    all_known_at_place [] h = tt
    all_known_at_place (x ∷ hs) h = (known_at_place (symbols_in x) h.0, all_known_at_place hs h.1)
