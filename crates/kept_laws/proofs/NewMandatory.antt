-- The mandatory hypotheses of a new theorem, by the definition for worksheets and by that for databases.
use Rattle.std.proofs.Common.{◌≡◌, ◌≤◌, ◌<◌, ◌+◌, ◌==◌, ℕ, Bool, true, false, not, cond, ◌||◌, ◌&&◌, List, [], ◌∷◌, ◌++◌, length, take, drop, map, flat_map, reverse, None, refl, sym, ap, ◌∙◌, codes, arith, subst, inl, inr}
use Rattle.std.specs.Prelude.{filter, get_or}
use Rattle.std.specs.List.{AllByRecursion, list_any, position_or_len}
use Rattle.std.specs.Str.{bytes_eq}
use Rattle.std.proofs.lemmas.Bool.{cases_Bool, both_ways, eqb-true, eq-eqb}
use Rattle.std.proofs.lemmas.List.{reverse-append, map-append}
use Rattle.std.proofs.lemmas.List.Folds.{list_any-append}
use Rattle.std.proofs.lemmas.List.Sums.{passes_at_first}
use Rattle.std.proofs.lemmas.Slice.Eq.{bytes_eq-Decides}
use Rattle.mm_base.specs.declared.symbols.Sym.{Sym}
use Rattle.mm_model.specs.declared.frames.Hyp.{Hyp}
use Rattle.mm_model.specs.Names.{Name, contains}
use Rattle.mm_model.specs.Statements.{Statement, statements, database_fault, has_keyword, symbols_in, active, path, second}
use Rattle.mm_model.specs.Statements as stated
use Rattle.mm_model.specs.Frames.{symbols, symbol_in, below}
use Rattle.mm_model.specs.Productions.{essentials}
use Rattle.proof_model.specs.Machine.{Formula, is_float_of}
use Rattle.solve_model.specs.Binding.{mandatory_of}
use Rattle.solve_model.specs.Binding as binding
use Rattle.model_laws.proofs.Checked.{IsChecked, EachBefore, last_first, text_checked, no_statement_fault, reverse-cons}
use Rattle.model_laws.proofs.FrameFacts.{FloatShort, IsShort, floats_short}
use Rattle.model_laws.proofs.KnownAt.{variable_known, number_known, name_back}
use Rattle.model_laws.proofs.KnownFacts.{HypothesisKnown, hypotheses_known}
use Rattle.model_laws.proofs.Listed.{all_and, all_with, same_names, name_self}
use Rattle.model_laws.proofs.Symbols.{Meant, FormulaKnown}
use Rattle.push_laws.proofs.Books.{each_below}
use Rattle.push_laws.proofs.Declared.{FloatDeclared, floats_declared, never_both}
use Rattle.push_laws.proofs.FrameApart.{all_on}
use Rattle.install_model.specs.declared.install.NewTheorem.{NewTheorem}
use Rattle.install_model.specs.Moved.{pair_statement, hyp_statement, theorem_statement}
use Rattle.install_laws.specs.InstalledStatements.{names, tokens_of}
use Rattle.install_laws.proofs.ActiveNames.{has_kw, has_kw_by, active_of, active_by, variables_of, variables_by, hyp_of, hyp_kw, below_is, filter-reverse}
use Rattle.install_laws.proofs.ActiveBlock.{opened}
use Rattle.install_laws.proofs.ActiveLaw.{all_reverse}
use Rattle.install_laws.proofs.FrameNames.{stands_in, is_mandatory}
use Rattle.install_laws.proofs.NamesLaw.{keyword_is, body_names, symbol_names, symbols_by, plain_is}
use Rattle.installed_laws.specs.CanBePutIn.{CanBePutIn}
use Rattle.kept_laws.proofs.NewActive.{syms, pairs, hyps, e, variables, same_variables, active_is_block, hyps_all}

-- ---- lists

any_more : {X : Type 0} (p : X → Bool) (xs ys : List X) (b : Bool) → list_any p xs ≡ b → list_any p (xs ++ ys) ≡ (b || list_any p ys)
any_more p xs ys b e = list_any-append p xs ys ∙ ap (λ c. c || list_any p ys) e

either_order : (a b : Bool) → (a || (b || false)) ≡ (b || a)
either_order true true = refl
either_order true false = refl
either_order false true = refl
either_order false false = refl

pub any_reverse : {X : Type 0} (p : X → Bool) (xs : List X) → list_any p (reverse xs) ≡ list_any p xs
any_reverse p [] = refl
any_reverse p (x ∷ xs) =
    ap (list_any p) (reverse-cons x xs) ∙ list_any-append p (reverse xs) (x ∷ []) ∙ ap (λ b. b || (p x || false)) (any_reverse p xs) ∙ either_order (list_any p xs) (p x)

any_same : {X : Type 0} (p q : X → Bool) → ((x : X) → p x ≡ q x) → (xs : List X) → list_any p xs ≡ list_any q xs
any_same p q f [] = refl
any_same p q f (x ∷ xs) = ap (λ b. b || list_any p xs) (f x) ∙ ap (λ b. q x || b) (any_same p q f xs)

pub any_mapped : {X Y : Type 0} (p : Y → Bool) (f : X → Y) (xs : List X) → list_any p (map f xs) ≡ list_any (λ x. p (f x)) xs
any_mapped p f [] = refl
any_mapped p f (x ∷ xs) = ap (λ b. p (f x) || b) (any_mapped p f xs)

filter_two : {X : Type 0} (m k n : X → Bool) (xs : List X) → AllByRecursion (λ x. m x ≡ (k x && n x)) xs → filter m xs ≡ filter n (filter k xs)
filter_two m k n [] a = refl
filter_two m k n (x ∷ xs) a = ap (λ b. cond b (x ∷ filter m xs) (filter m xs)) a.0 ∙ ap (λ ys. cond (k x && n x) (x ∷ ys) ys) (filter_two m k n xs a.1) ∙ by (k x) (n x) refl
  where
    by : (b c : Bool) → n x ≡ c → cond (b && c) (x ∷ filter n (filter k xs)) (filter n (filter k xs)) ≡ filter n (cond b (x ∷ filter k xs) (filter k xs))
    by true c e = ap (λ d. cond d (x ∷ filter n (filter k xs)) (filter n (filter k xs))) (sym e)
    by false c e = refl

filter_mapped : {X Y : Type 0} (p : Y → Bool) (f : X → Y) (xs : List X) → filter p (map f xs) ≡ map f (filter (λ x. p (f x)) xs)
filter_mapped p f [] = refl
filter_mapped p f (x ∷ xs) = ap (λ ys. cond (p (f x)) (f x ∷ ys) ys) (filter_mapped p f xs) ∙ by (p (f x))
  where
    by : (b : Bool) → cond b (f x ∷ map f (filter (λ x. p (f x)) xs)) (map f (filter (λ x. p (f x)) xs)) ≡ map f (cond b (x ∷ filter (λ x. p (f x)) xs) (filter (λ x. p (f x)) xs))
    by true = refl
    by false = refl

and_no : (b : Bool) → (b && false) ≡ false
and_no true = refl
and_no false = refl

or_no : (b : Bool) → (b || false) ≡ b
or_no true = refl
or_no false = refl

pub contains_filter : (p : Name → Bool) (ns : List Name) (n : Name) → contains (filter p ns) n ≡ (contains ns n && p n)
contains_filter p [] n = refl
contains_filter p (m ∷ ns) n = by (bytes_eq n m) refl (p m) refl (contains_filter p ns n)
  where
    by : (a : Bool) → bytes_eq n m ≡ a → (b : Bool) → p m ≡ b → contains (filter p ns) n ≡ (contains ns n && p n)
        → contains (cond (p m) (m ∷ filter p ns) (filter p ns)) n ≡ ((bytes_eq n m || contains ns n) && p n)
    by true e true g r =
        ap (λ c. contains (cond c (m ∷ filter p ns) (filter p ns)) n) g ∙ ap (λ c. c || contains (filter p ns) n) e
        ∙ sym (ap (λ c. (c || contains ns n) && p n) e ∙ ap p (same_names n m e) ∙ g)
    by true e false g r =
        let q : p n ≡ false = ap p (same_names n m e) ∙ g in
        ap (λ c. contains (cond c (m ∷ filter p ns) (filter p ns)) n) g ∙ r ∙ ap (λ c. contains ns n && c) q ∙ and_no (contains ns n)
        ∙ sym (ap (λ c. (c || contains ns n) && p n) e ∙ q)
    by false e true g r =
        ap (λ c. contains (cond c (m ∷ filter p ns) (filter p ns)) n) g ∙ ap (λ c. c || contains (filter p ns) n) e ∙ r ∙ sym (ap (λ c. (c || contains ns n) && p n) e)
    by false e false g r = ap (λ c. contains (cond c (m ∷ filter p ns) (filter p ns)) n) g ∙ r ∙ sym (ap (λ c. (c || contains ns n) && p n) e)

contains_kept : (p : Name → Bool) (ns : List Name) (n : Name) → contains ns n ≡ true → contains (filter p ns) n ≡ p n
contains_kept p ns n h = contains_filter p ns n ∙ ap (λ c. c && p n) h

any_false : {X : Type 0} (p : X → Bool) → ((x : X) → p x ≡ false) → (xs : List X) → list_any p xs ≡ false
any_false p f [] = refl
any_false p f (x ∷ xs) = ap (λ b. b || list_any p xs) (f x) ∙ any_false p f xs

all_tokens : (P : Statement → Type 0) (Q : List Name → Type 0) → ((s : Statement) → P s → Q (names s)) → (ss : List Statement) → AllByRecursion P ss → AllByRecursion Q (tokens_of ss)
all_tokens P Q f [] a = tt
all_tokens P Q f (s ∷ ss) a = (f s a.0, all_tokens P Q f ss a.1)

all_joined : {X : Type 0} (P : X → Type 0) (xs ys : List X) → AllByRecursion P xs → AllByRecursion P ys → AllByRecursion P (xs ++ ys)
all_joined P [] ys h g = g
all_joined P (x ∷ xs) ys h g = (h.0, all_joined P xs ys h.1 g)

-- ---- hypotheses by their keyword

abbrev pub F : List Name → Bool
F s = has_kw (codes "$f") s

abbrev pub E : List Name → Bool
E s = has_kw (codes "$e") s

abbrev pub K : List Name → Bool
K s = keyword_is hyp_kw s

abbrev any_is : Name → List Name → Bool
any_is k ns = list_any (λ n. bytes_eq n k) ns

abbrev any_of : List Name → Bool
any_of ns = list_any (λ n. list_any (bytes_eq n) hyp_kw) ns

essential_by : (ns : List Name) → any_is (codes "$e") (take 1 ns) ≡ (any_of (take 1 ns) && not (any_is (codes "$f") (take 1 ns)))
essential_by [] = refl
essential_by (n ∷ ns) = elim (cases_Bool (bytes_eq n (codes "$f"))) [
  | inl d ↦ subst (λ m. any_is (codes "$e") (m ∷ []) ≡ (any_of (m ∷ []) && not (any_is (codes "$f") (m ∷ [])))) (sym (same_names n (codes "$f") d)) refl
  | inr d ↦ by (bytes_eq n (codes "$f")) (bytes_eq n (codes "$e")) d
]
  where
    by : (f e : Bool) → f ≡ false → (e || false) ≡ (((f || (e || false)) || false) && not (f || false))
    by true e d = absurd cc
    by false true d = refl
    by false false d = refl

essential_is : (s : List Name) → E s ≡ (K s && not (F s))
essential_is s = essential_by (body_names s)

float_by : (ns : List Name) → any_is (codes "$f") (take 1 ns) ≡ true → any_of (take 1 ns) ≡ true
float_by [] h = absurd cc
float_by (n ∷ ns) h = by (bytes_eq n (codes "$f")) (bytes_eq n (codes "$e")) h
  where
    by : (f e : Bool) → (f || false) ≡ true → ((f || (e || false)) || false) ≡ true
    by true e d = refl
    by false e d = absurd cc

float_is_hyp : (s : List Name) → F s ≡ true → K s ≡ true
float_is_hyp s h = float_by (body_names s) h

-- ---- numbers of symbols

module _ (ss : List Statement) where
  pub symbol_same : (x y : Name) → contains (symbols ss) x ≡ true → ((symbol_in (symbols ss) x).0 == (symbol_in (symbols ss) y).0) ≡ bytes_eq x y
  symbol_same x y h = elim (cases_Bool ((symbol_in (symbols ss) x).0 == (symbol_in (symbols ss) y).0)) [
    | inl d ↦
        let same : (symbol_in (symbols ss) x).0 ≡ (symbol_in (symbols ss) y).0 = eqb-true (symbol_in (symbols ss) x).0 (symbol_in (symbols ss) y).0 d in
        let low = number_known ss 0 x h in
        let less : (symbol_in (symbols ss) y).0 < length (symbols ss) = subst (λ (k : ℕ). k < length (symbols ss)) same low in
        let mine : get_or (symbols ss) (symbol_in (symbols ss) x).0 [] ≡ x = name_back ss 0 x h in
        let other : y ≡ get_or (symbols ss) (symbol_in (symbols ss) y).0 [] = same_names y _ (passes_at_first (bytes_eq y) (symbols ss) [] less) in
        let one : x ≡ y = sym mine ∙ ap (λ k. get_or (symbols ss) k []) same ∙ sym other in
        d ∙ sym ((bytes_eq-Decides x y).1 one)
    | inr d ↦ elim (cases_Bool (bytes_eq x y)) [
      | inl s ↦
          let one : (symbol_in (symbols ss) x).0 ≡ (symbol_in (symbols ss) y).0 = ap (λ n. (symbol_in (symbols ss) n).0) (same_names x y s) in
          absurd (both_ways ((symbol_in (symbols ss) x).0 == (symbol_in (symbols ss) y).0) d (eq-eqb (symbol_in (symbols ss) x).0 (symbol_in (symbols ss) y).0 one))
      | inr s ↦ d ∙ sym s
    ]
  ]

-- ---- the symbols of a `$f`: not more than two, the second an active variable

abbrev Typed : List Name → List Name → Type 0
Typed vs [] = Unit {0}
Typed vs (c ∷ []) = Unit {0}
Typed vs (c ∷ x ∷ []) = contains vs x ≡ true
Typed vs (c ∷ x ∷ y ∷ ns) = ⊥

module _ (text : List ℕ) (place : ℕ) (sound : database_fault text ≡ None) where
  abbrev b : List Statement
  b = below (statements text) place

  each : EachBefore IsChecked b
  each = each_below IsChecked (last_first text) place (text_checked text (no_statement_fault text sound))

  float_typed : (s : Statement) → FloatShort s → FloatDeclared b s → HypothesisKnown b s → has_keyword (codes "$f") s ≡ true → Typed (stated.variables b) (symbols_in s)
  float_typed s short declared known f = by (symbols_in s) refl (short f) (known (inr f))
    where
      meant : (x : Name) → Meant b x → contains (second (symbols_in s)) x ≡ true → contains (stated.variables b) x ≡ true
      meant x (inl c) h = absurd (never_both b each x c (declared f x h))
      meant x (inr v) h = v.0

      by : (ns : List Name) → symbols_in s ≡ ns → IsShort ns → FormulaKnown b ns → Typed (stated.variables b) ns
      by [] e h k = tt
      by (c ∷ []) e h k = tt
      by (c ∷ x ∷ []) e h k = meant x k.1.0 (ap (λ ns. contains (second ns) x) e ∙ ap (λ a. a || false) (name_self x))
      by (c ∷ x ∷ y ∷ ns) e h k = h

  abbrev FloatTyped : Statement → Type 0
  FloatTyped s = has_keyword (codes "$f") s ≡ true → Typed (stated.variables b) (symbols_in s)

  statements_typed : AllByRecursion FloatTyped (active b)
  statements_typed =
      all_and FloatShort (λ s. FloatDeclared b s × HypothesisKnown b s) FloatTyped (λ s h k. float_typed s h k.0 k.1) (active b) (floats_short b each)
      (all_and (FloatDeclared b) (HypothesisKnown b) (λ s. FloatDeclared b s × HypothesisKnown b s) (λ s h k. (h, k)) (active b)
      (all_on (FloatDeclared b) (path b) b (floats_declared b each)) (hypotheses_known b each))

  abbrev before : List (List Name)
  before = reverse (take place (tokens_of (statements text)))

  abbrev pub IsTyped : List Name → Type 0
  IsTyped s = F s ≡ true → Typed (variables_of before) (symbol_names s)

  pub variables_same : stated.variables b ≡ variables_of before
  variables_same = variables_by b ∙ ap variables_of (below_is (statements text) place)

  pub floats_typed : AllByRecursion IsTyped (active_of before)
  floats_typed =
      subst (AllByRecursion IsTyped) (active_by b ∙ ap active_of (below_is (statements text) place))
      (all_tokens FloatTyped IsTyped (λ s h f. subst (λ vs. Typed vs (symbol_names (names s))) variables_same
      (subst (Typed (stated.variables b)) (symbols_by s) (h (has_kw_by (codes "$f") s ∙ f)))) (active b) statements_typed)

  pub variable_is_symbol : (x : Name) → contains (variables_of before) x ≡ true → contains (symbols (statements text)) x ≡ true
  variable_is_symbol x h = variable_known (statements text) place x (ap (λ vs. contains vs x) variables_same ∙ h)

-- ---- the new theorem

module _ (text : List ℕ) (place : ℕ) (t : NewTheorem) (can : CanBePutIn text place t) (sound : database_fault text ≡ None) where
  abbrev sy : List Name
  sy = syms text place t can

  abbrev X : List (List Name)
  X = active_of (e text place t can)

  abbrev ns : List Name
  ns = theorem_statement t

  abbrev vars : List Name
  vars = variables text place t can

  abbrev hs : List Hyp
  hs = map (hyp_of sy) (reverse (filter K X))

  abbrev formulas : List Formula
  formulas = map (symbol_in sy) (symbol_names ns) ∷ map (λ (h : Hyp). h.formula) (essentials hs)

  abbrev N : List Name → Bool
  N s = binding.is_mandatory formulas (hyp_of sy s)

  -- a test of the formulas, by the statements
  forms_any : (p : Formula → Bool) → list_any p formulas ≡ list_any (λ d. p (map (symbol_in sy) (symbol_names d))) (ns ∷ filter E X)
  forms_any p =
      ap (λ c. p (map (symbol_in sy) (symbol_names ns)) || c)
      (any_mapped p (λ (h : Hyp). h.formula) (essentials hs)
      ∙ ap (list_any (λ (h : Hyp). p h.formula)) (filter_mapped (λ (h : Hyp). not h.floating) (hyp_of sy) (reverse (filter K X)))
      ∙ any_mapped (λ (h : Hyp). p h.formula) (hyp_of sy) (filter (λ s. not (F s)) (reverse (filter K X)))
      ∙ ap (list_any (λ d. p (map (symbol_in sy) (symbol_names d)))) (filter-reverse (λ s. not (F s)) (filter K X))
      ∙ any_reverse (λ d. p (map (symbol_in sy) (symbol_names d))) (filter (λ s. not (F s)) (filter K X))
      ∙ ap (list_any (λ d. p (map (symbol_in sy) (symbol_names d)))) (sym (filter_two E K (λ s. not (F s)) X (all_essential X))))
    where
      all_essential : (xs : List (List Name)) → AllByRecursion (λ s. E s ≡ (K s && not (F s))) xs
      all_essential [] = tt
      all_essential (s ∷ xs) = (essential_is s, all_essential xs)

  module _ (s : List Name) (is_float : F s ≡ true) where
    abbrev h : Hyp
    h = hyp_of sy s

    abbrev R : Formula → Bool
    R f = list_any (λ (v : Sym). is_float_of v h) f

    -- by the symbols of the statement
    abbrev float_with : List Name → Sym → Bool
    float_with ms v = F s && list_any (λ (u : Sym). u.0 == v.0) (drop 1 (map (symbol_in sy) ms))

    none_by : (ms : List Name) → symbol_names s ≡ ms → drop 1 ms ≡ [] → ((v : Sym) → float_with ms v ≡ false) → list_any R formulas ≡ false
    none_by ms i d f = any_false R (λ g. any_false (λ (v : Sym). is_float_of v h) (λ v. ap (λ k. float_with k v) i ∙ f v) g) formulas

    float_no : (v : Sym) → (F s && false) ≡ false
    float_no v = and_no (F s)

    stands_one : (c x : Name) → symbol_names s ≡ c ∷ x ∷ [] → contains sy x ≡ true → (d : List Name) → R (map (symbol_in sy) (symbol_names d)) ≡ contains (symbol_names d) x
    stands_one c x i known d =
        any_mapped (λ (v : Sym). is_float_of v h) (symbol_in sy) (symbol_names d)
        ∙ any_same (λ y. is_float_of (symbol_in sy y) h) (bytes_eq x)
        (λ y. ap (λ k. float_with k (symbol_in sy y)) i ∙ ap (λ c. c && (((symbol_in sy x).0 == (symbol_in sy y).0) || false)) is_float
        ∙ or_no ((symbol_in sy x).0 == (symbol_in sy y).0) ∙ symbol_same (statements text) x y known) (symbol_names d)

    by_symbols : (ms : List Name) → symbol_names s ≡ ms → Typed (variables_of (before text place sound)) ms → list_any (contains vars) (second ms) ≡ list_any R formulas
    by_symbols [] i ty = sym (none_by [] i refl float_no)
    by_symbols (c ∷ []) i ty = sym (none_by (c ∷ []) i refl float_no)
    by_symbols (c ∷ x ∷ []) i ty =
        let known = variable_is_symbol text place sound x ty in
        or_no (contains vars x)
        ∙ contains_kept (λ n. contains (variables_of (e text place t can)) n && stands_in n (ns ∷ filter E X)) sy x known
        ∙ ap (λ c. c && stands_in x (ns ∷ filter E X)) (ap (λ vs. contains vs x) (same_variables text place t can) ∙ ty)
        ∙ sym (forms_any R ∙ any_same (λ d. R (map (symbol_in sy) (symbol_names d))) (λ d. contains (symbol_names d) x) (stands_one c x i known) (ns ∷ filter E X))
    by_symbols (c ∷ x ∷ y ∷ ms) i ty = absurd ty

  one_same : (s : List Name) → IsTyped text place sound s → is_mandatory vars s ≡ (K s && N s)
  one_same s ty = elim (cases_Bool (F s)) [
    | inl f ↦
        let same = by_symbols s f (symbol_names s) refl (ty f) in
        let hyp = float_is_hyp s f in
        let none : E s ≡ false = essential_is s ∙ ap (λ c. K s && not c) f ∙ and_no (K s) in
        ap (λ c. c || (F s && list_any (contains vars) (second (symbol_names s)))) none ∙ ap (λ c. c && list_any (contains vars) (second (symbol_names s))) f ∙ same
        ∙ sym (ap (λ c. c && N s) hyp ∙ ap (λ c. not c || list_any (R s f) formulas) f)
    | inr f ↦
        let at : E s ≡ (K s && true) = essential_is s ∙ ap (λ c. K s && not c) f in
        ap (λ c. E s || (c && list_any (contains vars) (second (symbol_names s)))) f ∙ or_no (E s) ∙ at
        ∙ sym (ap (λ c. K s && (not c || list_any (λ g. list_any (λ (v : Sym). is_float_of v (hyp_of sy s)) g) formulas)) f)
  ]

  -- neither a pair, nor a brace, nor a `$e` is a `$f`
  not_typed : (s : List Name) → F s ≡ false → IsTyped text place sound s
  not_typed s f g = absurd (both_ways (F s) f g)

  all_typed : AllByRecursion (IsTyped text place sound) X
  all_typed =
      subst (AllByRecursion (IsTyped text place sound)) (sym (active_is_block text place t can))
      (all_joined (IsTyped text place sound) (reverse (pairs text place t can ++ hyps text place t can)) (opened ∷ active_of (before text place sound))
      (all_reverse (IsTyped text place sound) (pairs text place t can ++ hyps text place t can)
      (all_joined (IsTyped text place sound) (pairs text place t can) (hyps text place t can) (of_pairs t.pairs) (of_hyps t.hyps (hyps_all text place t can F false (λ n more d. rw (plain_is n d) refl)))))
      (not_typed opened refl, floats_typed text place sound))
    where
      of_pairs : (ps : List (Name × Name)) → AllByRecursion (IsTyped text place sound) (map pair_statement ps)
      of_pairs [] = tt
      of_pairs (p ∷ ps) = (not_typed (pair_statement p) refl, of_pairs ps)

      of_hyps : (gs : List (Name × List Name)) → AllByRecursion (λ g. F (hyp_statement g) ≡ false) gs → AllByRecursion (IsTyped text place sound) (map hyp_statement gs)
      of_hyps [] a = tt
      of_hyps (g ∷ gs) a = (not_typed (hyp_statement g) a.0, of_hyps gs a.1)

  mandatory_statements : reverse (filter (is_mandatory vars) X) ≡ filter N (reverse (filter K X))
  mandatory_statements =
      ap reverse (filter_two (is_mandatory vars) K N X (all_with (IsTyped text place sound) (λ s. is_mandatory vars s ≡ (K s && N s)) one_same X all_typed))
      ∙ sym (filter-reverse N (filter K X))

  -- the mandatory hypotheses by the two definitions
  pub mandatory_same : map (hyp_of sy) (reverse (filter (is_mandatory vars) X)) ≡ filter (binding.is_mandatory formulas) hs
  mandatory_same = ap (map (hyp_of sy)) mandatory_statements ∙ sym (filter_mapped (binding.is_mandatory formulas) (hyp_of sy) (reverse (filter K X)))
