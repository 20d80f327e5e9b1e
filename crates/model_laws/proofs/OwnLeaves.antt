-- The variables of a frame's formulas have in the frame the typecodes that they have at its place.
use Rattle.std.proofs.Common.{◌≡◌, ◌<◌, ◌==◌, ℕ, Bool, true, false, cond, not, ◌&&◌, ◌||◌, List, [], ◌∷◌, ◌++◌, length, map, take, reverse, Option}
use Rattle.std.proofs.Common.{Some, None, option_map, refl, sym, ap, ◌∙◌, subst, inl, inr, codes, flat_map, get_or, arith, append_assoc}
use Rattle.std.specs.Prelude.{find}
use Rattle.std.specs.List.{AllByRecursion, list_any, filter, position_or_len, filter_map, cons_option}
use Rattle.std.specs.Str.{bytes_eq}
use Rattle.std.proofs.lemmas.Bool.{cases_Bool, and_from, or_left, or_right, eqb-true}
use Rattle.std.proofs.lemmas.List.Sums.{passes_at_first}
use Rattle.std.proofs.lemmas.List.Folds.{list_any-append}
use Rattle.mm_base.specs.declared.symbols.Sym.{Sym}
use Rattle.mm_base.specs.declared.symbols.Label.{Label}
use Rattle.mm_base.specs.declared.symbols.Typecode.{Typecode}
use Rattle.mm_model.specs.declared.frames.Hyp.{Hyp}
use Rattle.mm_model.specs.declared.frames.Frame.{Frame}
use Rattle.mm_model.specs.declared.rows.Leaf.{Leaf}
use Rattle.mm_model.specs.declared.rows.Leaf.TheVariants as leaf
use Rattle.mm_model.specs.Names.{Name}
use Rattle.mm_model.specs.Statements.{Statement, body, has_keyword, with_keyword, symbols_in, second, contains, constants, variables, active}
use Rattle.mm_model.specs.Frames.{symbols, symbol_in, below, hypothesis_of, formula_of, is_hypothesis, active_at, is_constant_at, frame_at, mandatory_hypotheses}
use Rattle.mm_model.specs.Productions.{TypedVariable, typed_by, typed_variables, essentials}
use Rattle.mm_model.specs.Book.{Database, declared_leaf, float_of, expression_at}
use Rattle.model_laws.specs.FrameLaws.{own_leaf, own_expression}
use Rattle.model_laws.proofs.Listed.{first_within, same_names, name_self, contains-filter, all_with, all_pass, all-filter, all-reverse}
use Rattle.model_laws.proofs.Passing.{any_kept, any-with}
use Rattle.model_laws.proofs.FrameFacts.{is_float, filter-map, counts, mandatory_at}
use Rattle.model_laws.proofs.Symbols.{Meant, FormulaKnown}
use Rattle.model_laws.proofs.KnownAt.{one_of_two, constant_known, variable_known, name_back, variable_is_active}

-- ---- lists

find_past : {X : Type 0} (p : X → Bool) (xs ys : List X) → find p xs ≡ None → find p (xs ++ ys) ≡ find p ys
find_past p [] ys e = refl
find_past p (x ∷ xs) ys e = elim (cases_Bool (p x)) [
  | inl d ↦ let bad : Some x ≡ None = rw d at e in absurd cc
  | inr d ↦ rw d (find_past p xs ys (rw d at e))
]

find_behind : {X : Type 0} (p : X → Bool) (xs ys zs : List X) → find p ys ≡ find p zs → find p (xs ++ ys) ≡ find p (xs ++ zs)
find_behind p [] ys zs e = e
find_behind p (x ∷ xs) ys zs e = ap (λ o. cond (p x) (Some x) o) (find_behind p xs ys zs e)

-- what an element passes, some element passes
pub members : {X : Type 0} (front xs : List X) → AllByRecursion (λ x. (q : X → Bool) → q x ≡ true → list_any q (front ++ xs) ≡ true) xs
members front [] = tt
members {X} front (x ∷ xs) = (
  (λ q h. list_any-append q front (x ∷ xs) ∙ or_right (list_any q front) (q x || list_any q xs) (or_left (q x) (list_any q xs) h)),
  subst (λ ys. AllByRecursion (λ y. (q : X → Bool) → q y ≡ true → list_any q ys ≡ true) xs) (append_assoc front (x ∷ []) xs) (members (front ++ x ∷ []) xs),
)

all_map : {X Y : Type 0} (P : Y → Type 0) (f : X → Y) (xs : List X) → AllByRecursion (λ x. P (f x)) xs → AllByRecursion P (map f xs)
all_map P f [] h = tt
all_map P f (x ∷ xs) h = (h.0, all_map P f xs h.1)

-- ---- a variable has the number of one name

number_alone : (names : List Name) (v n : Name) → contains names n ≡ true → (symbol_in names v).0 ≡ (symbol_in names n).0 → v ≡ n
number_alone names v n h e =
    let less : position_or_len (bytes_eq n) names < length names = first_within (bytes_eq n) names h in
    let same : position_or_len (bytes_eq v) names ≡ position_or_len (bytes_eq n) names = e in
    let more : position_or_len (bytes_eq v) names < length names = omega (arith, same, less) in
    same_names v (get_or names (position_or_len (bytes_eq v) names) []) (passes_at_first (bytes_eq v) names [] more)
    ∙ ap (λ (k : ℕ). get_or names k []) same
    ∙ sym (same_names n (get_or names (position_or_len (bytes_eq n) names) []) (passes_at_first (bytes_eq n) names [] less))

uncounted : (e f a : Bool) → (e || (f && a)) ≡ false → f ≡ true → a ≡ false
uncounted true f a h g = absurd cc
uncounted false true a h g = h
uncounted false false a h g = absurd cc

pub float_is_hypothesis : (h : Statement) → is_float h ≡ true → is_hypothesis h ≡ true
float_is_hypothesis h f = one_of_two (codes "$f") (codes "$e") (codes "$f") refl (take 1 (body h)) f

module _ (names mandatory : List Name) (n : Name) (known : contains names n ≡ true) (wanted : contains mandatory n ≡ true) where
  abbrev is_it : TypedVariable → Bool
  is_it v = v.sym.0 == (symbol_in names n).0

  abbrev typed_in : Hyp → List TypedVariable
  typed_in h = typed_by h.formula

  -- the variables of the `$f` among statements
  abbrev typed_of : List Statement → List TypedVariable
  typed_of hs = flat_map typed_in (map (hypothesis_of names) (filter is_float hs))

  other_variable : (ns : List Name) → list_any (contains mandatory) (second ns) ≡ false → find is_it (typed_by (map (symbol_in names) ns)) ≡ None
  other_variable [] h = refl
  other_variable (a ∷ []) h = refl
  other_variable (a ∷ v ∷ more) h = elim (cases_Bool ((symbol_in names v).0 == (symbol_in names n).0)) [
    | inl d ↦
        let same : v ≡ n = number_alone names v n known (eqb-true (symbol_in names v).0 (symbol_in names n).0 d) in
        let stands : (contains mandatory v || false) ≡ true = or_left (contains mandatory v) false (ap (contains mandatory) same ∙ wanted) in
        let bad : true ≡ false = sym stands ∙ h in
        absurd cc
    | inr d ↦ rw d refl
  ]

  float_dropped : (h : Statement) (b : Bool) (hs : List Statement) → is_float h ≡ false → filter is_float (cond b (h ∷ hs) hs) ≡ filter is_float hs
  float_dropped h true hs e = rw e refl
  float_dropped h false hs e = refl

  float_kept : (h : Statement) (hs : List Statement) → is_float h ≡ true → filter is_float (h ∷ hs) ≡ h ∷ filter is_float hs
  float_kept h hs e = rw e refl

  step_by : (h : Statement) (t c : Bool) (xs ys : List Statement) → is_float h ≡ true → t ≡ true → (c ≡ false → find is_it (typed_by (formula_of names h)) ≡ None)
      → find is_it (typed_of xs) ≡ find is_it (typed_of ys) → find is_it (typed_of (cond t (h ∷ xs) xs)) ≡ find is_it (typed_of (cond c (h ∷ ys) ys))
  step_by h false c xs ys f e none same = absurd cc
  step_by h true true xs ys f e none same =
      ap (λ hs. find is_it (flat_map typed_in (map (hypothesis_of names) hs))) (float_kept h xs f)
      ∙ find_behind is_it (typed_by (formula_of names h)) (typed_of xs) (typed_of ys) same
      ∙ ap (λ hs. find is_it (flat_map typed_in (map (hypothesis_of names) hs))) (sym (float_kept h ys f))
  step_by h true false xs ys f e none same =
      ap (λ hs. find is_it (flat_map typed_in (map (hypothesis_of names) hs))) (float_kept h xs f)
      ∙ find_past is_it (typed_by (formula_of names h)) (typed_of xs) (none refl)
      ∙ same

  -- the first `$f` of the variable is kept
  kept_find : (hs : List Statement) → find is_it (typed_of (filter is_hypothesis hs)) ≡ find is_it (typed_of (filter (counts mandatory) hs))
  kept_find [] = refl
  kept_find (h ∷ hs) =
      let same = kept_find hs in
      elim (cases_Bool (is_float h)) [
        | inl f ↦ step_by h (is_hypothesis h) (counts mandatory h) (filter is_hypothesis hs) (filter (counts mandatory) hs) f (float_is_hypothesis h f)
            (λ c. other_variable (symbols_in h) (uncounted (has_keyword (codes "$e") h) (is_float h) (list_any (contains mandatory) (second (symbols_in h))) c f)) same
        | inr f ↦
            ap (λ xs. find is_it (flat_map typed_in (map (hypothesis_of names) xs))) (float_dropped h (is_hypothesis h) (filter is_hypothesis hs) f)
            ∙ same ∙ ap (λ xs. find is_it (flat_map typed_in (map (hypothesis_of names) xs))) (sym (float_dropped h (counts mandatory h) (filter (counts mandatory) hs) f))
      ]

  typed_are : (hs : List Statement) → typed_variables (map (hypothesis_of names) hs) ≡ typed_of hs
  typed_are hs = ap (flat_map typed_in) (filter-map (λ (h : Hyp). h.floating) (hypothesis_of names) hs)

  pub same_code : (hs : List Statement)
      → float_of (symbol_in names n) (map (hypothesis_of names) (filter is_hypothesis hs))
      ≡ float_of (symbol_in names n) (map (hypothesis_of names) (filter (counts mandatory) hs))
  same_code hs =
      ap (λ vs. option_map (λ (v : TypedVariable). v.code) (find is_it vs)) (typed_are (filter is_hypothesis hs))
      ∙ ap (option_map (λ (v : TypedVariable). v.code)) (kept_find hs)
      ∙ ap (λ vs. option_map (λ (v : TypedVariable). v.code) (find is_it vs)) (sym (typed_are (filter (counts mandatory) hs)))

-- ---- the symbols of a frame's formulas

leaf_same : (c v : Bool) (o p : Option Typecode) (s : Sym) → v ≡ true → o ≡ p
    → cond c (Some (leaf.Const s)) (option_map (λ (t : Typecode). leaf.Var s t) p) ≡ cond c (Some (leaf.Const s)) (cond v (option_map (λ (t : Typecode). leaf.Var s t) o) None)
leaf_same c true o p s h e = ap (λ q. cond c (Some (leaf.Const s)) (option_map (λ (t : Typecode). leaf.Var s t) q)) (sym e)
leaf_same c false o p s h e = absurd cc

leaf_const : (c v : Bool) (o p : Option Typecode) (s : Sym) → c ≡ true
    → cond c (Some (leaf.Const s)) (option_map (λ (t : Typecode). leaf.Var s t) p) ≡ cond c (Some (leaf.Const s)) (cond v (option_map (λ (t : Typecode). leaf.Var s t) o) None)
leaf_const true v o p s h = refl
leaf_const false v o p s h = absurd cc

expressions_same : (f g : Sym → Option Leaf) (ss : List Sym) → AllByRecursion (λ s. f s ≡ g s) ss → filter_map f ss ≡ filter_map g ss
expressions_same f g [] h = refl
expressions_same f g (s ∷ ss) h = ap (λ o. cons_option o (filter_map f ss)) h.0 ∙ ap (cons_option (g s)) (expressions_same f g ss h.1)

module _ (ss : List Statement) (l : Label) (at : ℕ) (s : Statement) (db : Database)
    (same_active : db.active_at at ≡ active_at ss at)
    (same_constants : (x : Sym) → db.is_constant_at x at ≡ is_constant_at ss x at) where
  abbrev names : List Name
  names = symbols ss

  abbrev b : List Statement
  b = below ss at

  abbrev mandatory : List Name
  mandatory = mandatory_at ss at s

  abbrev pub f : Frame
  f = frame_at ss l at s

  -- the name stands in the assertion or in an active `$e`
  abbrev Counts : Name → Type 0
  Counts n = list_any (λ (x : Statement). contains (symbols_in x) n) (s ∷ with_keyword (codes "$e") (active b)) ≡ true

  pub is_mandatory : (n : Name) → contains (variables b) n ≡ true → Counts n → contains mandatory n ≡ true
  is_mandatory n v c =
      let q = λ (m : Name). contains (variables b) m && list_any (λ (x : Statement). contains (symbols_in x) m) (s ∷ with_keyword (codes "$e") (active b)) in
      let own : q n ≡ true = and_from _ _ v c in
      let both = any-with (bytes_eq n) (λ m. q m && bytes_eq n m) (λ m d. and_from (q m) (bytes_eq n m) (ap q (sym (same_names n m d)) ∙ own) d) names (variable_known ss at n v) in
      any_kept (bytes_eq n) q names both

  leaf_is : (n : Name) → Meant b n → Counts n → own_leaf db f (symbol_in names n) ≡ declared_leaf db at (symbol_in names n)
  leaf_is n m c =
      let x = symbol_in names n in
      elim m [
        | inl k ↦ leaf_const (db.is_constant_at x at) (list_any (λ (v : Sym). v.0 == x.0) (db.active_at at).variables) (float_of x (db.active_at at).hyps) (float_of x f.hyps) x
            (same_constants x ∙ ap (contains (constants b)) (name_back ss at n (constant_known ss at n k)) ∙ k)
        | inr v ↦
            let listed = is_mandatory n v.0 c in
            leaf_same (db.is_constant_at x at) (list_any (λ (w : Sym). w.0 == x.0) (db.active_at at).variables) (float_of x (db.active_at at).hyps) (float_of x f.hyps) x
            (ap (λ a. list_any (λ (w : Sym). w.0 == x.0) a.variables) same_active ∙ variable_is_active ss at n v.0)
            (ap (λ a. float_of x a.hyps) same_active ∙ same_code names mandatory n (contains-filter _ names n listed) listed (reverse (active b)))
      ]

  leaves_are : (ns : List Name) → AllByRecursion (Meant b) ns → AllByRecursion Counts ns → AllByRecursion (λ x. own_leaf db f x ≡ declared_leaf db at x) (map (symbol_in names) ns)
  leaves_are [] m c = tt
  leaves_are (n ∷ ns) m c = (leaf_is n m.0 c.0, leaves_are ns m.1 c.1)

  expression_by : (ns : List Name) → FormulaKnown b ns → AllByRecursion Counts ns → own_expression db f (map (symbol_in names) ns) ≡ expression_at db at (map (symbol_in names) ns)
  expression_by [] k c = refl
  expression_by (n ∷ ns) k c = expressions_same (own_leaf db f) (declared_leaf db at) (map (symbol_in names) ns) (leaves_are ns k.1 c.1)

  -- the symbols of a statement stand in it
  own_symbols : (x : Statement) → AllByRecursion (λ n. contains (symbols_in x) n ≡ true) (symbols_in x)
  own_symbols x = all_with _ _ (λ n h. h (bytes_eq n) (name_self n)) (symbols_in x) (members [] (symbols_in x))

  pub formula_is : FormulaKnown b (symbols_in s) → own_expression db f f.formula ≡ expression_at db at f.formula
  formula_is k = expression_by (symbols_in s) k (all_with _ _ (λ n h. or_left (contains (symbols_in s) n) _ h) (symbols_in s) (own_symbols s))

  essential_counts : (h : Statement) → ((q : Statement → Bool) → q h ≡ true → list_any q (active b) ≡ true) → has_keyword (codes "$e") h ≡ true → AllByRecursion Counts (symbols_in h)
  essential_counts h member e =
      all_with _ _ (λ n c. or_right (contains (symbols_in s) n) _
      (any_kept (λ (x : Statement). contains (symbols_in x) n) (has_keyword (codes "$e")) (active b)
      (member (λ (x : Statement). has_keyword (codes "$e") x && contains (symbols_in x) n) (and_from _ _ e c)))) (symbols_in h) (own_symbols h)

  no_float : (e f a : Bool) → (e || (f && a)) ≡ true → not f ≡ true → e ≡ true
  no_float true f a h g = refl
  no_float false true a h g = absurd cc
  no_float false false a h g = absurd cc

  -- what is known of a mandatory hypothesis
  pub record IsKnown (h : Statement) : Type 0 where
    pub known : FormulaKnown b (symbols_in h)
    pub counted : counts mandatory h ≡ true
    pub member : (q : Statement → Bool) → q h ≡ true → list_any q (active b) ≡ true
    pub no_floating : not (is_float h) ≡ true

  hypothesis_is : (h : Statement) → IsKnown h → own_expression db f (formula_of names h) ≡ expression_at db at (formula_of names h)
  hypothesis_is h k =
      expression_by (symbols_in h) k.known
      (essential_counts h k.member (no_float (has_keyword (codes "$e") h) (is_float h) (list_any (contains mandatory) (second (symbols_in h))) k.counted k.no_floating))

  all_known : (hs : List Statement) → AllByRecursion (λ h. FormulaKnown b (symbols_in h)) hs → AllByRecursion (λ h. counts mandatory h ≡ true) hs
      → AllByRecursion (λ h. (q : Statement → Bool) → q h ≡ true → list_any q (active b) ≡ true) hs → AllByRecursion (λ h. not (is_float h) ≡ true) hs → AllByRecursion IsKnown hs
  all_known [] k c m n = tt
  all_known (h ∷ hs) k c m n = (record { known = k.0; counted = c.0; member = m.0; no_floating = n.0 }, all_known hs k.1 c.1 m.1 n.1)

  pub hyps_are : AllByRecursion (λ h. FormulaKnown b (symbols_in h)) (mandatory_hypotheses mandatory b)
      → AllByRecursion (λ (h : Hyp). own_expression db f h.formula ≡ expression_at db at h.formula) (essentials f.hyps)
  hyps_are known =
      let z = reverse (active b) in
      let hs = filter (counts mandatory) z in
      let free = λ (h : Statement). not (is_float h) in
      let kept = filter free hs in
      let own = λ (h : Hyp). own_expression db f h.formula ≡ expression_at db at h.formula in
      let Member = λ (h : Statement). (q : Statement → Bool) → q h ≡ true → list_any q (active b) ≡ true in
      let each = all_known kept (all-filter _ free hs known) (all-filter _ free hs (all_pass (counts mandatory) z))
      (all-filter Member free hs (all-filter Member (counts mandatory) z (all-reverse Member (active b) (members [] (active b))))) (all_pass free hs) in
      subst (AllByRecursion own) (sym (filter-map (λ (h : Hyp). not h.floating) (hypothesis_of names) hs))
      (all_map own (hypothesis_of names) kept (all_with _ _ hypothesis_is kept each))
