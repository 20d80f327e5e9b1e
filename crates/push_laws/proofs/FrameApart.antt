-- In a frame of a text without a fault no constant is a variable of a `$f`, and each variable that counts has one.
use Rattle.std.proofs.Common.{◌≡◌, ◌==◌, ℕ, suc, Bool, true, false, not, ◌&&◌, ◌||◌, List, [], ◌∷◌, ◌++◌, map, drop, reverse, Some, refl, sym, ap, ◌∙◌, subst, inl, inr, codes}
use Rattle.std.specs.List.{AllByRecursion, list_any, filter, slice_get, ends_with}
use Rattle.std.specs.Prelude.{nat_eq}
use Rattle.std.specs.Str.{bytes_eq}
use Rattle.std.proofs.lemmas.Bool.{cases_Bool, and_parts, and_from, or_cases, or_left, or_right, eq-eqb, false_from_ne_true, not_from_false}
use Rattle.mm_base.specs.declared.symbols.Sym.{Sym}
use Rattle.mm_base.specs.declared.symbols.Pair.{Pair}
use Rattle.mm_base.specs.declared.symbols.Label.{Label}
use Rattle.mm_model.specs.declared.frames.Hyp.{Hyp}
use Rattle.mm_model.specs.declared.frames.Frame.{Frame}
use Rattle.mm_model.specs.Names.{Name}
use Rattle.mm_model.specs.Statements.{Statement, has_keyword, with_keyword, symbols_in, second, contains, constants, variables, variables_ever, typed, active, active_on, path}
use Rattle.mm_model.specs.Frames.{symbols, symbol_in, below, hypothesis_of, formula_of, is_constant_at, frame_at, is_assertion, mandatory_hypotheses, pairs_with, pair_of}
use Rattle.mm_model.specs.Productions.{TypedVariable, typed_variables}
use Rattle.mm_model.specs.Book.{Database}
use Rattle.proof_model.specs.Machine.{is_float_of}
use Rattle.model_laws.proofs.Checked.{EachBefore, IsChecked}
use Rattle.model_laws.proofs.Symbols.{Meant, FormulaKnown}
use Rattle.model_laws.proofs.KnownFacts.{HypothesisKnown, hypotheses_known, assertion_known, mandatory_known}
use Rattle.model_laws.proofs.KnownAt.{declares, constant_known, name_back}
use Rattle.model_laws.proofs.Listed.{same_names, name_self, all-reverse, all-filter, all_with, contains_passes}
use Rattle.model_laws.proofs.FrameFacts.{is_float, counts, one_keyword, mandatory_at, FloatShort, IsShort, floats_short, floats_of, floats_mandatory, typed_at}
use Rattle.model_laws.proofs.RowFacts.{typed_from}
use Rattle.model_laws.proofs.OwnLeaves.{members}
use Rattle.model_laws.proofs.Passing.{any-filter, any_kept, any-flat, any-map, any-with, any-reverse}
use Rattle.std.proofs.lemmas.List.{reverse-reverse}
use Rattle.push_laws.proofs.Declared.{never_both, active_is_ever, FloatDeclared, floats_declared}
use Rattle.push_laws.proofs.Entries.{same_symbol}
use Rattle.push_laws.proofs.Facts.{Begins, stands_in, IsUsed, PairHasFloats, FrameIsApart}

pub all_on : (P : Statement → Type 0) (p : List ℕ) (e : List Statement) → AllByRecursion P e → AllByRecursion P (active_on p e)
all_on P p [] h = tt
all_on P p (s ∷ e) h = elim (cases_Bool (ends_with nat_eq p (path e))) [
  | inl d ↦ rw d (h.0, all_on P p e h.1)
  | inr d ↦ rw d (all_on P p e h.1)
]

-- an element that passes has a fact that all have
pub any_all : {X : Type 0} (P : X → Type 0) (q : X → Bool) (xs : List X) → AllByRecursion P xs → list_any q xs ≡ true → (x : X) × P x × (q x ≡ true)
any_all P q [] a h = absurd cc
any_all P q (x ∷ xs) a h = elim (cases_Bool (q x)) [
  | inl d ↦ (x, a.0, d)
  | inr d ↦ any_all P q xs a.1 (sym (ap (λ (b : Bool). b || list_any q xs) d) ∙ h)
]

pub any-back : {X : Type 0} (q : X → Bool) (xs : List X) → list_any q xs ≡ true → list_any q (reverse xs) ≡ true
any-back q xs h = any-reverse q (reverse xs) (ap (list_any q) (reverse-reverse xs) ∙ h)

module _ (ss : List Statement) (at : ℕ) (each : EachBefore IsChecked (below ss at)) where
  abbrev names : List Name
  names = symbols ss

  abbrev b : List Statement
  b = below ss at

  ever_known : (n : Name) → contains (variables_ever b) n ≡ true → contains names n ≡ true
  ever_known n h =
      declares ss at (codes "$v") refl n (any-filter (λ x. contains (symbols_in x) n) (has_keyword (codes "$v")) b (sym (any-flat (bytes_eq n) symbols_in (with_keyword (codes "$v") b)) ∙ h))

  -- the number of a constant's name is that of a constant, and no other
  pub constant_number : (n : Name) → contains (constants b) n ≡ true → is_constant_at ss (symbol_in names n) at ≡ true
  constant_number n c = ap (contains (constants b)) (name_back ss at n (constant_known ss at n c)) ∙ c

  no_constant : (v : Name) → contains (variables_ever b) v ≡ true → is_constant_at ss (symbol_in names v) at ≡ true → ⊥
  no_constant v h c = never_both b each v (sym (ap (contains (constants b)) (name_back ss at v (ever_known v h))) ∙ c) h

  float_by : (st : Statement) (ns : List Name) → symbols_in st ≡ ns → IsShort ns → FloatDeclared b st → is_float st ≡ true → (x : Sym) → is_constant_at ss x at ≡ true
      → list_any (λ (v : Sym). v.0 == x.0) (drop 1 (map (symbol_in names) ns)) ≡ true → ⊥
  float_by st [] is short d f x c h = cc
  float_by st (a ∷ []) is short d f x c h = cc
  float_by st (a ∷ v ∷ []) is short d f x c h = elim (or_cases ((symbol_in names v).0 == x.0) false h) [
    | inl g ↦
        let there : contains (second (symbols_in st)) v ≡ true = ap (λ ns. contains (second ns) v) is ∙ or_left (bytes_eq v v) false (name_self v) in
        no_constant v (d f v there) (ap (λ y. is_constant_at ss y at) (same_symbol (symbol_in names v) x g) ∙ c)
    | inr g ↦ cc
  ]
  float_by st (a ∷ v ∷ u ∷ ns) is short d f x c h = short

  no_float : (st : Statement) → FloatShort st → FloatDeclared b st → (x : Sym) → is_constant_at ss x at ≡ true → is_float_of x (hypothesis_of names st) ≡ false
  no_float st short d x c = false_from_ne_true (is_float_of x (hypothesis_of names st)) (λ h.
      let two = and_parts (is_float st) (list_any (λ (v : Sym). v.0 == x.0) (drop 1 (formula_of names st))) h in
      float_by st (symbols_in st) refl (short two.0) d two.0 x c two.1)

  pub no_floats : (sts : List Statement) → AllByRecursion FloatShort sts → AllByRecursion (FloatDeclared b) sts → (x : Sym) → is_constant_at ss x at ≡ true
      → list_any (is_float_of x) (map (hypothesis_of names) sts) ≡ false
  no_floats [] short d x c = refl
  no_floats (st ∷ sts) short d x c =
      ap (λ (t : Bool). t || list_any (is_float_of x) (map (hypothesis_of names) sts)) (no_float st short.0 d.0 x c) ∙ no_floats sts short.1 d.1 x c

  pub short_reversed : AllByRecursion FloatShort (reverse (active b))
  short_reversed = all-reverse FloatShort (active b) (floats_short b each)

  pub declared_reversed : AllByRecursion (FloatDeclared b) (reverse (active b))
  declared_reversed = all-reverse (FloatDeclared b) (active b) (all_on (FloatDeclared b) (path b) b (floats_declared b each))

  module _ (db : Database) (same_constants : (x : Sym) → db.is_constant_at x at ≡ is_constant_at ss x at) where
    begins_by : (ns : List Name) → FormulaKnown b ns → Begins db at (map (symbol_in names) ns)
    begins_by [] k = tt
    begins_by (c ∷ ns) k = same_constants (symbol_in names c) ∙ constant_number c k.0

    all_begin : (sts : List Statement) → AllByRecursion (λ h. FormulaKnown b (symbols_in h)) sts → AllByRecursion (λ (h : Hyp). Begins db at h.formula) (map (hypothesis_of names) sts)
    all_begin [] k = tt
    all_begin (x ∷ sts) k = (begins_by (symbols_in x) k.0, all_begin sts k.1)

    module _ (s : Statement) (l : Label) (here : IsChecked b s) (assertion : is_assertion s ≡ true) where
      abbrev mandatory : List Name
      mandatory = mandatory_at ss at s

      abbrev f : Frame
      f = frame_at ss l at s

      abbrev counting : List Statement
      counting = mandatory_hypotheses mandatory b

      -- a mandatory variable is active, and stands in the assertion or in an active `$e`
      mandatory_is : (n : Name) → contains mandatory n ≡ true
          → (contains (variables b) n ≡ true) × (list_any (λ (x : Statement). contains (symbols_in x) n) (s ∷ with_keyword (codes "$e") (active b)) ≡ true)
      mandatory_is n h =
          and_parts (contains (variables b) n) (list_any (λ (x : Statement). contains (symbols_in x) n) (s ∷ with_keyword (codes "$e") (active b))) (contains_passes _ names n h)

      no_constant_name : (n : Name) → contains (variables b) n ≡ true → contains (constants b) n ≡ true → ⊥
      no_constant_name n v c = never_both b each n c (active_is_ever b n v)

      essentials_known : AllByRecursion (λ h. FormulaKnown b (symbols_in h)) (with_keyword (codes "$e") (active b))
      essentials_known = known (active b) (hypotheses_known b each)
        where
          known : (hs : List Statement) → AllByRecursion (HypothesisKnown b) hs → AllByRecursion (λ h. FormulaKnown b (symbols_in h)) (with_keyword (codes "$e") hs)
          known [] k = tt
          known (x ∷ hs) k = elim (cases_Bool (has_keyword (codes "$e") x)) [ inl d ↦ rw d (k.0 (inl d), known hs k.1) | inr d ↦ rw d (known hs k.1) ]

      -- it stands behind the typecode
      tail_by : (n : Name) → contains (variables b) n ≡ true → (ns : List Name) → FormulaKnown b ns → contains ns n ≡ true → contains (drop 1 ns) n ≡ true
      tail_by n v [] k h = absurd cc
      tail_by n v (c ∷ ns) k h = elim (or_cases (bytes_eq n c) (contains ns n) h) [
        | inl d ↦ absurd (no_constant_name n v (ap (contains (constants b)) (same_names n c d) ∙ k.0))
        | inr d ↦ d
      ]

      typed_by_name : (n : Name) → contains (variables b) n ≡ true → (ns : List Name) → FormulaKnown b ns → contains ns n ≡ true → contains (typed b) n ≡ true
      typed_by_name n v [] k h = absurd cc
      typed_by_name n v (c ∷ ns) k h = meant ns k.1 (tail_by n v (c ∷ ns) k h)
        where
          meant : (ms : List Name) → AllByRecursion (Meant b) ms → contains ms n ≡ true → contains (typed b) n ≡ true
          meant [] a i = absurd cc
          meant (m ∷ ms) a i = elim (or_cases (bytes_eq n m) (contains ms n) i) [
            | inl d ↦ elim a.0 [
              | inl c ↦ absurd (no_constant_name n v (ap (contains (constants b)) (same_names n m d) ∙ c))
              | inr t ↦ ap (contains (typed b)) (same_names n m d) ∙ t.1
            ]
            | inr d ↦ meant ms a.1 d
          ]

      formula_known_here : FormulaKnown b (symbols_in s)
      formula_known_here = assertion_known b s here assertion

      typed_mandatory : (n : Name) → contains mandatory n ≡ true → contains (typed b) n ≡ true
      typed_mandatory n h =
          let m = mandatory_is n h in
          let x = any_all (λ x. FormulaKnown b (symbols_in x)) (λ (x : Statement). contains (symbols_in x) n) (s ∷ with_keyword (codes "$e") (active b)) (formula_known_here, essentials_known) m.1 in
          typed_by_name n m.0 (symbols_in x.0) x.1 x.2

      second_any : (ns : List Name) (n : Name) → contains mandatory n ≡ true → contains (second ns) n ≡ true → list_any (contains mandatory) (second ns) ≡ true
      second_any [] n m h = absurd cc
      second_any (a ∷ []) n m h = absurd cc
      second_any (a ∷ v ∷ ns) n m h = elim (or_cases (bytes_eq n v) false h) [
        | inl d ↦ or_left (contains mandatory v) false (ap (contains mandatory) (sym (same_names n v d)) ∙ m)
        | inr d ↦ let bad : false ≡ true = d in absurd cc
      ]

      second_number : (ns : List Name) (n : Name) → contains (second ns) n ≡ true → list_any (λ (v : Sym). v.0 == (symbol_in names n).0) (drop 1 (map (symbol_in names) ns)) ≡ true
      second_number [] n h = absurd cc
      second_number (a ∷ []) n h = absurd cc
      second_number (a ∷ v ∷ ns) n h = elim (or_cases (bytes_eq n v) false h) [
        | inl d ↦ or_left ((symbol_in names v).0 == (symbol_in names n).0) _ (eq-eqb _ _ (ap (λ m. (symbol_in names m).0) (sym (same_names n v d))))
        | inr d ↦ let bad : false ≡ true = d in absurd cc
      ]

      -- a mandatory variable has a `$f` in the frame
      float_stands : (n : Name) → contains mandatory n ≡ true → list_any (is_float_of (symbol_in names n)) f.hyps ≡ true
      float_stands n m =
          let types : Statement → List Name = λ (x : Statement). second (symbols_in x) in
          let some = any-filter (λ x. contains (types x) n) is_float (active b) (sym (any-flat (bytes_eq n) types (with_keyword (codes "$f") (active b))) ∙ typed_mandatory n m) in
          let turned = any-back (λ x. is_float x && contains (types x) n) (active b) some in
          let marked = any-with (λ x. is_float x && contains (types x) n) (λ x. counts mandatory x && is_float_of (symbol_in names n) (hypothesis_of names x))
          (λ x d.
          let two = and_parts (is_float x) (contains (types x) n) d in
          and_from (counts mandatory x) (is_float_of (symbol_in names n) (hypothesis_of names x))
          (or_right (has_keyword (codes "$e") x) _ (and_from (is_float x) (list_any (contains mandatory) (types x)) two.0 (second_any (symbols_in x) n m two.1)))
          (and_from (is_float x) _ two.0 (second_number (symbols_in x) n two.1))) (reverse (active b)) turned in
          any-map (is_float_of (symbol_in names n)) (hypothesis_of names) counting
          ∙ any_kept (λ x. is_float_of (symbol_in names n) (hypothesis_of names x)) (counts mandatory) (reverse (active b)) marked

      -- ---- pairs

      partners : (ds : List Statement) (x : Name) (ys : List Name) → contains mandatory x ≡ true → AllByRecursion (λ y. contains mandatory y ≡ true) ys
          → AllByRecursion (PairHasFloats f.hyps) (map (λ y. pair_of names (x, y)) ys)
      partners ds x [] m h = tt
      partners ds x (y ∷ ys) m h = ((float_stands x m, float_stands y h.0), partners ds x ys m h.1)

      append_pairs : (ps qs : List Pair) → AllByRecursion (PairHasFloats f.hyps) ps → AllByRecursion (PairHasFloats f.hyps) qs → AllByRecursion (PairHasFloats f.hyps) (ps ++ qs)
      append_pairs [] qs h k = k
      append_pairs (p ∷ ps) qs h k = (h.0, append_pairs ps qs h.1 k)

      map-twice : (x : Name) (ys : List Name) (more : List (Name × Name)) → map (pair_of names) (map (λ y. (x, y)) ys ++ more) ≡ map (λ y. pair_of names (x, y)) ys ++ map (pair_of names) more
      map-twice x [] more = refl
      map-twice x (y ∷ ys) more = ap (λ ps. pair_of names (x, y) ∷ ps) (map-twice x ys more)

      pairs_by : (ds : List Statement) (xs : List Name) → AllByRecursion (λ y. contains mandatory y ≡ true) xs → AllByRecursion (PairHasFloats f.hyps) (map (pair_of names) (pairs_with ds xs))
      pairs_by ds [] h = tt
      pairs_by ds (x ∷ xs) h =
          let together = λ (y : Name). list_any (λ (d : Statement). contains (symbols_in d) x && contains (symbols_in d) y) ds in
          subst (AllByRecursion (PairHasFloats f.hyps)) (sym (map-twice x (filter together xs) (pairs_with ds xs)))
          (append_pairs (map (λ y. pair_of names (x, y)) (filter together xs)) (map (pair_of names) (pairs_with ds xs))
          (partners ds x (filter together xs) h.0 (all-filter (λ y. contains mandatory y ≡ true) together xs h.1)) (pairs_by ds xs h.1))

      own_names : AllByRecursion (λ n. contains mandatory n ≡ true) mandatory
      own_names = all_with _ _ (λ n h. h (bytes_eq n) (name_self n)) mandatory (members [] mandatory)

      -- ---- each variable of a `$f` stands in the formula or in a `$e`

      tail_number : (n : Name) (ns : List Name) → contains (drop 1 ns) n ≡ true → stands_in (symbol_in names n) (map (symbol_in names) ns) ≡ true
      tail_number n [] h = absurd cc
      tail_number n (c ∷ ns) h = go ns h
        where
          go : (ms : List Name) → contains ms n ≡ true → list_any (λ (v : Sym). v.0 == (symbol_in names n).0) (map (symbol_in names) ms) ≡ true
          go [] i = absurd cc
          go (m ∷ ms) i = elim (or_cases (bytes_eq n m) (contains ms n) i) [
            | inl d ↦ or_left _ _ (eq-eqb (symbol_in names m).0 (symbol_in names n).0 (ap (λ x. (symbol_in names x).0) (sym (same_names n m d))))
            | inr d ↦ or_right _ _ (go ms d)
          ]

      essential_stands : (n : Name) → contains (variables b) n ≡ true → list_any (λ (x : Statement). contains (symbols_in x) n) (with_keyword (codes "$e") (active b)) ≡ true
          → list_any (λ (h : Hyp). not h.floating && stands_in (symbol_in names n) h.formula) f.hyps ≡ true
      essential_stands n v h =
          let tails = any_known (with_keyword (codes "$e") (active b)) essentials_known h in
          let some = any-filter (λ x. contains (drop 1 (symbols_in x)) n) (has_keyword (codes "$e")) (active b) tails in
          let turned = any-back (λ x. has_keyword (codes "$e") x && contains (drop 1 (symbols_in x)) n) (active b) some in
          let marked =
          any-with (λ x. has_keyword (codes "$e") x && contains (drop 1 (symbols_in x)) n)
          (λ x. counts mandatory x && (not (is_float x) && stands_in (symbol_in names n) (formula_of names x)))
          (λ x d.
          let two = and_parts (has_keyword (codes "$e") x) (contains (drop 1 (symbols_in x)) n) d in
          and_from (counts mandatory x) _ (or_left (has_keyword (codes "$e") x) _ two.0)
          (and_from (not (is_float x)) _ (not_from_false (is_float x) (one_keyword x (codes "$e") (codes "$f") two.0 refl)) (tail_number n (symbols_in x) two.1))) (reverse (active b)) turned in
          any-map (λ (h : Hyp). not h.floating && stands_in (symbol_in names n) h.formula) (hypothesis_of names) counting
          ∙ any_kept (λ x. not (is_float x) && stands_in (symbol_in names n) (formula_of names x)) (counts mandatory) (reverse (active b)) marked
        where
          any_known : (hs : List Statement) → AllByRecursion (λ h. FormulaKnown b (symbols_in h)) hs → list_any (λ (x : Statement). contains (symbols_in x) n) hs ≡ true
              → list_any (λ (x : Statement). contains (drop 1 (symbols_in x)) n) hs ≡ true
          any_known [] k i = absurd cc
          any_known (x ∷ hs) k i = elim (or_cases (contains (symbols_in x) n) (list_any (λ (y : Statement). contains (symbols_in y) n) hs) i) [
            | inl d ↦ or_left _ _ (tail_by n v (symbols_in x) k.0 d)
            | inr d ↦ or_right _ _ (any_known hs k.1 d)
          ]

      used_by : (n : Name) → contains mandatory n ≡ true → (stands_in (symbol_in names n) f.formula || list_any (λ (h : Hyp). not h.floating && stands_in (symbol_in names n) h.formula) f.hyps) ≡ true
      used_by n m =
          let two = mandatory_is n m in
          elim (or_cases (contains (symbols_in s) n) (list_any (λ (x : Statement). contains (symbols_in x) n) (with_keyword (codes "$e") (active b))) two.1) [
            | inl d ↦ or_left _ _ (tail_number n (symbols_in s) (tail_by n two.0 (symbols_in s) formula_known_here d))
            | inr d ↦ or_right _ _ (essential_stands n two.0 d)
          ]

      all_used : (vars : List TypedVariable)
          → ((k : ℕ) (v : TypedVariable) → slice_get vars k ≡ Some v → (n : Name) × (contains mandatory n ≡ true) × (v.sym ≡ symbol_in names n))
          → AllByRecursion (IsUsed f) vars
      all_used [] g = tt
      all_used (v ∷ vars) g =
          let n = g 0 v refl in (
            subst (λ (x : Sym). (stands_in x f.formula || list_any (λ (h : Hyp). not h.floating && stands_in x h.formula) f.hyps) ≡ true) (sym n.2) (used_by n.0 n.1),
            all_used vars (λ k w e. g (suc k) w e),
          )

      pub frame_apart : FrameIsApart db f
      frame_apart = record {
        constants = λ x c. no_floats counting (all-filter FloatShort (counts mandatory) (reverse (active b)) short_reversed)
            (all-filter (FloatDeclared b) (counts mandatory) (reverse (active b)) declared_reversed) x (sym (same_constants x) ∙ c);
        begins = begins_by (symbols_in s) formula_known_here;
        hyps_begin = all_begin counting (mandatory_known mandatory b each);
        pairs = pairs_by (with_keyword (codes "$d") (active b)) mandatory own_names;
        used =
            all_used (typed_variables f.hyps)
            (λ k v e. typed_from names mandatory (floats_of mandatory b) (floats_mandatory mandatory b each) k v
            (subst (λ vs. slice_get vs k ≡ Some v) (typed_at ss l at s) e));
      }
