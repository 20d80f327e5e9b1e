-- The productions of a text without a fault are rows of a grammar, and are as their frames say.
use Rattle.std.proofs.Common.{◌≡◌, ◌<◌, ◌==◌, ℕ, zero, suc, Bool, true, false, cond, not, ◌||◌, ◌&&◌, List, [], ◌∷◌, length, map, reverse, Option}
use Rattle.std.proofs.Common.{Some, None, refl, sym, ap, ◌∙◌, arith, subst, inl, inr, get_or, codes, nat_eq, nat_lt}
use Rattle.std.specs.Option.{option_and_then}
use Rattle.std.specs.List.{AllByRecursion, slice_get, filter, list_any, position, position_or_len}
use Rattle.std.specs.Str.{bytes_eq}
use Rattle.std.proofs.lemmas.Bool.{cases_Bool, or_cases, or_left, and_parts, both_ways, ltb-true, eqb-true, eq-eqb, not_from_false, false_from_ne_true}
use Rattle.std.proofs.lemmas.Bool.Decides.{nat_tests}
use Rattle.std.proofs.lemmas.List.{length-map, reverse-reverse}
use Rattle.std.proofs.lemmas.List.Sums.{passes_at_first}
use Rattle.std.proofs.lemmas.Option.{cond_some, slice_get-get_or}
use Rattle.mm_base.specs.declared.symbols.Sym.{Sym}
use Rattle.mm_base.specs.declared.symbols.Label.{Label}
use Rattle.mm_model.specs.declared.frames.Hyp.{Hyp}
use Rattle.mm_model.specs.declared.frames.Frame.{Frame}
use Rattle.mm_model.specs.declared.rows.Item.{Item}
use Rattle.mm_model.specs.declared.rows.Item.TheVariants.{Const, Slot}
use Rattle.mm_model.specs.declared.rows.Production.{Production}
use Rattle.mm_model.specs.Names.{Name, typecode}
use Rattle.mm_model.specs.Statements.{Statement, has_keyword, with_keyword, symbols_in, contains, variables, active, is_empty}
use Rattle.mm_model.specs.Frames.{symbols, symbol_in, below, hypothesis_of, mandatory_hypotheses, frame_at, frame_of}
use Rattle.mm_model.specs.Productions.{TypedVariable, typed_variables, essentials, item_of, has_repeats, row_with, row_of_frame, is_syntax, begins_with}
use Rattle.mm_model.specs.Rows.{slot_order, place_of, EachOnce, IsRow}
use Rattle.mm_model.specs.BookFacts.{VariablesDiffer, IsRowFrame, item_symbol}
use Rattle.model_laws.proofs.Checked.{EachBefore, IsChecked, found}
use Rattle.model_laws.proofs.Shapes.{BeginsWithConstant, axiom_begins}
use Rattle.model_laws.proofs.Listed.{all-reverse, all_with, same_names, contains_passes}
use Rattle.model_laws.proofs.FrameFacts.{is_float, one_keyword, counts, floats_of, IsMandatory, floats_mandatory, typed_list, variable_of, filter-map}
use Rattle.model_laws.proofs.FrameFacts.{frame_known, Facts, mandatory_at, typed_at, typed_list-cons, facts_at, and_then}

-- ---- a row comes of a frame

pub record IsRowBy (provable : Sym) (f : Frame) (r : Production) : Type 0 where
  pub syntax_is : is_syntax provable f ≡ true
  pub row : row_with f f.formula ≡ Some r
  pub repeats : has_repeats (slot_order r.items) ≡ false

cond_none : {A : Type 0} (b : Bool) (o : Option A) (x : A) → cond b o None ≡ Some x → (b ≡ true) × (o ≡ Some x)
cond_none true o x e = (refl, e)
cond_none false o x e = absurd cc

none_cond : {A : Type 0} (b : Bool) (x y : A) → cond b None (Some x) ≡ Some y → (b ≡ false) × (x ≡ y)
none_cond true x y e = absurd cc
none_cond false x y e = (refl, cc)

abbrev checked_row : Production → Option Production
checked_row r = cond (has_repeats (slot_order r.items)) None (Some r)

pub row_by : (provable : Sym) (f : Frame) (r : Production) → row_of_frame provable f ≡ Some r → IsRowBy provable f r
row_by provable f r e =
    let one = cond_none (is_syntax provable f) (option_and_then checked_row (row_with f f.formula)) r e in
    let two = and_then checked_row (row_with f f.formula) r one.1 in
    let three = none_cond (has_repeats (slot_order two.0.items)) two.0 r two.2 in
    record {
      syntax_is = one.0;
      row = two.1 ∙ ap (λ x. Some x) three.1;
      repeats = ap (λ (x : Production). has_repeats (slot_order x.items)) (sym three.1) ∙ three.0;
    }

-- what `is_syntax` says
pub record IsSyntax (f : Frame) : Type 0 where
  pub is_axiom : f.is_axiom ≡ true
  pub essentials : essentials f.hyps ≡ []
  pub pairs : f.pairs ≡ []

empty : {X : Type 0} (xs : List X) → is_empty xs ≡ true → xs ≡ []
empty [] e = refl
empty (x ∷ xs) e = absurd cc

pub syntax_by : (provable : Sym) (f : Frame) → is_syntax provable f ≡ true → IsSyntax f
syntax_by provable f e =
    let one = and_parts (f.is_axiom && not (begins_with provable f.formula) && is_empty (essentials f.hyps)) (is_empty f.pairs) e in
    let two = and_parts (f.is_axiom && not (begins_with provable f.formula)) (is_empty (essentials f.hyps)) one.0 in
    let three = and_parts f.is_axiom (not (begins_with provable f.formula)) two.0 in
    record { is_axiom = three.0; essentials = empty (essentials f.hyps) two.1; pairs = empty f.pairs one.1 }

-- ---- no `$e` is active where a frame has none

mapped_empty : {X Y : Type 0} (f : X → Y) (xs : List X) → map f xs ≡ [] → xs ≡ []
mapped_empty f [] e = refl
mapped_empty f (x ∷ xs) e = absurd cc

twice_empty : {X : Type 0} (r c : X → Bool) (xs : List X) → filter r (filter c xs) ≡ [] → AllByRecursion (λ x. c x ≡ true → r x ≡ true → ⊥) xs
twice_empty r c [] e = tt
twice_empty r c (x ∷ xs) e = elim (cases_Bool (c x)) [
  | inl d ↦ elim (cases_Bool (r x)) [
    | inl g ↦ let bad : ◌≡◌ {A = List _} (x ∷ filter r (filter c xs)) [] = rw (d, g) at e in absurd cc
    | inr g ↦ ((λ p q. both_ways (r x) g q), twice_empty r c xs (rw (d, g) at e))
  ]
  | inr d ↦ ((λ p q. both_ways (c x) d p), twice_empty r c xs (rw d at e))
]

none_kept : {X : Type 0} (p : X → Bool) (xs : List X) → AllByRecursion (λ x. p x ≡ false) xs → filter p xs ≡ []
none_kept p [] h = refl
none_kept p (x ∷ xs) h = rw h.0 (none_kept p xs h.1)

no_essential : (names mandatory : List Name) (b : List Statement) → essentials (map (hypothesis_of names) (mandatory_hypotheses mandatory b)) ≡ [] → with_keyword (codes "$e") (active b) ≡ []
no_essential names mandatory b e =
    let kept = sym (filter-map (λ (h : Hyp). not h.floating) (hypothesis_of names) (mandatory_hypotheses mandatory b)) ∙ e in
    let none = mapped_empty (hypothesis_of names) (filter (λ h. not (is_float h)) (mandatory_hypotheses mandatory b)) kept in
    let each = twice_empty (λ h. not (is_float h)) (counts mandatory) (reverse (active b)) none in
    let turned : AllByRecursion (λ h. has_keyword (codes "$e") h ≡ false) (reverse (active b)) =
    all_with (λ h. counts mandatory h ≡ true → not (is_float h) ≡ true → ⊥) (λ h. has_keyword (codes "$e") h ≡ false)
    (λ h c. false_from_ne_true (has_keyword (codes "$e") h)
    (λ is_e. c (or_left _ _ is_e) (not_from_false (is_float h) (one_keyword h (codes "$e") (codes "$f") is_e refl))))
    (reverse (active b)) each in
    none_kept (has_keyword (codes "$e")) (active b) (subst (AllByRecursion (λ h. has_keyword (codes "$e") h ≡ false)) (reverse-reverse (active b)) (all-reverse _ (reverse (active b)) turned))

-- ---- the number of a variable in the frame

same_sym : (s t : Sym) → (s.0 == t.0) ≡ true → s ≡ t
same_sym s t e = ap (λ (n : ℕ). let x : Sym = record { 0 = n } in x) (eqb-true s.0 t.0 e)

abbrev is_of : Sym → TypedVariable → Bool
is_of s v = v.sym.0 == s.0

position_some : {X : Type 0} (p : X → Bool) (xs : List X) (k : ℕ) → position p xs ≡ Some k → (k < length xs) × (position_or_len p xs ≡ k)
position_some p xs k e =
    let both = cond_some (nat_lt (position_or_len p xs) (length xs)) (position_or_len p xs) k e in
    let less : position_or_len p xs < length xs = ltb-true (position_or_len p xs) (length xs) both.0 in
    (subst (λ (n : ℕ). n < length xs) both.1 less, both.1)

-- what stands at a number that was found
pub slot_stands : (vars : List TypedVariable) (s : Sym) (k : ℕ) → position (is_of s) vars ≡ Some k → (v : TypedVariable) × (slice_get vars k ≡ Some v) × (v.sym ≡ s)
slot_stands vars s k e =
    let at = position_some (is_of s) vars k e in
    let d : TypedVariable = record { sym = s; code = typecode s } in
    let less : position_or_len (is_of s) vars < length vars = subst (λ (n : ℕ). n < length vars) (sym at.1) at.0 in
    let pass = passes_at_first (is_of s) vars d less in
    (get_or vars k d, slice_get-get_or vars k d at.0, same_sym (get_or vars k d).sym s (ap (λ (n : ℕ). is_of s (get_or vars n d)) (sym at.1) ∙ pass))

first_of_two : {X : Type 0} (p : X → Bool) (xs : List X) (k : ℕ) (x : X) → slice_get xs k ≡ Some x → p x ≡ true → position_or_len p xs < length xs
first_of_two p [] k x e h = absurd cc
first_of_two p (y ∷ xs) zero x e h = let same : y ≡ x = cc in let d : p y ≡ true = ap p same ∙ h in rw d (omega arith)
first_of_two p (y ∷ xs) (suc k) x e h = elim (cases_Bool (p y)) [
  | inl d ↦ rw d (omega arith)
  | inr d ↦ let rest = first_of_two p xs k x e h in rw d (omega (arith, rest))
]

-- a variable of the frame is found at its own number
found_at : (vars : List TypedVariable) → VariablesDiffer vars → (k : ℕ) (v : TypedVariable) → slice_get vars k ≡ Some v → position (is_of v.sym) vars ≡ Some k
found_at vars differ k v e =
    let less = first_of_two (is_of v.sym) vars k v e (eq-eqb v.sym.0 v.sym.0 refl) in
    let n = position_or_len (is_of v.sym) vars in
    let pass = passes_at_first (is_of v.sym) vars v less in
    let same : n ≡ k = differ n k (get_or vars n v) v (slice_get-get_or vars n v less) e (same_sym (get_or vars n v).sym v.sym pass) in
    let test : nat_lt n (length vars) ≡ true = grind (arith, nat_tests, less) in
    ap (λ (b : Bool). cond b (Some n) None) test ∙ ap (λ (j : ℕ). Some j) same

-- ---- items

abbrev by_place : Sym → Option ℕ → Item
by_place s None = Const s
by_place s (Some k) = Slot k

item-by : (vars : List TypedVariable) (s : Sym) (o : Option ℕ) → position (is_of s) vars ≡ o → item_of vars s ≡ by_place s o
item-by vars s None e = rw e refl
item-by vars s (Some k) e = rw e refl

symbol-by : (vars : List TypedVariable) (s : Sym) (o : Option ℕ) → position (is_of s) vars ≡ o → item_symbol vars (item_of vars s) ≡ s
symbol-by vars s None e = ap (item_symbol vars) (item-by vars s None e)
symbol-by vars s (Some k) e =
    let at = slot_stands vars s k e in
    ap (item_symbol vars) (item-by vars s (Some k) e) ∙ rw at.1 at.2

pub symbols_back : (vars : List TypedVariable) (ss : List Sym) → map (item_symbol vars) (map (item_of vars) ss) ≡ ss
symbols_back vars [] = refl
symbols_back vars (s ∷ ss) =
    ap (λ x. x ∷ map (item_symbol vars) (map (item_of vars) ss)) (symbol-by vars s (position (is_of s) vars) refl) ∙ ap (λ xs. s ∷ xs) (symbols_back vars ss)

-- ---- the order of the slots

abbrev order : List TypedVariable → List Sym → List ℕ
order vars ss = slot_order (map (item_of vars) ss)

order-cons : (vars : List TypedVariable) (s : Sym) (ss : List Sym) (o : Option ℕ) → position (is_of s) vars ≡ o → order vars (s ∷ ss) ≡ slot_order (by_place s o ∷ map (item_of vars) ss)
order-cons vars s ss o e = ap (λ i. slot_order (i ∷ map (item_of vars) ss)) (item-by vars s o e)

within_by : (vars : List TypedVariable) (s : Sym) (ss : List Sym) (o : Option ℕ) → position (is_of s) vars ≡ o
    → AllByRecursion (λ k. k < length vars) (order vars ss) → AllByRecursion (λ k. k < length vars) (order vars (s ∷ ss))
within_by vars s ss None e h = subst (AllByRecursion (λ k. k < length vars)) (sym (order-cons vars s ss None e)) h
within_by vars s ss (Some k) e h = subst (AllByRecursion (λ k. k < length vars)) (sym (order-cons vars s ss (Some k) e)) ((position_some (is_of s) vars k e).0, h)

order_within : (vars : List TypedVariable) (ss : List Sym) → AllByRecursion (λ k. k < length vars) (order vars ss)
order_within vars [] = tt
order_within vars (s ∷ ss) = within_by vars s ss (position (is_of s) vars) refl (order_within vars ss)

has_by : (vars : List TypedVariable) (k : ℕ) (s : Sym) (ss : List Sym) (o : Option ℕ) → position (is_of s) vars ≡ o
    → list_any (nat_eq k) (order vars ss) ≡ true → list_any (nat_eq k) (order vars (s ∷ ss)) ≡ true
has_by vars k s ss None e h = ap (list_any (nat_eq k)) (order-cons vars s ss None e) ∙ h
has_by vars k s ss (Some j) e h = ap (list_any (nat_eq k)) (order-cons vars s ss (Some j) e) ∙ elim (cases_Bool (nat_eq k j)) [ inl d ↦ rw d refl | inr d ↦ rw d h ]

-- where a symbol of the text is the variable of a number
order_has : (vars : List TypedVariable) (names : List Name) (k : ℕ) (n : Name) (ns : List Name) → position (is_of (symbol_in names n)) vars ≡ Some k → contains ns n ≡ true
    → list_any (nat_eq k) (order vars (map (symbol_in names) ns)) ≡ true
order_has vars names k n [] e h = absurd cc
order_has vars names k n (m ∷ ns) e h = elim (or_cases (bytes_eq n m) (contains ns n) h) [
  | inl d ↦
      let same : n ≡ m = same_names n m d in
      let at : position (is_of (symbol_in names m)) vars ≡ Some k = subst (λ x. position (is_of (symbol_in names x)) vars ≡ Some k) same e in
      let self : nat_eq k k ≡ true = eq-eqb k k refl in
      ap (list_any (nat_eq k)) (order-cons vars (symbol_in names m) (map (symbol_in names) ns) (Some k) at) ∙ rw self refl
  | inr d ↦ has_by vars k (symbol_in names m) (map (symbol_in names) ns) (position (is_of (symbol_in names m)) vars) refl (order_has vars names k n ns e d)
]

-- ---- each number once

place_within : (k : ℕ) (xs : List ℕ) → list_any (nat_eq k) xs ≡ true → place_of k xs < length xs
place_within k [] h = absurd cc
place_within k (x ∷ xs) h = elim (cases_Bool (k == x)) [
  | inl d ↦ rw d (omega arith)
  | inr d ↦ let rest = place_within k xs (rw d at h) in rw d (omega (arith, rest))
]

all_get : (P : ℕ → Type 0) (xs : List ℕ) → AllByRecursion P xs → (j : ℕ) → j < length xs → P (get_or xs j 0)
all_get P [] h j l = let bad : ⊥ = omega (arith, l) in absurd bad
all_get P (x ∷ xs) h zero l = h.0
all_get P (x ∷ xs) h (suc j) l = all_get P xs h.1 j (omega (arith, l))

stands_in : (xs : List ℕ) (j : ℕ) → j < length xs → list_any (nat_eq (get_or xs j 0)) xs ≡ true
stands_in [] j l = let bad : ⊥ = omega (arith, l) in absurd bad
stands_in (x ∷ xs) zero l = let self : nat_eq x x ≡ true = eq-eqb x x refl in rw self refl
stands_in (x ∷ xs) (suc j) l = elim (cases_Bool (nat_eq (get_or xs j 0) x)) [ inl d ↦ rw d refl | inr d ↦ rw d (stands_in xs j (omega (arith, l))) ]

repeats_split : (x : ℕ) (xs : List ℕ) → has_repeats (x ∷ xs) ≡ false → (list_any (nat_eq x) xs ≡ false) × (has_repeats xs ≡ false)
repeats_split x xs e = go (list_any (nat_eq x) xs) refl e
  where
    go : (b : Bool) → list_any (nat_eq x) xs ≡ b → cond b true (has_repeats xs) ≡ false → (list_any (nat_eq x) xs ≡ false) × (has_repeats xs ≡ false)
    go true is e = absurd cc
    go false is e = (is, e)

own_place : (xs : List ℕ) → has_repeats xs ≡ false → (j : ℕ) → j < length xs → place_of (get_or xs j 0) xs ≡ j
own_place [] h j l = let bad : ⊥ = omega (arith, l) in absurd bad
own_place (x ∷ xs) h zero l = let self : (x == x) ≡ true = eq-eqb x x refl in rw self refl
own_place (x ∷ xs) h (suc j) l =
    let split = repeats_split x xs h in
    let less : j < length xs = omega (arith, l) in
    let rest = own_place xs split.1 j less in
    elim (cases_Bool (get_or xs j 0 == x)) [
      | inl d ↦
          let same : get_or xs j 0 ≡ x = eqb-true (get_or xs j 0) x d in
          absurd (both_ways (list_any (nat_eq x) xs) split.0 (subst (λ (y : ℕ). list_any (nat_eq y) xs ≡ true) same (stands_in xs j less)))
      | inr d ↦ rw d (ap (λ (n : ℕ). suc n) rest)
    ]

-- ---- each slot stands once in the text

all_none : {X : Type 0} (p : X → Bool) (xs : List X) → filter (λ x. not (p x)) xs ≡ [] → filter p xs ≡ xs
all_none p [] e = refl
all_none p (x ∷ xs) e = elim (cases_Bool (p x)) [
  | inl d ↦ rw d (ap (λ ys. x ∷ ys) (all_none p xs (rw d at e)))
  | inr d ↦ let bad : ◌≡◌ {A = List _} (x ∷ filter (λ x. not (p x)) xs) [] = rw d at e in absurd cc
]

pub typed_from : (names mandatory : List Name) (hs : List Statement) → AllByRecursion (IsMandatory mandatory) hs → (k : ℕ) (v : TypedVariable) → slice_get (typed_list names mandatory hs) k ≡ Some v
    → (n : Name) × (contains mandatory n ≡ true) × (v.sym ≡ symbol_in names n)
typed_from names mandatory [] ms k v e = absurd cc
typed_from names mandatory (h ∷ hs) ms zero v e =
    let first : slice_get (variable_of names mandatory h ms.0 ∷ typed_list names mandatory hs) 0 ≡ Some v = subst (λ vs. slice_get vs 0 ≡ Some v) (typed_list-cons names mandatory h hs ms.0) e in
    let same : variable_of names mandatory h ms.0 ≡ v = cc in
    (ms.0.variable, ms.0.listed, ap (λ (x : TypedVariable). x.sym) (sym same))
typed_from names mandatory (h ∷ hs) ms (suc k) v e =
    typed_from names mandatory hs ms.1 k v (subst (λ vs. slice_get vs (suc k) ≡ Some v) (typed_list-cons names mandatory h hs ms.0) e)

-- a mandatory variable stands in the formula, behind the typecode
in_formula : (ss : List Statement) (at : ℕ) (s : Statement) (c : Name) (rest : List Name) → symbols_in s ≡ c ∷ rest
    → contains (variables (below ss at)) c ≡ false → with_keyword (codes "$e") (active (below ss at)) ≡ []
    → (n : Name) → contains (mandatory_at ss at s) n ≡ true → contains rest n ≡ true
in_formula ss at s c rest is constant none n h =
    let b = below ss at in
    let both = and_parts (contains (variables b) n) (list_any (λ (f : Statement). contains (symbols_in f) n) (s ∷ with_keyword (codes "$e") (active b))) (contains_passes _ (symbols ss) n h) in
    let stands : (contains (symbols_in s) n || false) ≡ true = sym (ap (λ xs. list_any (λ (f : Statement). contains (symbols_in f) n) (s ∷ xs)) none) ∙ both.1 in
    let stands' : (contains (c ∷ rest) n || false) ≡ true = sym (ap (λ ns. contains ns n || false) is) ∙ stands in
    elim (or_cases (contains (c ∷ rest) n) false stands') [
      | inl d ↦ elim (or_cases (bytes_eq n c) (contains rest n) d) [
        | inl g ↦ absurd (both_ways (contains (variables b) c) constant (subst (λ (x : Name). contains (variables b) x ≡ true) (same_names n c g) both.0))
        | inr g ↦ g
      ]
      | inr d ↦ let bad : false ≡ true = d in absurd cc
    ]

-- the vars of a frame at their places, and all of them in this text
record IsText (vars : List TypedVariable) (names : List Name) (ns : List Name) : Type 0 where
  differ : VariablesDiffer vars
  stand : (k : ℕ) (v : TypedVariable) → slice_get vars k ≡ Some v → (n : Name) × (contains ns n ≡ true) × (v.sym ≡ symbol_in names n)

each_once : (vars : List TypedVariable) (names ns : List Name) → IsText vars names ns → has_repeats (order vars (map (symbol_in names) ns)) ≡ false
    → EachOnce (length vars) (order vars (map (symbol_in names) ns))
each_once vars names ns t repeats = record {
  within = λ j l. all_get (λ k. k < length vars) (order vars (map (symbol_in names) ns)) (order_within vars (map (symbol_in names) ns)) j l;
  found = λ k l.
      let d : TypedVariable = record { sym = symbol_in names []; code = typecode (symbol_in names []) } in
      let v = get_or vars k d in
      let e = slice_get-get_or vars k d l in
      let n = t.stand k v e in
      let at : position (is_of (symbol_in names n.0)) vars ≡ Some k = subst (λ s. position (is_of s) vars ≡ Some k) n.2 (found_at vars t.differ k v e) in
      place_within k (order vars (map (symbol_in names) ns)) (order_has vars names k n.0 ns at n.1);
  once = λ j l. own_place (order vars (map (symbol_in names) ns)) repeats j l;
}

-- ---- the row of a frame

pub record RowFacts (f : Frame) (r : Production) : Type 0 where
  pub row : IsRow r
  pub frame : IsRowFrame r f
  pub label : r.label ≡ f.label

abbrev made : Frame → Sym → List Sym → Production
made f c rest = record {
  label = f.label;
  at = f.at;
  gives = typecode c;
  items = map (item_of (typed_variables f.hyps)) rest;
  slots = map (λ (v : TypedVariable). v.code) (typed_variables f.hyps);
}

row_at : (ss : List Statement) (l : Label) (at : ℕ) (s : Statement) → EachBefore IsChecked (below ss at) → IsChecked (below ss at) s → Facts ss l (frame_at ss l at s)
    → has_keyword (codes "$a") s ≡ true → IsSyntax (frame_at ss l at s) → (a n : Name) (ns : List Name) → symbols_in s ≡ a ∷ n ∷ ns
    → has_repeats (slot_order (made (frame_at ss l at s) (symbol_in (symbols ss) a) (map (symbol_in (symbols ss)) (n ∷ ns))).items) ≡ false
    → RowFacts (frame_at ss l at s) (made (frame_at ss l at s) (symbol_in (symbols ss) a) (map (symbol_in (symbols ss)) (n ∷ ns)))
row_at ss l at s each here facts axiom_ syntax_ a n ns is repeats =
    let names = symbols ss in
    let f = frame_at ss l at s in
    let b = below ss at in
    let mandatory = mandatory_at ss at s in
    let vars = typed_variables f.hyps in
    let hs = floats_of mandatory b in
    let constant : contains (variables b) a ≡ false = subst (BeginsWithConstant b) is (axiom_begins b s here axiom_) in
    let none = no_essential names mandatory b syntax_.essentials in
    let text : IsText vars names (n ∷ ns) = record {
      differ = facts.variables;
      stand = λ k v e.
          let m = typed_from names mandatory hs (floats_mandatory mandatory b each) k v (subst (λ vs. slice_get vs k ≡ Some v) (typed_at ss l at s) e) in
          (m.0, in_formula ss at s a (n ∷ ns) is constant none m.0 m.1, m.2);
    } in
    let long : length (map (λ (v : TypedVariable). v.code) vars) ≡ length vars = length-map vars (λ (v : TypedVariable). v.code) in
    record {
      row = record {
        written = λ e. absurd (filled (item_of vars (symbol_in names n)) (map (item_of vars) (map (symbol_in names) ns)) e);
        each_once = subst (λ (k : ℕ). EachOnce k (order vars (map (symbol_in names) (n ∷ ns)))) (sym long) (each_once vars names (n ∷ ns) text repeats);
      };
      frame = record {
        at = refl;
        slots = refl;
        hyps = ap (λ hyps. map (λ (h : Hyp). h.formula) hyps) (sym (all_none (λ (h : Hyp). h.floating) f.hyps syntax_.essentials)) ∙ facts.floats;
        all_float = syntax_.essentials;
        formula = ap (λ xs. map (symbol_in names) xs) is ∙ ap (λ xs. symbol_in names a ∷ xs) (sym (symbols_back vars (map (symbol_in names) (n ∷ ns))));
        no_pairs = syntax_.pairs;
      };
      label = refl;
    }
  where
    filled : (i : Item) (items : List Item) → i ∷ items ≡ [] → ⊥
    filled i items e = cc

row_of_names : (ss : List Statement) (l : Label) (at : ℕ) (s : Statement) → EachBefore IsChecked (below ss at) → IsChecked (below ss at) s → Facts ss l (frame_at ss l at s)
    → has_keyword (codes "$a") s ≡ true → IsSyntax (frame_at ss l at s) → (r : Production) → has_repeats (slot_order r.items) ≡ false
    → (ns : List Name) → symbols_in s ≡ ns → row_with (frame_at ss l at s) (map (symbol_in (symbols ss)) ns) ≡ Some r → RowFacts (frame_at ss l at s) r
row_of_names ss l at s each here facts axiom_ syntax_ r repeats [] is e = absurd cc
row_of_names ss l at s each here facts axiom_ syntax_ r repeats (a ∷ []) is e = absurd cc
row_of_names ss l at s each here facts axiom_ syntax_ r repeats (a ∷ n ∷ ns) is e =
    let same : made (frame_at ss l at s) (symbol_in (symbols ss) a) (map (symbol_in (symbols ss)) (n ∷ ns)) ≡ r = cc in
    subst (RowFacts (frame_at ss l at s)) same
    (row_at ss l at s each here facts axiom_ syntax_ a n ns is (subst (λ (x : Production). has_repeats (slot_order x.items) ≡ false) (sym same) repeats))

row_at_frame : (ss : List Statement) (l : Label) (at : ℕ) (s : Statement) → EachBefore IsChecked (below ss at) → IsChecked (below ss at) s → Facts ss l (frame_at ss l at s)
    → (provable : Sym) (r : Production) → row_of_frame provable (frame_at ss l at s) ≡ Some r → RowFacts (frame_at ss l at s) r
row_at_frame ss l at s each here facts provable r e =
    let by = row_by provable (frame_at ss l at s) r e in
    let is = syntax_by provable (frame_at ss l at s) by.syntax_is in
    row_of_names ss l at s each here facts is.is_axiom is r by.repeats (symbols_in s) refl by.row

-- the production that a frame gives
pub row_facts : (e : List Statement) → EachBefore IsChecked e → (l : Label) (f : Frame) (provable : Sym) (r : Production)
    → frame_of (reverse e) l ≡ Some f → row_of_frame provable f ≡ Some r → RowFacts f r
row_facts e h l f provable r is row =
    let k = frame_known (reverse e) l f is in
    let there = found IsChecked e k.at k.statement h k.stands in
    let facts = facts_at (reverse e) l k.at k.statement there.before k.position in
    subst (λ x. row_of_frame provable x ≡ Some r → RowFacts x r) k.frame (row_at_frame (reverse e) l k.at k.statement there.before there.here facts provable r) row
