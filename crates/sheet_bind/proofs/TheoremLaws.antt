-- The theorem and the pairs of a worksheet, as the definitions say them.
use Rattle.std.specs.Prelude.{◌≡◌, ℕ, zero, suc, ◌-◌, ◌==◌, ◌&&◌, ◌||◌, not, Bool, true, false, List, [], ◌∷◌, ◌++◌, drop, filter, filter_map, flat_map, fold, map, nat_lt, refl}
use Rattle.std.specs.BTreeSet.{insert_key}
use Rattle.std.specs.BTreeMap.{is_at}
use Rattle.std.specs.List.{list_any}
use Rattle.std.specs.Ordering.{nat_cmp, is_eq}
use Rattle.std.proofs.Common.{arith, sym, ap, ◌∙◌, inl, inr, cond, append-nil, append_assoc}
use Rattle.std.proofs.lemmas.Bool.{cases_Bool, cases_order}
use Rattle.std.proofs.lemmas.Bool.Decides.{nat_tests}
use Rattle.std.proofs.lemmas.List.Folds.{fold-map}
use Rattle.std.proofs.lemmas.List.Sums.{fold-append}
use mathlib.Core.Path.{fun_ext}
use Rattle.mm_base.specs.declared.symbols.Sym.{Sym}
use Rattle.mm_base.proofs.NumberTests.{is_less, no_less, no_self, is_equal, differs, differs_above}
use Rattle.mm_base.specs.declared.symbols.Pair.{Pair}
use Rattle.mm_model.specs.declared.frames.Hyp.{Hyp}
use Rattle.mm_model.specs.Names.{Name, symbol_named}
use Rattle.mm_model.specs.Productions.{essentials}
use Rattle.sheet_text.specs.declared.sheet.PairLine.{PairLine}
use Rattle.sheet_text.specs.declared.sheet.SheetItem.{SheetItem}
use Rattle.sheet_text.specs.declared.sheet.SheetItem.TheVariants as item
use Rattle.sheet_text.specs.declared.sheet.SheetStep.{SheetStep}
use Rattle.sheet_text.specs.Layout.{step_of_item}
use Rattle.solve_model.specs.Binding.{two_of, is_mandatory, mandatory_of}
use Rattle.solve_model.specs.PairSets.{ordered, put_pair}
use Rattle.sheet_bind.specs.GivenPairs.{put_row, put_two, put_line}
use Rattle.sheet_bind.specs.Theorems.{hyp_of, grown, put_item, put_number, put_essential, has_number, is_needed, used_in, names_needed}

-- ---- pairs

two_put : (vs : List Sym) (ps : List Pair) → put_two ps vs ≡ fold put_pair ps (two_of vs)
two_put [] ps = refl
two_put (v ∷ vs) ps =
    two_put vs (put_row v ps vs)
    ∙ ap (λ (acc : List Pair). fold put_pair acc (two_of vs)) (sym (fold-map put_pair (ordered v) ps vs))
    ∙ sym (fold-append put_pair ps (map (ordered v) vs) (two_of vs))

pub pairs_put : (symbols : List Name) (lines : List PairLine) (acc : List Pair)
    → fold (put_line symbols) acc lines ≡ fold put_pair acc (flat_map (λ (p : PairLine). two_of (filter_map (symbol_named symbols) p.names)) lines)
pairs_put symbols [] acc = refl
pairs_put symbols (p ∷ ps) acc =
    pairs_put symbols ps (put_line symbols acc p)
    ∙ ap (λ (a : List Pair). fold put_pair a (flat_map (λ (q : PairLine). two_of (filter_map (symbol_named symbols) q.names)) ps)) (two_put (filter_map (symbol_named symbols) p.names) acc)
    ∙ sym (fold-append put_pair acc (two_of (filter_map (symbol_named symbols) p.names)) (flat_map (λ (q : PairLine). two_of (filter_map (symbol_named symbols) q.names)) ps))

-- ---- the hypotheses

abbrev hyps_of : List SheetItem → List SheetStep
hyps_of items = filter (λ (t : SheetStep). t.hyp) (filter_map step_of_item items)

abbrev nothing : List SheetStep
nothing = []

drop_none : (n : ℕ) → drop n nothing ≡ nothing
drop_none zero = refl
drop_none (suc n) = refl

less_one : (n : ℕ) → suc n - 1 ≡ n
less_one n = omega arith

above_zero : (n : ℕ) → nat_lt 0 (suc n) ≡ true
above_zero n = grind (arith, nat_tests)

module _ (symbols : List Name) where
  Grows : List SheetItem → Type 0
  Grows items = (left : ℕ) (hyps : List Hyp) → (fold (put_item symbols) (grown left hyps) items).hyps ≡ hyps ++ map (hyp_of symbols) (drop left (hyps_of items))

  one_grown : (t : SheetStep) (items : List SheetItem) (hyps : List Hyp) → Grows items → (left : ℕ)
      → (fold (put_item symbols) (cond (nat_lt 0 left) (grown (left - 1) hyps) (grown left (hyps ++ hyp_of symbols t ∷ []))) items).hyps ≡ hyps ++ map (hyp_of symbols) (drop left (t ∷ hyps_of items))
  unfolding Grows
  one_grown t items hyps rest zero = rest 0 (hyps ++ hyp_of symbols t ∷ []) ∙ append_assoc hyps (hyp_of symbols t ∷ []) (map (hyp_of symbols) (hyps_of items))
  one_grown t items hyps rest (suc n) =
      ap (λ (b : Bool). (fold (put_item symbols) (cond b (grown (suc n - 1) hyps) (grown (suc n) (hyps ++ hyp_of symbols t ∷ []))) items).hyps) (above_zero n)
      ∙ ap (λ (m : ℕ). (fold (put_item symbols) (grown m hyps) items).hyps) (less_one n) ∙ rest n hyps

  step_grown : (t : SheetStep) (items : List SheetItem) (hyps : List Hyp) → Grows items → (left : ℕ) (b : Bool)
      → (fold (put_item symbols) (cond b (cond (nat_lt 0 left) (grown (left - 1) hyps) (grown left (hyps ++ hyp_of symbols t ∷ []))) (grown left hyps)) items).hyps
      ≡ hyps ++ map (hyp_of symbols) (drop left (cond b (t ∷ hyps_of items) (hyps_of items)))
  unfolding Grows
  step_grown t items hyps rest left true = one_grown t items hyps rest left
  step_grown t items hyps rest left false = rest left hyps

  all_grown : (items : List SheetItem) → Grows items
  unfolding Grows
  all_grown [] left hyps = sym (ap (λ (ts : List SheetStep). hyps ++ map (hyp_of symbols) ts) (drop_none left) ∙ append-nil hyps)
  all_grown (item.Comment lines ∷ items) left hyps = all_grown items left hyps
  all_grown (item.Step t ∷ items) left hyps = step_grown t items hyps (all_grown items) left t.hyp

  pub hyps_grown : (items : List SheetItem) (left : ℕ) (hyps : List Hyp) → (fold (put_item symbols) (grown left hyps) items).hyps ≡ hyps ++ map (hyp_of symbols) (drop left (hyps_of items))
  unfolding Grows
  hyps_grown items left hyps = all_grown items left hyps

-- ---- the mandatory hypotheses

or_false : (a : Bool) → (a || false) ≡ a
or_false true = refl
or_false false = refl

or_same : (a b : Bool) → (a || b) ≡ (a || (a || b))
or_same true b = refl
or_same false b = refl

or_change : (a b c : Bool) → (a || (b || c)) ≡ (b || (a || c))
or_change true true c = refl
or_change true false c = refl
or_change false b c = refl

or_assoc : (a b c : Bool) → ((a || b) || c) ≡ (a || (b || c))
or_assoc true b c = refl
or_assoc false b c = refl

compared : (a b : ℕ) → is_eq (nat_cmp a b) ≡ (a == b)
compared a b = elim (cases_order a b) [
  | inl e ↦ rw (no_self a b e, is_equal a b e) refl
  | inr h ↦ elim h [
    | inl l ↦ rw (is_less a b l, differs a b l) refl
    | inr g ↦ rw (no_less a b g, differs_above a b g) refl
  ]
]

has : List ℕ → ℕ → Bool
has ns n = list_any (is_at (nat_cmp n)) ns

number_put : (k n : ℕ) (ks : List ℕ) → has (insert_key nat_cmp ks k) n ≡ (is_eq (nat_cmp n k) || has ks n)
unfolding has
number_put k n [] = refl
number_put k n (x ∷ xs) = elim (cases_order k x) [
  | inl e ↦ rw (no_self k x e, is_equal k x e) (or_same (is_eq (nat_cmp n x)) (has xs n) ∙ ap (λ (z : ℕ). is_eq (nat_cmp n z) || (is_eq (nat_cmp n x) || has xs n)) (sym e))
  | inr h ↦ elim h [
    | inl l ↦ rw (is_less k x l) refl
    | inr g ↦ rw (no_less k x g, differs_above k x g) (ap (λ (b : Bool). is_eq (nat_cmp n x) || b) (number_put k n xs) ∙ or_change (is_eq (nat_cmp n x)) (is_eq (nat_cmp n k)) (has xs n))
  ]
]

abbrev stands : ℕ → List Sym → Bool
stands n xs = list_any (λ (v : Sym). n == v.0) xs

abbrev stands_in : ℕ → List (List Sym) → Bool
stands_in n fs = list_any (stands n) fs

numbers_put : (xs : List Sym) (ns : List ℕ) (n : ℕ) → has (fold put_number ns xs) n ≡ (stands n xs || has ns n)
unfolding has
numbers_put [] ns n = refl
numbers_put (x ∷ xs) ns n =
    numbers_put xs (put_number ns x) n ∙ ap (λ (b : Bool). stands n xs || b) (number_put x.0 n ns)
    ∙ or_change (stands n xs) (is_eq (nat_cmp n x.0)) (has ns n) ∙ ap (λ (b : Bool). b || (stands n xs || has ns n)) (compared n x.0)
    ∙ sym (or_assoc (n == x.0) (stands n xs) (has ns n))

abbrev formulas_of : List Hyp → List (List Sym)
formulas_of hs = map (λ (e : Hyp). e.formula) (essentials hs)

essentials_put : (hs : List Hyp) (ns : List ℕ) (n : ℕ) → has (fold put_essential ns hs) n ≡ (stands_in n (formulas_of hs) || has ns n)
unfolding has
essentials_put [] ns n = refl
essentials_put (h ∷ hs) ns n = elim (cases_Bool h.floating) [
  | inl e ↦ rw e (essentials_put hs ns n)
  | inr e ↦ rw e (
      essentials_put hs (fold put_number ns h.formula) n ∙ ap (λ (b : Bool). stands_in n (formulas_of hs) || b) (numbers_put h.formula ns n)
      ∙ or_change (stands_in n (formulas_of hs)) (stands n h.formula) (has ns n) ∙ sym (or_assoc (stands n h.formula) (stands_in n (formulas_of hs)) (has ns n)))
]

used_has : (formula : List Sym) (hs : List Hyp) (n : ℕ) → has (used_in formula hs) n ≡ stands_in n (formula ∷ formulas_of hs)
unfolding has
used_has formula hs n =
    essentials_put hs (fold put_number [] formula) n
    ∙ ap (λ (b : Bool). stands_in n (formulas_of hs) || b) (numbers_put formula [] n ∙ or_false (stands n formula))
    ∙ or_swap (stands_in n (formulas_of hs)) (stands n formula)
  where
    or_swap : (a b : Bool) → (a || b) ≡ (b || a)
    or_swap true true = refl
    or_swap true false = refl
    or_swap false true = refl
    or_swap false false = refl

-- any of these with any of those
any_none : {Y : Type 0} (ys : List Y) → list_any (λ y. false) ys ≡ false
any_none [] = refl
any_none (y ∷ ys) = any_none ys

any_or : {Y : Type 0} (a b : Y → Bool) (ys : List Y) → (list_any a ys || list_any b ys) ≡ list_any (λ y. a y || b y) ys
any_or a b [] = refl
any_or a b (y ∷ ys) = by (a y) (b y) (list_any a ys) (list_any b ys) ∙ ap (λ (c : Bool). (a y || b y) || c) (any_or a b ys)
  where
    by : (p q r s : Bool) → ((p || r) || (q || s)) ≡ ((p || q) || (r || s))
    by true q r s = refl
    by false true true s = refl
    by false true false s = refl
    by false false r s = refl

any_swapped : {X Y : Type 0} (r : X → Y → Bool) (xs : List X) (ys : List Y) → list_any (λ x. list_any (r x) ys) xs ≡ list_any (λ y. list_any (λ x. r x y) xs) ys
any_swapped r [] ys = sym (any_none ys)
any_swapped r (x ∷ xs) ys = ap (λ (b : Bool). list_any (r x) ys || b) (any_swapped r xs ys) ∙ any_or (r x) (λ y. list_any (λ z. r z y) xs) ys

turned : (a b : ℕ) → (a == b) ≡ (b == a)
turned a b = grind (arith, nat_tests)

module _ (formula : List Sym) (hs : List Hyp) where
  needed_var : (w : Sym) → has_number (used_in formula hs) w ≡ stands_in w.0 (formula ∷ formulas_of hs)
  unfolding has
  needed_var w = used_has formula hs w.0

  -- some variable of the `$f` stands in the formulas
  vars_needed : (vars : List Sym)
      → list_any (has_number (used_in formula hs)) vars
      ≡ list_any (λ (f : List Sym). list_any (λ (v : Sym). list_any (λ (w : Sym). w.0 == v.0) vars) f) (formula ∷ formulas_of hs)
  vars_needed vars =
      ap (λ (p : Sym → Bool). list_any p vars) (fun_ext needed_var)
      ∙ any_swapped (λ (w : Sym) (f : List Sym). stands w.0 f) vars (formula ∷ formulas_of hs)
      ∙ ap (λ (p : List Sym → Bool). list_any p (formula ∷ formulas_of hs)) (fun_ext (λ f. any_swapped (λ (w v : Sym). w.0 == v.0) vars f))

  by_kind : (b : Bool) (vars : List Sym) → (not b || list_any (has_number (used_in formula hs)) vars)
      ≡ (not b || list_any (λ (f : List Sym). list_any (λ (v : Sym). b && list_any (λ (w : Sym). w.0 == v.0) vars) f) (formula ∷ formulas_of hs))
  by_kind true vars = vars_needed vars
  by_kind false vars = refl

  needed_is : (h : Hyp) → is_needed (used_in formula hs) h ≡ is_mandatory (formula ∷ formulas_of hs) h
  needed_is h = by_kind h.floating (drop 1 h.formula)

  names_put : (p : Hyp → Bool) (xs : List Hyp) (acc : List Name)
      → fold (λ (names : List Name) (h : Hyp). cond (p h) (names ++ h.name ∷ []) names) acc xs ≡ acc ++ map (λ (h : Hyp). h.name) (filter p xs)
  names_put p [] acc = sym (append-nil acc)
  names_put p (h ∷ xs) acc = elim (cases_Bool (p h)) [
    | inl e ↦ rw e (names_put p xs (acc ++ h.name ∷ []) ∙ append_assoc acc (h.name ∷ []) (map (λ (h : Hyp). h.name) (filter p xs)))
    | inr e ↦ rw e (names_put p xs acc)
  ]

  pub mandatory_is : names_needed formula hs ≡ mandatory_of formula hs
  mandatory_is = names_put (is_needed (used_in formula hs)) hs [] ∙ ap (λ (p : Hyp → Bool). map (λ (h : Hyp). h.name) (filter p hs)) (fun_ext needed_is)
