-- A variable of an accepted step's assertion that neither its conclusion nor a given place shows is a fresh leaf of its own.
use Rattle.std.specs.Prelude.{◌≡◌, ◌⊎◌, ◌==◌, ◌&&◌, ℕ, zero, Bool, true, false, Contains, List, [], ◌∷◌, slice_index_or, Option, Some, None, refl}
use Rattle.std.specs.List.{AllByRecursion}
use Rattle.std.proofs.Common.{sym, ap, subst, ◌∙◌, arith, inl, inr, cond}
use Rattle.std.proofs.lemmas.Bool.{cases_Bool, and_parts, eq-eqb, eqb-true, both_ways}
use Rattle.std.proofs.lemmas.List.Elements.{Contains-append_left, Contains-append_right}
use Rattle.mm_base.specs.declared.symbols.Sym.{Sym}
use Rattle.mm_base.specs.declared.symbols.Typecode.{Typecode}
use Rattle.mm_base.specs.declared.tree.Tree.{Tree}
use Rattle.mm_base.specs.declared.tree.Tree.TheVariants.{Var, Fresh}
use Rattle.mm_base.specs.Trees.{code_of}
use Rattle.mm_model.specs.Chains.{same_code}
use Rattle.mm_model.specs.Productions.{TypedVariable}
use Rattle.mm_model.specs.Typed.{IsTyped}
use Rattle.mm_model.specs.Book.{Database}
use Rattle.sheet_text.specs.declared.sheet.Given.{Given}
use Rattle.sheet_text.specs.declared.sheet.Given.TheVariants as given
use Rattle.solve_model.specs.declared.bound.Bound.{Bound}
use Rattle.solve_model.specs.Trees.{Open, work, fresh, leaf_tree, Occurs}
use Rattle.solve_model.specs.Solutions.{Unknown, named, blank, copy, Valuation, Asked, Solves, PlacesFit, IsUnknown, IsValuation, formula_value, formula, instance, open_value, unknown_code, no_step}
use Rattle.solve_model.specs.MostGeneral.{Refinement, refine, IsInstance, IsTheValuation}
use Rattle.solve_laws.specs.Instances.{IsClosedTree, IsClosed}
use Rattle.solve_laws.proofs.Elements.{nothing, parted, first, later}
use Rattle.solve_laws.proofs.OneValuation.{leaf_from, leaf_same, refine-leaf, code-leaf, occurs_leaf}
use Rattle.solve_laws.proofs.ReplaceLaws.{replace-self, agree-replace}
use Rattle.solve_laws.proofs.ReplacedTypes.{code-Fresh, typed-Fresh}
use Rattle.again_laws.specs.Leaves.{typed, typed_leaves}
use Rattle.again_laws.specs.Shown.{shown_leaves, shown_by}
use Rattle.again_laws.proofs.LeafLaws.{replace-both}
use Rattle.again_laws.proofs.Lists.{all_of, all_from}

-- ---- variables and unknowns compared

abbrev pub same_typed : TypedVariable → TypedVariable → Bool
same_typed v w = (v.sym.0 == w.sym.0) && same_code v.code w.code

same_sym : (s t : Sym) → (s.0 == t.0) ≡ true → s ≡ t
same_sym s t e = ap (λ (n : ℕ). let x : Sym = record { 0 = n } in x) (eqb-true s.0 t.0 e)

codes_same : (c d : Typecode) → same_code c d ≡ true → c ≡ d
codes_same c d e = ap (λ (n : ℕ). let x : Sym = record { 0 = n } in let y : Typecode = record { 0 = x } in y) (eqb-true c.0.0 d.0.0 e)

pub typed_same : (v w : TypedVariable) → same_typed v w ≡ true → v ≡ w
typed_same v w e =
    let both = and_parts (v.sym.0 == w.sym.0) (same_code v.code w.code) e in
    ap (λ (z : Sym). typed z v.code) (same_sym v.sym w.sym both.0) ∙ ap (λ (z : Typecode). typed w.sym z) (codes_same v.code w.code both.1)

pub typed_self : (v : TypedVariable) → same_typed v v ≡ true
typed_self v = let a : (v.sym.0 == v.sym.0) ≡ true = eq-eqb v.sym.0 v.sym.0 refl in let b : (v.code.0.0 == v.code.0.0) ≡ true = eq-eqb v.code.0.0 v.code.0.0 refl in rw (a, b) refl

pub typed_or_not : (v w : TypedVariable) → (v ≡ w) ⊎ (v ≡ w → ⊥)
typed_or_not v w = elim (cases_Bool (same_typed v w)) [ inl d ↦ inl (typed_same v w d) | inr d ↦ inr (λ e. both_ways (same_typed v w) d (ap (same_typed v) (sym e) ∙ typed_self v)) ]

pub contains_or_not : (vs : List TypedVariable) (v : TypedVariable) → Contains vs v ⊎ (Contains vs v → ⊥)
contains_or_not [] v = inr (nothing v)
contains_or_not (w ∷ vs) v = elim (typed_or_not w v) [
  | inl e ↦ inl (first v w vs e)
  | inr d ↦ elim (contains_or_not vs v) [ inl m ↦ inl (later v w vs m) | inr n ↦ inr (λ m. elim (parted v w vs m) [ inl e ↦ d e | inr k ↦ n k ]) ]
]

abbrev pub is_copy : ℕ → TypedVariable → Unknown → Bool
is_copy i v (named c n) = false
is_copy i v (blank k) = false
is_copy i v (copy j s c) = (j == i) && same_typed (typed s c) v

pub copy_is : (i : ℕ) (v : TypedVariable) (u : Unknown) → is_copy i v u ≡ true → u ≡ copy i v.sym v.code
copy_is i v (named c n) e = absurd cc
copy_is i v (blank k) e = absurd cc
copy_is i v (copy j s c) e =
    let both = and_parts (j == i) (same_typed (typed s c) v) e in
    ap (λ (n : ℕ). copy n s c) (eqb-true j i both.0) ∙ ap (λ (w : TypedVariable). copy i w.sym w.code) (typed_same (typed s c) v both.1)

pub copy_self : (i : ℕ) (v : TypedVariable) → is_copy i v (copy i v.sym v.code) ≡ true
copy_self i v = let a : (i == i) ≡ true = eq-eqb i i refl in let b = typed_self v in rw (a, b) refl

-- ---- another tree for the copy of a variable

module _ (i : ℕ) (v : TypedVariable) (t : Tree) (g : Valuation) where
  abbrev pub changed : Valuation
  changed u = cond (is_copy i v u) t (g u)

  same_open : (x : Open) → open_value changed x ≡ open_value g x
  same_open (work c n) = refl
  same_open (fresh c n) = refl

  changed-formula_value : (k : ℕ) (o : Option Tree) → formula_value changed k o ≡ formula_value g k o
  changed-formula_value k None = refl
  changed-formula_value k (Some e) = replace-both (λ s c. Var s c) (λ s c. Var s c) (open_value changed) (open_value g) e (λ w o. refl) (λ x o. same_open x)

  abbrev IsNone : ℕ → List TypedVariable → Type 0
  IsNone j ws = (w : TypedVariable) → Contains ws w → is_copy i v (copy j w.sym w.code) ≡ false

  changed-instance : (j : ℕ) (e : Tree) → IsClosedTree e → IsNone j (typed_leaves e) → instance changed j e ≡ instance g j e
  changed-instance j e closed none =
      replace-both (λ s c. changed (copy j s c)) (λ s c. g (copy j s c)) leaf_tree leaf_tree e
      (λ w o. let off = none w o in rw off refl) (λ x o. absurd (closed x o))

  module _ (bound : Bound) where
    changed-formula : (k : ℕ) → formula bound changed k ≡ formula bound g k
    changed-formula k = changed-formula_value k (slice_index_or bound.steps k no_step).tree

    places_fit : (j : ℕ) (gs : List Given) (es : List Tree) → AllByRecursion IsClosedTree es → IsNone j (shown_leaves gs es) → PlacesFit bound g j gs es → PlacesFit bound changed j gs es
    places_fit j [] es closed none f = f
    places_fit j (x ∷ gs) [] closed none f = f
    places_fit j (given.Gap ∷ gs) (e ∷ es) closed none f = places_fit j gs es closed.1 none f
    places_fit j (given.Step k ∷ gs) (e ∷ es) closed none f = (
      changed-instance j e closed.0 (λ w o. none w (Contains-append_left (typed_leaves e) (shown_leaves gs es) w o)) ∙ f.0 ∙ sym (changed-formula k),
      places_fit j gs es closed.1 (λ w o. none w (Contains-append_right (typed_leaves e) (shown_leaves gs es) w o)) f.1,
    )

    pub changed_solves : (y : Asked) → IsClosed y → IsNone y.step (shown_by y.assertion y.places) → Solves bound g y → Solves bound changed y
    changed_solves y closed none h = record {
      conclusion =
          changed-instance y.step y.assertion.tree closed.0
          (λ w o. none w (Contains-append_left (typed_leaves y.assertion.tree) (shown_leaves y.places y.assertion.hyps) w o))
          ∙ h.conclusion ∙ sym (changed-formula y.step);
      places = places_fit y.step y.places y.assertion.hyps closed.1 (λ w o. none w (Contains-append_right (typed_leaves y.assertion.tree) (shown_leaves y.places y.assertion.hyps) w o)) h.places;
    }

-- ---- a variable that is not shown

pub record IsLoose (bound : Bound) (accepted : List Asked) (g : Valuation) (i : ℕ) (v : TypedVariable) : Type 0 where
  pub number : ℕ
  pub is : g (copy i v.sym v.code) ≡ Fresh v.code number
  pub alone : (u : Unknown) → IsUnknown bound accepted u → Occurs (fresh v.code number) (g u) → u ≡ copy i v.sym v.code

module _ (db : Database) (bound : Bound) (accepted : List Asked) (g : Valuation) (the : IsTheValuation db bound accepted g) (closed : AllByRecursion IsClosed accepted)
    (x : Asked) (v : TypedVariable) (stands : Contains accepted x) (own : Contains x.assertion.vars v)
    (once : (y : Asked) → Contains accepted y → y.step ≡ x.step → y ≡ x) (hidden : Contains (shown_by x.assertion x.places) v → ⊥) where
  abbrev On : Unknown → Type 0
  On = IsUnknown bound accepted

  abbrev this : Unknown
  this = copy x.step v.sym v.code

  this_on : On this
  this_on = IsUnknown.in_frame x v stands own

  no_other : (y : Asked) → Contains accepted y → (w : TypedVariable) → Contains (shown_by y.assertion y.places) w → is_copy x.step v (copy y.step w.sym w.code) ≡ false
  no_other y m w o = elim (cases_Bool (is_copy x.step v (copy y.step w.sym w.code))) [
    | inl d ↦
        let both = and_parts (y.step == x.step) (same_typed (typed w.sym w.code) v) d in
        let same = once y m (eqb-true y.step x.step both.0) in
        let is : w ≡ v = typed_same w v both.1 in
        absurd (hidden (subst (λ (z : Asked). Contains (shown_by z.assertion z.places) v) same (subst (Contains (shown_by y.assertion y.places)) is o)))
    | inr d ↦ d
  ]

  abbrev other : ℕ → Valuation
  other n = changed x.step v (Fresh v.code n) g

  other_code : (n : ℕ) (u : Unknown) → On u → (b : Bool) → is_copy x.step v u ≡ b → code_of (other n u) ≡ unknown_code db u
  other_code n u on true e = rw e (code-Fresh v.code n ∙ ap (unknown_code db) (sym (copy_is x.step v u e)))
  other_code n u on false e = rw e (the.most_general.is_valuation.code u on)

  other_typed : (n : ℕ) (u : Unknown) → On u → (b : Bool) → is_copy x.step v u ≡ b → IsTyped db.rows bound.place (other n u)
  other_typed n u on true e = rw e (typed-Fresh db.rows bound.place v.code n)
  other_typed n u on false e = rw e (the.most_general.is_valuation.typed u on)

  other_valuation : (n : ℕ) → IsValuation db bound.place On (other n)
  other_valuation n = record { code = λ u on. other_code n u on (is_copy x.step v u) refl; typed = λ u on. other_typed n u on (is_copy x.step v u) refl }

  other_solves : (n : ℕ) → AllByRecursion (Solves bound (other n)) accepted
  other_solves n = all_from (Solves bound (other n)) accepted (λ y m.
      changed_solves x.step v (Fresh v.code n) g bound y (all_of IsClosed accepted y closed m) (no_other y m) (all_of (Solves bound g) accepted y the.most_general.solves m))

  instance_at : (n : ℕ) → IsInstance On g (other n)
  instance_at n = the.most_general.general (other n) (other_valuation n) (other_solves n)

  abbrev r : ℕ → Refinement
  r n = (instance_at n).by

  at_this : (n : ℕ) → refine (r n) (g this) ≡ Fresh v.code n
  at_this n = let self = copy_self x.step v in let value : other n this ≡ Fresh v.code n = rw self refl in sym ((instance_at n).same this this_on) ∙ value

  leaf : (y : Open) × (g this ≡ leaf_tree y)
  leaf = leaf_from (r 0) (g this) (fresh v.code 0) (at_this 0)

  abbrev y : Open
  y = leaf.0

  r_at : (n : ℕ) → r n y ≡ Fresh v.code n
  r_at n = sym (refine-leaf (r n) y) ∙ ap (refine (r n)) (sym leaf.1) ∙ at_this n

  stays_at : (n : ℕ) (u : Unknown) → On u → is_copy x.step v u ≡ false → Occurs y (g u) → leaf_tree y ≡ Fresh v.code n
  stays_at n u on e o =
      let value : other n u ≡ g u = rw e refl in
      let same : refine (r n) (g u) ≡ refine leaf_tree (g u) = sym ((instance_at n).same u on) ∙ value ∙ sym (replace-self (g u)) in
      sym (agree-replace (λ s c. Var s c) (r n) leaf_tree (g u) same y o) ∙ r_at n

  apart : (c : Typecode) → fresh c 0 ≡ fresh c 1 → ⊥
  apart c e = let bad : zero ≡ 1 = cc in omega (arith, bad)

  alone : (u : Unknown) → On u → Occurs y (g u) → u ≡ this
  alone u on o = elim (cases_Bool (is_copy x.step v u)) [
    | inl d ↦ copy_is x.step v u d
    | inr d ↦ absurd (apart v.code (leaf_same (fresh v.code 0) (fresh v.code 1) (sym (stays_at 0 u on d o) ∙ stays_at 1 u on d o)))
  ]

  named_is_no_copy : (c : Typecode) (n : ℕ) → named c n ≡ this → ⊥
  named_is_no_copy c n e = cc

  loose_by : (z : Open) → g this ≡ leaf_tree z → ((u : Unknown) → On u → Occurs z (g u) → u ≡ this) → IsLoose bound accepted g x.step v
  loose_by (work c m) is lone =
      let least = (the.canonical this (work c m) this_on (subst (Occurs (work c m)) (sym is) (occurs_leaf (work c m)))).named_least in
      absurd (named_is_no_copy c m (lone (named c m) least.0 (subst (Occurs (work c m)) (sym least.1) (occurs_leaf (work c m)))))
  loose_by (fresh c m) is lone =
      let code : c ≡ v.code = sym (code-leaf (fresh c m)) ∙ ap code_of (sym is) ∙ the.most_general.is_valuation.code this this_on in
      record { number = m; is = is ∙ ap (λ (d : Typecode). Fresh d m) code; alone = λ u on o. lone u on (subst (λ (d : Typecode). Occurs (fresh d m) (g u)) (sym code) o) }

  pub loose : IsLoose bound accepted g x.step v
  loose = loose_by y leaf.1 alone
