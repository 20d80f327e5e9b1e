-- Two work variables that fall together: `qed::ax-1 |- ( &W3 -> ( ps -> &W1 ) )` has both as `&W1`, the least.
use Rattle.std.specs.Prelude.{◌≡◌, ◌==◌, ◌≤◌, ◌⊎◌, None, ℕ, zero, suc, [], ◌∷◌, Contains, if◌then◌else◌, Some, slice_get, codes, refl}
use Rattle.std.proofs.Common.{sym, ap, subst, ◌∙◌, arith, inl, inr}
use Rattle.mm_base.specs.declared.symbols.Typecode.{Typecode}
use Rattle.mm_base.specs.declared.tree.Tree.{Tree}
use Rattle.mm_base.specs.declared.tree.Tree.TheVariants.{Work, Fresh}
use Rattle.mm_base.specs.Trees.{code_of}
use Rattle.mm_base.proofs.TreeFacts.{same_node}
use Rattle.mm_model.specs.Names.{sym as symbol}
use Rattle.mm_model.specs.Productions.{TypedVariable}
use Rattle.mm_model.specs.Typed.{IsTyped}
use Rattle.mm_model.proofs.TypedLaws.{code-Var, code-Work, typed-Var, typed-Work}
use Rattle.solve_model.specs.declared.bound.Bound.{Bound}
use Rattle.solve_model.specs.declared.bound.BoundStep.{BoundStep}
use Rattle.solve_model.specs.Trees.{Open, work, fresh, open_leaves, Occurs}
use Rattle.solve_model.specs.Solutions.{Unknown, named, blank, copy, Valuation, Asked, IsUnknown, in_formula, is_blank, in_frame, IsValuation, Solves, unknown_code}
use Rattle.solve_model.specs.Verdicts.{asked}
use Rattle.solve_model.specs.MostGeneral.{Refinement, refine, IsInstance, IsTheValuation, IsNamedLeaf}
use Rattle.solve_model.specs.BoundExamples.{step, bound}
use Rattle.solve_model.specs.Example.{P, wff, ps, wi, ax_1}
use Rattle.solve_model.proofs.TreeLaws.{replaces, leaves}

abbrev formula : Tree
formula = wi (Work wff 3) (wi ps (Work wff 1))

abbrev qed : BoundStep
qed = step (codes "qed") [] (Some (codes "ax-1")) (Some formula)

abbrev pub sheet : Bound
sheet = bound (qed ∷ [])

abbrev pub candidate : Asked
candidate = asked 0 ax_1 []

abbrev On : Unknown → Type 0
On = IsUnknown sheet (candidate ∷ [])

-- both work variables and the frame's ph are &W1, and the frame's ps is ps
abbrev pub value : Valuation
value (named c n) = Work wff 1
value (blank i) = Fresh wff 0
value (copy i s c) = if s.0 == 6 then Work wff 1 else ps

-- ---- the four unknowns

abbrev first : Unknown
first = named wff 1

abbrev third : Unknown
third = named wff 3

abbrev left : Unknown
left = copy 0 (symbol 6) wff

abbrev right : Unknown
right = copy 0 (symbol 7) wff

abbrev IsOneOf : Unknown → Type 0
IsOneOf u = ((u ≡ first) ⊎ (u ≡ third)) ⊎ ((u ≡ left) ⊎ (u ≡ right))

leaves_of : open_leaves formula ≡ work wff 3 ∷ work wff 1 ∷ []
leaves_of = simp leaves refl

leaf_is : (c : Typecode) (n : ℕ) → Contains (work wff 3 ∷ work wff 1 ∷ []) (work c n) → (work c n ≡ work wff 1) ⊎ (work c n ≡ work wff 3)
leaf_is c n (zero, l, e) = inr (sym e)
leaf_is c n (suc zero, l, e) = inl (sym e)
leaf_is c n (suc (suc k), l, e) = absurd (omega (arith, l))

work_is : (c : Typecode) (n : ℕ) → Occurs (work c n) formula → IsOneOf (named c n)
work_is c n o = elim (leaf_is c n (rw leaves_of at o)) [ inl e ↦ let same : named c n ≡ first = cc in inl (inl same) | inr e ↦ let same : named c n ≡ third = cc in inl (inr same) ]

variable_is : (v : TypedVariable) → Contains ax_1.vars v → (copy 0 v.sym v.code ≡ left) ⊎ (copy 0 v.sym v.code ≡ right)
variable_is v (zero, l, e) = inl (ap (λ (w : TypedVariable). copy 0 w.sym w.code) (sym e))
variable_is v (suc zero, l, e) = inr (ap (λ (w : TypedVariable). copy 0 w.sym w.code) (sym e))
variable_is v (suc (suc k), l, e) = absurd (omega (arith, l))

candidate_is : (x : Asked) → Contains (candidate ∷ []) x → x ≡ candidate
candidate_is x (zero, l, e) = sym e
candidate_is x (suc k, l, e) = absurd (omega (arith, l))

frame_is : (x : Asked) (v : TypedVariable) → x ≡ candidate → Contains x.assertion.vars v → IsOneOf (copy x.step v.sym v.code)
frame_is x v e m = rw e (inr (variable_is v (subst (λ (y : Asked). Contains y.assertion.vars v) e m)))

formula_is : (i : ℕ) (s : BoundStep) (t : Tree) → slice_get (qed ∷ []) i ≡ Some s → s.tree ≡ Some t → t ≡ formula
formula_is zero s t e f = let same : qed ≡ s = cc in let trees : Some formula ≡ Some t = ap (λ (b : BoundStep). b.tree) same ∙ f in cc
formula_is (suc i) s t e f = absurd (cc)

no_blank : (i : ℕ) (s : BoundStep) → slice_get (qed ∷ []) i ≡ Some s → s.tree ≡ None → ⊥
no_blank zero s e f = let same : qed ≡ s = cc in let trees : Some formula ≡ None = ap (λ (b : BoundStep). b.tree) same ∙ f in cc
no_blank (suc i) s e f = cc

is_one_of : (u : Unknown) → On u → IsOneOf u
is_one_of (named c n) (in_formula i s t e f o) = work_is c n (subst (Occurs (work c n)) (formula_is i s t e f) o)
is_one_of (blank i) (is_blank s e f) = absurd (no_blank i s e f)
is_one_of (copy i s c) (in_frame x v m o) = frame_is x v (candidate_is x m) o

-- a fact of the four is a fact of each unknown
by_cases : (F : Unknown → Type 0) → F first → F third → F left → F right → (u : Unknown) → On u → F u
by_cases F a b c d u on = elim (is_one_of u on) [
  | inl (inl e) ↦ rw e a
  | inl (inr e) ↦ rw e b
  | inr (inl e) ↦ rw e c
  | inr (inr e) ↦ rw e d
]

first_is : On first
first_is = in_formula 0 qed formula refl refl (rw leaves_of (1, omega arith, refl))

-- ---- the valuation

is_valuation : IsValuation P 14 On value
is_valuation = record {
  code = by_cases (λ u. code_of (value u) ≡ unknown_code P u) (code-Work wff 1) (code-Work wff 1) (code-Work wff 1) (code-Var (symbol 7) wff);
  typed = by_cases (λ u. IsTyped P.rows 14 (value u)) (typed-Work P.rows 14 wff 1) (typed-Work P.rows 14 wff 1) (typed-Work P.rows 14 wff 1) (typed-Var P.rows 14 (symbol 7) wff);
}

solved : Solves sheet value candidate
solved = record { conclusion = simp replaces refl; places = tt }

-- what each solution says
pub record Says (v : Valuation) : Type 0 where
  pub third_is : v left ≡ v third
  pub right_is : v right ≡ ps
  pub first_is : v left ≡ v first

says : (v : Valuation) → Solves sheet v candidate → Says v
says v s =
    let equal : wi (v left) (wi (v right) (v left)) ≡ wi (v third) (wi ps (v first)) = simp replaces at s.conclusion in
    let outer = (same_node _ _ _ _ _ _ equal).children in
    let one : v left ≡ v third = cc in
    let other : wi (v right) (v left) ≡ wi ps (v first) = cc in
    let inner = (same_node _ _ _ _ _ _ other).children in
    record { third_is = one; right_is = cc; first_is = cc }

abbrev by_first : Valuation → Refinement
by_first v (work c n) = v first
by_first v (fresh c n) = Fresh c n

refined : (v : Valuation) → refine (by_first v) (Work wff 1) ≡ v first
refined v = simp replaces refl

refined_ps : (v : Valuation) → refine (by_first v) ps ≡ ps
refined_ps v = simp replaces refl

-- each solution is an instance
general : (v : Valuation) → Solves sheet v candidate → IsInstance On value v
general v s =
    let h = says v s in
    record {
      by = by_first v;
      same = by_cases (λ u. v u ≡ refine (by_first v) (value u)) (sym (refined v)) (sym h.third_is ∙ h.first_is ∙ sym (refined v)) (h.first_is ∙ sym (refined v)) (h.right_is ∙ sym (refined_ps v));
    }

-- ---- its one open leaf is `&W1`

least : (n : ℕ) → On (named wff n) → 1 ≤ n
least n on = elim (is_one_of (named wff n) on) [
  | inl (inl e) ↦ let same : n ≡ 1 = cc in omega (arith, same)
  | inl (inr e) ↦ let same : n ≡ 3 = cc in omega (arith, same)
  | inr (inl e) ↦ absurd (cc)
  | inr (inr e) ↦ absurd (cc)
]

named_leaf : IsNamedLeaf On value (work wff 1)
named_leaf = record { holder = first; is_unknown = first_is; holds = refl; named_least = (first_is, refl, λ n on e. least n on) }

one_leaf : (x : Open) → Contains (work wff 1 ∷ []) x → IsNamedLeaf On value x
one_leaf x (zero, l, e) = subst (IsNamedLeaf On value) e named_leaf
one_leaf x (suc k, l, e) = absurd (omega (arith, l))

in_work : (x : Open) → Occurs x (Work wff 1) → IsNamedLeaf On value x
in_work x o = one_leaf x (simp leaves at o)

in_ps : (x : Open) → Occurs x ps → IsNamedLeaf On value x
in_ps x o = let none : Contains [] x = simp leaves at o in absurd (omega (arith, none.1))

pub most_general : IsTheValuation P sheet (candidate ∷ []) value
most_general = record {
  most_general = record {
    is_valuation = is_valuation;
    solves = (solved, tt);
    general = λ v is s. general v s.0;
  };
  canonical = λ u x on. by_cases (λ w. Occurs x (value w) → IsNamedLeaf On value x) (in_work x) (in_work x) (in_work x) (in_ps x) u on;
}
