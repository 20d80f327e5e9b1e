-- The unknowns of a worksheet and of some candidates, each once.
use Rattle.std.specs.Prelude.{◌≡◌, ℕ, ◌<◌, ◌+◌, ◌⊎◌, List, [], ◌∷◌, ◌++◌, length, slice_get, Option, Some, None, Contains, refl}
use Rattle.std.proofs.Common.{zero, suc, get_or, sym, ap, subst, ◌∙◌, arith, inl, inr}
use Rattle.std.proofs.lemmas.Bool.{cases_eq}
use Rattle.std.proofs.lemmas.List.Elements.{Contains-append_left, Contains-append_right, Contains-append_cases}
use Rattle.mm_base.specs.declared.symbols.Sym.{Sym}
use Rattle.mm_base.specs.declared.symbols.Typecode.{Typecode}
use Rattle.mm_base.specs.declared.tree.Tree.{Tree}
use Rattle.mm_model.specs.Productions.{TypedVariable}
use Rattle.solve_model.specs.declared.bound.BoundStep.{BoundStep}
use Rattle.solve_model.specs.declared.bound.Bound.{Bound}
use Rattle.solve_model.specs.Trees.{Open, work, fresh, open_leaves}
use Rattle.solve_model.specs.Solutions.{Unknown, named, blank, copy, IsUnknown, in_formula, is_blank, in_frame, Asked}
use Rattle.chain_laws.proofs.LeastLeaves.{first, later, nothing}

-- ---- two unknowns are one, or differ

abbrev Decided : {X : Type 0} → X → X → Type 0
Decided x y = (x ≡ y) ⊎ (x ≡ y → ⊥)

abbrev code_with : ℕ → Typecode
code_with n = record { 0 = record { 0 = n } }

abbrev sym_with : ℕ → Sym
sym_with n = record { 0 = n }

codes : (c d : Typecode) → Decided c d
codes c d = elim (cases_eq c.0.0 d.0.0) [ inl e ↦ inl (ap code_with e) | inr n ↦ inr (λ (e : c ≡ d). n (ap (λ (x : Typecode). x.0.0) e)) ]

syms : (c d : Sym) → Decided c d
syms c d = elim (cases_eq c.0 d.0) [ inl e ↦ inl (ap sym_with e) | inr n ↦ inr (λ (e : c ≡ d). n (ap (λ (x : Sym). x.0) e)) ]

both_named : (c d : Typecode) (n m : ℕ) → Decided c d → Decided n m → Decided (named c n) (named d m)
both_named c d n m (inl e) (inl f) = inl (cc)
both_named c d n m (inl e) (inr ne) = inr (λ (h : named c n ≡ named d m). let same : n ≡ m = cc in ne same)
both_named c d n m (inr ne) f = inr (λ (h : named c n ≡ named d m). let same : c ≡ d = cc in ne same)

blanks : (n m : ℕ) → Decided n m → Decided (blank n) (blank m)
blanks n m (inl e) = inl (ap blank e)
blanks n m (inr ne) = inr (λ (h : blank n ≡ blank m). let same : n ≡ m = cc in ne same)

copies : (i j : ℕ) (s r : Sym) (c d : Typecode) → Decided i j → Decided s r → Decided c d → Decided (copy i s c) (copy j r d)
copies i j s r c d (inl e) (inl f) (inl g) = inl (cc)
copies i j s r c d (inl e) (inl f) (inr ne) = inr (λ (h : copy i s c ≡ copy j r d). let same : c ≡ d = cc in ne same)
copies i j s r c d (inl e) (inr ne) g = inr (λ (h : copy i s c ≡ copy j r d). let same : s ≡ r = cc in ne same)
copies i j s r c d (inr ne) f g = inr (λ (h : copy i s c ≡ copy j r d). let same : i ≡ j = cc in ne same)

pub decided : (u w : Unknown) → Decided u w
decided (named c n) (named d m) = both_named c d n m (codes c d) (cases_eq n m)
decided (named c n) (blank m) = inr (λ (h : named c n ≡ blank m). cc)
decided (named c n) (copy j r d) = inr (λ (h : named c n ≡ copy j r d). cc)
decided (blank n) (named d m) = inr (λ (h : blank n ≡ named d m). cc)
decided (blank n) (blank m) = blanks n m (cases_eq n m)
decided (blank n) (copy j r d) = inr (λ (h : blank n ≡ copy j r d). cc)
decided (copy i s c) (named d m) = inr (λ (h : copy i s c ≡ named d m). cc)
decided (copy i s c) (blank m) = inr (λ (h : copy i s c ≡ blank m). cc)
decided (copy i s c) (copy j r d) = copies i j s r c d (cases_eq i j) (syms s r) (codes c d)

-- ---- each once

pub parted : {X : Type 0} (x y : X) (ys : List X) → Contains (y ∷ ys) x → (y ≡ x) ⊎ Contains ys x
parted x y ys (zero, l, e) = inl e
parted x y ys (suc k, l, e) = inr (k, omega (arith, l), e)

abbrev pub AreDistinct : List Unknown → Type 0
AreDistinct [] = Unit {0}
AreDistinct (u ∷ us) = (Contains us u → ⊥) × AreDistinct us

is_in : (u : Unknown) (us : List Unknown) → Contains us u ⊎ (Contains us u → ⊥)
is_in u [] = inr (nothing u)
is_in u (w ∷ ws) = elim (decided w u) [
  | inl e ↦ inl (0, omega arith, e)
  | inr n ↦ elim (is_in u ws) [
    | inl h ↦ inl (later u w ws h)
    | inr off ↦ inr (λ (h : Contains (w ∷ ws) u). elim (parted u w ws h) [ inl e ↦ n e | inr rest ↦ off rest ])
  ]
]

-- the same elements, each once
pub record OnceEach (us : List Unknown) : Type 0 where
  pub list : List Unknown
  pub distinct : AreDistinct list
  pub all : (u : Unknown) → Contains us u → Contains list u
  pub only : (u : Unknown) → Contains list u → Contains us u

pub once_each : (us : List Unknown) → OnceEach us
once_each [] = record { list = []; distinct = tt; all = λ u h. h; only = λ u h. h }
once_each (w ∷ ws) = put (once_each ws)
  where
    put : OnceEach ws → OnceEach (w ∷ ws)
    put rest = elim (is_in w rest.list) [
      | inl there ↦ record {
        list = rest.list;
        distinct = rest.distinct;
        all = λ u h. elim (parted u w ws h) [ inl e ↦ subst (Contains rest.list) e there | inr h' ↦ rest.all u h' ];
        only = λ u h. later u w ws (rest.only u h);
      }
      | inr off ↦ record {
        list = w ∷ rest.list;
        distinct = (off, rest.distinct);
        all = λ u h. elim (parted u w ws h) [ inl e ↦ subst (Contains (w ∷ rest.list)) e (first w rest.list) | inr h' ↦ later u w rest.list (rest.all u h') ];
        only = λ u h. elim (parted u w rest.list h) [ inl e ↦ subst (Contains (w ∷ ws)) e (first w ws) | inr h' ↦ later u w ws (rest.only u h') ];
      }
    ]

-- ---- the place of an unknown in a list

abbrev place_by : {A : Type 0} {B : Type 0} → A ⊎ B → ℕ → ℕ
place_by (inl e) rest = 0
place_by (inr n) rest = suc rest

pub place_in : List Unknown → Unknown → ℕ
place_in [] u = 0
place_in (w ∷ ws) u = place_by (decided w u) (place_in ws u)

module _ (d : Unknown) where
  pub place_is : (us : List Unknown) (u : Unknown) → Contains us u → (place_in us u < length us) × (get_or us (place_in us u) d ≡ u)
  unfolding place_in
  place_is [] u h = absurd (nothing u h)
  place_is (w ∷ ws) u h = by_test (decided w u) (parted u w ws h) (λ g. place_is ws u g)
    where
      by_test : (t : Decided w u) → (w ≡ u) ⊎ Contains ws u → (Contains ws u → (place_in ws u < length ws) × (get_or ws (place_in ws u) d ≡ u))
          → (place_by t (place_in ws u) < length (w ∷ ws)) × (get_or (w ∷ ws) (place_by t (place_in ws u)) d ≡ u)
      by_test (inl e) o below = (omega arith, e)
      by_test (inr n) (inl e) below = absurd (n e)
      by_test (inr n) (inr rest) below = let told = below rest in (omega (arith, told.0), told.1)

  pub place_back : (us : List Unknown) (i : ℕ) → AreDistinct us → i < length us → place_in us (get_or us i d) ≡ i
  unfolding place_in
  place_back [] i distinct h = absurd (omega (arith, h))
  place_back (w ∷ ws) zero distinct h = here (decided w w)
    where
      here : (t : Decided w w) → place_by t (place_in ws w) ≡ 0
      here (inl e) = refl
      here (inr n) = absurd (n refl)
  place_back (w ∷ ws) (suc i) distinct h = past (decided w (get_or ws i d)) (place_back ws i distinct.1 (omega (arith, h)))
    where
      inside : i < length ws
      inside = omega (arith, h)

      past : (t : Decided w (get_or ws i d)) → place_in ws (get_or ws i d) ≡ i → place_by t (place_in ws (get_or ws i d)) ≡ suc i
      past (inl e) below = absurd (distinct.0 (i, inside, within e))
        where
          within : w ≡ get_or ws i d → get_or ws i w ≡ w
          within e = default ws i inside ∙ sym e
            where
              default : (xs : List Unknown) (k : ℕ) → k < length xs → get_or xs k w ≡ get_or xs k d
              default [] k h = absurd (omega (arith, h))
              default (x ∷ xs) zero h = refl
              default (x ∷ xs) (suc k) h = default xs k (omega (arith, h))
      past (inr n) below = ap suc below

-- ---- the unknowns of formulas

abbrev pub works_in : List Open → List Unknown
works_in [] = []
works_in (work c n ∷ xs) = named c n ∷ works_in xs
works_in (fresh c n ∷ xs) = works_in xs

all_works : (xs : List Open) (c : Typecode) (n : ℕ) → Contains xs (work c n) → Contains (works_in xs) (named c n)
all_works [] c n h = absurd (nothing _ h)
all_works (work d m ∷ xs) c n h = elim (parted (work c n) (work d m) xs h) [
  | inl e ↦ let c' : d ≡ c = cc in let n' : m ≡ n = cc in let same : named d m ≡ named c n = cc in (0, omega arith, same)
  | inr rest ↦ later (named c n) (named d m) (works_in xs) (all_works xs c n rest)
]
all_works (fresh d m ∷ xs) c n h = elim (parted (work c n) (fresh d m) xs h) [
  | inl e ↦ absurd (cc)
  | inr rest ↦ all_works xs c n rest
]

record IsWorkIn (xs : List Open) (u : Unknown) : Type 0 where
  code : Typecode
  number : ℕ
  occurs : Contains xs (work code number)
  is : named code number ≡ u

only_works : (xs : List Open) (u : Unknown) → Contains (works_in xs) u → IsWorkIn xs u
only_works [] u h = absurd (nothing u h)
only_works (work d m ∷ xs) u h = elim (parted u (named d m) (works_in xs) h) [
  | inl e ↦ record { code = d; number = m; occurs = first (work d m) xs; is = e }
  | inr rest ↦ let told = only_works xs u rest in record { code = told.code; number = told.number; occurs = later (work told.code told.number) (work d m) xs told.occurs; is = told.is }
]
only_works (fresh d m ∷ xs) u h = let told = only_works xs u h in
    record { code = told.code; number = told.number; occurs = later (work told.code told.number) (fresh d m) xs told.occurs; is = told.is }

abbrev pub of_formula : ℕ → Option Tree → List Unknown
of_formula i None = blank i ∷ []
of_formula i (Some t) = works_in (open_leaves t)

abbrev pub of_steps : ℕ → List BoundStep → List Unknown
of_steps i [] = []
of_steps i (s ∷ ss) = of_formula i s.tree ++ of_steps (i + 1) ss

all_of_steps : (k i : ℕ) (ss : List BoundStep) (s : BoundStep) (u : Unknown) → slice_get ss i ≡ Some s → Contains (of_formula (k + i) s.tree) u → Contains (of_steps k ss) u
all_of_steps k i [] s u e h = let impossible : ◌≡◌ {A = Option BoundStep} None (Some s) = e in absurd (cc)
all_of_steps k zero (t ∷ ss) s u e h =
    let same : t ≡ s = cc in
    let number : k + 0 ≡ k = omega arith in
    Contains-append_left (of_formula k t.tree) (of_steps (k + 1) ss) u
    (subst (λ (x : BoundStep). Contains (of_formula k x.tree) u) (sym same) (subst (λ (j : ℕ). Contains (of_formula j s.tree) u) number h))
all_of_steps k (suc i) (t ∷ ss) s u e h =
    let number : k + suc i ≡ k + 1 + i = omega arith in
    Contains-append_right (of_formula k t.tree) (of_steps (k + 1) ss) u (all_of_steps (k + 1) i ss s u e (subst (λ (j : ℕ). Contains (of_formula j s.tree) u) number h))

record IsInStep (k : ℕ) (ss : List BoundStep) (u : Unknown) : Type 0 where
  place : ℕ
  step : BoundStep
  at : slice_get ss place ≡ Some step
  inside : Contains (of_formula (k + place) step.tree) u

only_of_steps : (k : ℕ) (ss : List BoundStep) (u : Unknown) → Contains (of_steps k ss) u → IsInStep k ss u
only_of_steps k [] u h = absurd (nothing u h)
only_of_steps k (t ∷ ss) u h = elim (Contains-append_cases (of_formula k t.tree) (of_steps (k + 1) ss) u h) [
  | inl here ↦ let number : k ≡ k + 0 = omega arith in record { place = 0; step = t; at = refl; inside = subst (λ (j : ℕ). Contains (of_formula j t.tree) u) number here }
  | inr rest ↦
      let told = only_of_steps (k + 1) ss u rest in
      let number : k + 1 + told.place ≡ k + suc told.place = omega arith in
      record { place = suc told.place; step = told.step; at = told.at; inside = subst (λ (j : ℕ). Contains (of_formula j told.step.tree) u) number told.inside }
]

-- ---- the unknowns of candidates

abbrev of_variables : ℕ → List TypedVariable → List Unknown
of_variables i [] = []
of_variables i (v ∷ vs) = copy i v.sym v.code ∷ of_variables i vs

abbrev of_candidates : List Asked → List Unknown
of_candidates [] = []
of_candidates (x ∷ xs) = of_variables x.step x.assertion.vars ++ of_candidates xs

all_of_variables : (i : ℕ) (vs : List TypedVariable) (v : TypedVariable) → Contains vs v → Contains (of_variables i vs) (copy i v.sym v.code)
all_of_variables i [] v h = absurd (nothing v h)
all_of_variables i (w ∷ vs) v h = elim (parted v w vs h) [
  | inl e ↦ subst (λ (z : TypedVariable). Contains (of_variables i (w ∷ vs)) (copy i z.sym z.code)) e (first (copy i w.sym w.code) (of_variables i vs))
  | inr rest ↦ later (copy i v.sym v.code) (copy i w.sym w.code) (of_variables i vs) (all_of_variables i vs v rest)
]

all_of_candidates : (xs : List Asked) (x : Asked) (v : TypedVariable) → Contains xs x → Contains x.assertion.vars v → Contains (of_candidates xs) (copy x.step v.sym v.code)
all_of_candidates [] x v h g = absurd (nothing x h)
all_of_candidates (y ∷ xs) x v h g = elim (parted x y xs h) [
  | inl e ↦ Contains-append_left (of_variables y.step y.assertion.vars) (of_candidates xs) (copy x.step v.sym v.code)
      (subst (λ (z : Asked). Contains (of_variables z.step z.assertion.vars) (copy x.step v.sym v.code)) (sym e) (all_of_variables x.step x.assertion.vars v g))
  | inr rest ↦ Contains-append_right (of_variables y.step y.assertion.vars) (of_candidates xs) (copy x.step v.sym v.code) (all_of_candidates xs x v rest g)
]

record IsVariableIn (i : ℕ) (vs : List TypedVariable) (u : Unknown) : Type 0 where
  variable : TypedVariable
  occurs : Contains vs variable
  is : copy i variable.sym variable.code ≡ u

only_of_variables : (i : ℕ) (vs : List TypedVariable) (u : Unknown) → Contains (of_variables i vs) u → IsVariableIn i vs u
only_of_variables i [] u h = absurd (nothing u h)
only_of_variables i (w ∷ vs) u h = elim (parted u (copy i w.sym w.code) (of_variables i vs) h) [
  | inl e ↦ record { variable = w; occurs = first w vs; is = e }
  | inr rest ↦ let told = only_of_variables i vs u rest in record { variable = told.variable; occurs = later told.variable w vs told.occurs; is = told.is }
]

module _ (bound : Bound) (asked : List Asked) where
  abbrev On : Unknown → Type 0
  On u = IsUnknown bound asked u

  only_of_candidates : (xs : List Asked) (u : Unknown) → ((x : Asked) → Contains xs x → Contains asked x) → Contains (of_candidates xs) u → On u
  only_of_candidates [] u inside h = absurd (nothing u h)
  only_of_candidates (x ∷ xs) u inside h = elim (Contains-append_cases (of_variables x.step x.assertion.vars) (of_candidates xs) u h) [
    | inl here ↦ let told = only_of_variables x.step x.assertion.vars u here in subst On told.is (in_frame x told.variable (inside x (first x xs)) told.occurs)
    | inr rest ↦ only_of_candidates xs u (λ y g. inside y (later y x xs g)) rest
  ]

  -- all unknowns, and no others
  pub unknowns : List Unknown
  unknowns = of_steps 0 bound.steps ++ of_candidates asked

  in_step : (i : ℕ) (s : BoundStep) (o : Option Tree) (u : Unknown) → slice_get bound.steps i ≡ Some s → s.tree ≡ o → Contains (of_formula i o) u → On u
  in_step i s None u at is h = subst On (only u h) (is_blank s at is)
    where
      only : (u : Unknown) → Contains (blank i ∷ []) u → blank i ≡ u
      only u (zero, l, e) = e
      only u (suc k, l, e) = absurd (omega (arith, l))
  in_step i s (Some t) u at is h = let told = only_works (open_leaves t) u h in subst On told.is (in_formula i s t at is told.occurs)

  pub only_unknowns : (u : Unknown) → Contains unknowns u → On u
  unfolding unknowns
  only_unknowns u h = elim (Contains-append_cases (of_steps 0 bound.steps) (of_candidates asked) u h) [
    | inl here ↦
        let told = only_of_steps 0 bound.steps u here in
        let number : 0 + told.place ≡ told.place = omega arith in
        in_step told.place told.step told.step.tree u told.at refl (subst (λ (j : ℕ). Contains (of_formula j told.step.tree) u) number told.inside)
    | inr rest ↦ only_of_candidates asked u (λ x g. g) rest
  ]

  pub all_unknowns : (u : Unknown) → On u → Contains unknowns u
  unfolding unknowns
  all_unknowns u (in_formula i s t at is o) =
      let number : i ≡ 0 + i = omega arith in
      Contains-append_left (of_steps 0 bound.steps) (of_candidates asked) u
      (all_of_steps 0 i bound.steps s u at
      (subst (λ (j : ℕ). Contains (of_formula j s.tree) u) number
      (subst (λ (o' : Option Tree). Contains (of_formula i o') u) (sym is) (all_works (open_leaves t) _ _ o))))
  all_unknowns u (is_blank s {i} at is) =
      let number : i ≡ 0 + i = omega arith in
      Contains-append_left (of_steps 0 bound.steps) (of_candidates asked) u
      (all_of_steps 0 i bound.steps s u at
      (subst (λ (j : ℕ). Contains (of_formula j s.tree) u) number
      (subst (λ (o' : Option Tree). Contains (of_formula i o') u) (sym is) (first (blank i) []))))
  all_unknowns u (in_frame x v c h) = Contains-append_right (of_steps 0 bound.steps) (of_candidates asked) u (all_of_candidates asked x v c h)

-- of a worksheet without candidates: those of its steps
module _ (bound : Bound) (us : List Unknown) where
  pub all_of_worksheet : ((u : Unknown) → Contains (of_steps 0 bound.steps) u → Contains us u) → (u : Unknown) → Contains (unknowns bound []) u → Contains us u
  unfolding unknowns
  all_of_worksheet all u h = elim (Contains-append_cases (of_steps 0 bound.steps) [] u h) [ inl here ↦ all u here | inr off ↦ absurd (nothing u off) ]

  pub only_of_worksheet : ((u : Unknown) → Contains us u → Contains (of_steps 0 bound.steps) u) → (u : Unknown) → Contains us u → Contains (unknowns bound []) u
  unfolding unknowns
  only_of_worksheet only u h = Contains-append_left (of_steps 0 bound.steps) [] u (only u h)
