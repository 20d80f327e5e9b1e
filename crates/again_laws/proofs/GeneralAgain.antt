-- Each solution of the written steps is an instance of the written values, and these are canonical.
use Rattle.std.specs.Prelude.{◌≡◌, ◌⊎◌, ℕ, zero, suc, Bool, true, List, [], ◌∷◌, map, find, flat_map, Contains, slice_get, Some, refl}
use Rattle.std.specs.List.{AllByRecursion}
use Rattle.std.specs.Option.{option_map_or}
use Rattle.std.proofs.Common.{sym, ap, subst, ◌∙◌, arith, inl, inr}
use Rattle.std.proofs.lemmas.Bool.{cases_Bool, both_ways}
use Rattle.std.proofs.lemmas.List.Elements.{Contains-append_left, Contains-append_right, Contains-append_cases}
use Rattle.mm_base.specs.declared.symbols.Sym.{Sym}
use Rattle.mm_base.specs.declared.symbols.Typecode.{Typecode}
use Rattle.mm_base.specs.declared.tree.Tree.{Tree}
use Rattle.mm_base.specs.declared.tree.Tree.TheVariants.{Var, Work, Fresh}
use Rattle.mm_model.specs.Productions.{TypedVariable}
use Rattle.mm_model.specs.Book.{Database, Assertion}
use Rattle.sheet_text.specs.declared.sheet.Given.{Given}
use Rattle.sheet_text.specs.declared.sheet.Given.TheVariants as given
use Rattle.solve_model.specs.Trees.{Open, work, fresh, leaf_tree, open_leaves, same_tree, Occurs}
use Rattle.solve_model.specs.Solutions.{Unknown, named, blank, copy, Valuation, Asked, IsUnknown, IsValuation, PlacesFit, Solves, formula, instance, open_value}
use Rattle.solve_model.specs.MostGeneral.{Refinement, refine, IsInstance, IsMostGeneral, IsNamedLeaf, IsTheValuation}
use Rattle.solve_model.proofs.TreeLaws.{open_leaves-Work, open_leaves-Fresh}
use Rattle.solve_laws.proofs.Elements.{nothing, only, first, later, parted}
use Rattle.solve_laws.proofs.OneValuation.{leaf_same, refine-leaf, occurs_leaf}
use Rattle.solve_laws.proofs.ReplaceLaws.{replace-replace, replace-agree}
use Rattle.solve_laws.proofs.SameTrees.{same_tree-Decides}
use Rattle.written_model.specs.declared.options.Options.{Options}
use Rattle.written_model.specs.WrittenSteps.{Use, WrittenStep, trees, value_of}
use Rattle.written_model.specs.Found.{valued}
use Rattle.written_model.specs.Written.{Writing, bound_step}
use Rattle.again_laws.specs.Leaves.{typed_leaves}
use Rattle.again_laws.specs.Shown.{shown_leaves, shown_by}
use Rattle.again_laws.proofs.LeafLaws.{AgreeOn, told-replace, passes}
use Rattle.again_laws.proofs.Lists.{contains_mapped, contains_map, all_of, some_same}
use Rattle.again_laws.proofs.Orders.{from_flat_map}
use Rattle.again_laws.proofs.Loose.{contains_or_not}
use Rattle.again_laws.proofs.Setting.{Setting}
use Rattle.again_laws.proofs.Uses.{PlacesHold, IsUse, LooseValue, written_steps}
use Rattle.again_laws.proofs.WrittenKinds.{no_fresh_written}
use Rattle.again_laws.proofs.ValuesStay.{second_bound, second, second_value, second_formula, step_again, its, its_use, its_assertion, its_places}
use Rattle.again_laws.proofs.ValuesStay.{copy_value, no_blank, tree_of, is_valuation, all_solve}

-- ---- elements of lists of lists

into_flat_map : {X Y : Type 0} (f : Y → List X) (ys : List Y) (y : Y) (x : X) → Contains ys y → Contains (f y) x → Contains (flat_map f ys) x
into_flat_map f [] y x m o = absurd (nothing y m)
into_flat_map f (z ∷ ys) y x m o = elim (parted y z ys m) [
  | inl e ↦ Contains-append_left (f z) (flat_map f ys) x (subst (λ w. Contains (f w) x) (sym e) o)
  | inr k ↦ Contains-append_right (f z) (flat_map f ys) x (into_flat_map f ys y x k o)
]

found_or_none : {X : Type 0} (p : X → Bool) (xs : List X) (x : X) → Contains xs x → p x ≡ true → (y : X) × (find p xs ≡ Some y) × Contains xs y × (p y ≡ true)
found_or_none p [] x m h = absurd (nothing x m)
found_or_none p (y ∷ xs) x m h = elim (cases_Bool (p y)) [
  | inl d ↦ (y, rw d refl, first y y xs refl, d)
  | inr d ↦ elim (parted x y xs m) [
    | inl e ↦ absurd (both_ways (p y) d (ap p e ∙ h))
    | inr k ↦ let r = found_or_none p xs x k h in let is = r.1 in (r.0, rw d is, later r.0 y xs r.2, r.3)
  ]
]

-- a shown variable stands in the conclusion, or in the `$e` of a place that names a step
pub shown_place : (ts : List Tree) (u : Use) (gs : List Given) (hs : List Tree) (v : TypedVariable) → PlacesHold ts u gs hs → Contains (shown_leaves gs hs) v
    → (k : ℕ) × (h : Tree) × (slice_get ts k ≡ Some (valued u h)) × Contains (typed_leaves h) v
shown_place ts u [] hs v p m = absurd (nothing v m)
shown_place ts u (g ∷ gs) [] v p m = absurd p
shown_place ts u (given.Gap ∷ gs) (h ∷ hs) v p m = shown_place ts u gs hs v p m
shown_place ts u (given.Step k ∷ gs) (h ∷ hs) v p m = elim (Contains-append_cases (typed_leaves h) (shown_leaves gs hs) v m) [
  | inl o ↦ (k, h, p.0, o)
  | inr o ↦ shown_place ts u gs hs v p.1 o
]

copy_parts : (i j : ℕ) (p q : TypedVariable) → copy i p.sym p.code ≡ copy j q.sym q.code → (i ≡ j) × (p ≡ q)
copy_parts i j p q e =
    let one : i ≡ j = cc in
    let two : p.sym ≡ q.sym = cc in
    let three : p.code ≡ q.code = cc in
    (one, ap (λ (s : Sym). let z : TypedVariable = record { sym = s; code = p.code } in z) two ∙ ap (λ (c : Typecode). let z : TypedVariable = record { sym = q.sym; code = c } in z) three)

fresh_parts : (c d : Typecode) (m n : ℕ) → Fresh c m ≡ Fresh d n → (c ≡ d) × (m ≡ n)
fresh_parts c d m n e = split (leaf_same (fresh c m) (fresh d n) e)
  where
    split : fresh c m ≡ fresh d n → (c ≡ d) × (m ≡ n)
    split q = let one : c ≡ d = cc in let two : m ≡ n = cc in (one, two)

work_is_no_fresh : (c d : Typecode) (m n : ℕ) → Work c m ≡ Fresh d n → ⊥
work_is_no_fresh c d m n e = clash (leaf_same (work c m) (fresh d n) e)
  where
    clash : work c m ≡ fresh d n → ⊥
    clash q = cc

work_number : (c : Typecode) (m n : ℕ) → Work c m ≡ Work c n → m ≡ n
work_number c m n e = same (leaf_same (work c m) (work c n) e)
  where
    same : work c m ≡ work c n → m ≡ n
    same q = cc

module _ (db : Database) (options : Options) (w : Writing) (numbers : List ℕ) (ds : List WrittenStep) (S : Setting db options w numbers ds) where
  abbrev es : List WrittenStep
  es = written_steps db options w numbers ds S

  abbrev asks : List Asked
  asks = second db options w numbers ds S

  abbrev On : Unknown → Type 0
  On = IsUnknown (second_bound db options w numbers ds S) asks

  abbrev V : Valuation
  V = second_value db options w numbers ds S

  -- ---- the variables of a use: shown, or with a fresh leaf of their own

  module _ (x : Asked) (m : Contains asks x) (v : TypedVariable) (own : Contains x.assertion.vars v) where
    abbrev e : WrittenStep
    e = (its db options w numbers ds S x m).step

    abbrev u : Use
    u = (its db options w numbers ds S x m).use_

    abbrev use_ : IsUse db options w numbers ds S x.step e u
    use_ = its_use db options w numbers ds S x m

    value_is : V (copy x.step v.sym v.code) ≡ value_of u v.sym
    value_is = copy_value db options w numbers ds S x.step e u (its db options w numbers ds S x m).at (its db options w numbers ds S x m).by v.sym v.code

    -- it stands in a tree whose value is that of a written step
    pub record IsShown : Type 0 where
      pub number : ℕ
      pub tree : Tree
      pub at : slice_get (trees es) number ≡ Some (valued u tree)
      pub inside : Contains (typed_leaves tree) v

    shown_at : Contains (shown_by u.assertion e.places) v → IsShown
    shown_at o = elim (Contains-append_cases (typed_leaves u.assertion.tree) (shown_leaves e.places u.assertion.hyps) v o) [
      | inl h ↦ record {
        number = x.step;
        tree = u.assertion.tree;
        at = tree_of db options w numbers ds S x.step e (its db options w numbers ds S x m).at ∙ ap (λ t. Some t) (sym use_.conclusion);
        inside = h;
      }
      | inr h ↦ let r = shown_place (trees es) u e.places u.assertion.hyps v use_.places h in record { number = r.0; tree = r.1; at = r.2; inside = r.3 }
    ]

    pub shown_or_loose : IsShown ⊎ LooseValue db options w numbers ds S x.step u v
    shown_or_loose = elim (contains_or_not (shown_by u.assertion e.places) v) [
      | inl o ↦ inl (shown_at o)
      | inr h ↦ inr (use_.loose v (subst (λ (a : Assertion). Contains a.vars v) (its_assertion db options w numbers ds S x m) own) h)
    ]

    -- an open leaf of the value of a shown variable stands in a written formula
    shown_leaf : IsShown → (y : Open) → Occurs y (V (copy x.step v.sym v.code)) → (k : ℕ) × (t : Tree) × (slice_get (trees es) k ≡ Some t) × Occurs y t
    shown_leaf h y o = (h.number, valued u h.tree, h.at, passes (λ s c. value_of u s) leaf_tree v y h.tree h.inside (subst (Occurs y) value_is o))

    no_fresh_shown : IsShown → (c : Typecode) (n : ℕ) → Occurs (fresh c n) (V (copy x.step v.sym v.code)) → ⊥
    no_fresh_shown h c n o = let r = shown_leaf h (fresh c n) o in no_fresh_written db options w numbers ds S r.0 r.1 r.2 c n r.3

    loose_is : (h : LooseValue db options w numbers ds S x.step u v) → V (copy x.step v.sym v.code) ≡ Fresh v.code h.is.number
    loose_is h = value_is ∙ h.value

  -- two variables with one fresh leaf are one
  same_holder : (x y : Asked) (mx : Contains asks x) (my : Contains asks y) (v q : TypedVariable) (ox : Contains x.assertion.vars v) (oy : Contains y.assertion.vars q)
      → (h : LooseValue db options w numbers ds S x.step (its db options w numbers ds S x mx).use_ v)
      → V (copy y.step q.sym q.code) ≡ Fresh v.code h.is.number → copy y.step q.sym q.code ≡ copy x.step v.sym v.code
  same_holder x y mx my v q ox oy h is = elim (shown_or_loose y my q oy) [
    | inl s ↦ absurd (no_fresh_shown y my q oy s v.code h.is.number (subst (Occurs (fresh v.code h.is.number)) (sym is) (occurs_leaf (fresh v.code h.is.number))))
    | inr k ↦
        let parts = fresh_parts q.code v.code k.is.number h.is.number (sym (loose_is y my q oy k) ∙ is) in
        let inside : Occurs (fresh v.code h.is.number) (w.value (copy k.origin q.sym q.code)) =
        subst (λ t. Occurs (fresh v.code h.is.number) t)
        (sym (k.is.is ∙ ap (λ (c : Typecode). Fresh c k.is.number) parts.0 ∙ ap (λ (n : ℕ). Fresh v.code n) parts.1))
        (occurs_leaf (fresh v.code h.is.number)) in
        let held = h.is.alone (copy k.origin q.sym q.code) k.on inside in
        let both = copy_parts k.origin h.origin q v held in
        let step_same : y.step ≡ x.step = some_same y.step x.step (sym k.origin_at ∙ ap (slice_get numbers) both.0 ∙ h.origin_at) in
        ap (λ (n : ℕ). copy n q.sym q.code) step_same ∙ ap (λ (z : TypedVariable). copy x.step z.sym z.code) both.1
  ]

  -- ---- a solution is an instance

  -- the copies of variables
  abbrev copies : List (ℕ × TypedVariable)
  copies = flat_map (λ (x : Asked). map (λ v. let z : ℕ × TypedVariable = (x.step, v) in z) x.assertion.vars) asks

  copy_in : (x : Asked) (v : TypedVariable) → Contains asks x → Contains x.assertion.vars v → Contains copies (x.step, v)
  copy_in x v m o =
      into_flat_map (λ (y : Asked). map (λ z. let q : ℕ × TypedVariable = (y.step, z) in q) y.assertion.vars) asks x (x.step, v) m
      (contains_map (λ z. let q : ℕ × TypedVariable = (x.step, z) in q) x.assertion.vars v o)

  pub record IsCopy (p : ℕ × TypedVariable) : Type 0 where
    pub asked_ : Asked
    pub member : Contains asks asked_
    pub own : Contains asked_.assertion.vars p.1
    pub step_is : asked_.step ≡ p.0

  copy_from : (p : ℕ × TypedVariable) → Contains copies p → IsCopy p
  copy_from p m =
      let r = from_flat_map (λ (y : Asked). map (λ z. let q : ℕ × TypedVariable = (y.step, z) in q) y.assertion.vars) asks p m in
      let q = contains_mapped (λ z. let y : ℕ × TypedVariable = (r.0.step, z) in y) r.0.assertion.vars p r.2 in
      record { asked_ = r.0; member = r.1; own = subst (λ (z : ℕ × TypedVariable). Contains r.0.assertion.vars z.1) q.2 q.1; step_is = ap (λ (z : ℕ × TypedVariable). z.0) q.2 }

  module _ (v : Valuation) (valuation : IsValuation db w.bound.place On v) (solves : AllByRecursion (Solves (second_bound db options w numbers ds S) v) asks) where
    abbrev holds : Typecode → ℕ → ℕ × TypedVariable → Bool
    holds c n p = same_tree (V (copy p.0 p.1.sym p.1.code)) (Fresh c n)

    -- a work variable becomes its value, and a fresh leaf that of the variable that it is
    abbrev r : Refinement
    r (work c n) = v (named c n)
    r (fresh c n) = option_map_or (λ (p : ℕ × TypedVariable). v (copy p.0 p.1.sym p.1.code)) (find (holds c n) copies) (Fresh c n)

    formula_refined : (k : ℕ) (t : Tree) → slice_get (trees es) k ≡ Some t → formula (second_bound db options w numbers ds S) v k ≡ refine r t
    formula_refined k t at =
        second_formula db options w numbers ds S v k t at ∙ replace-agree (λ s c. Var s c) (λ s c. Var s c) (open_value v) r (λ s c. refl) t (same k t at)
      where
        same : (n : ℕ) (z : Tree) → slice_get (trees es) n ≡ Some z → (y : Open) → Contains (open_leaves z) y → open_value v y ≡ r y
        same n z e (work c k) o = refl
        same n z e (fresh c k) o = absurd (no_fresh_written db options w numbers ds S n z e c k o)

    instance_told : (i : ℕ) (u : Use) (k : ℕ) (h : Tree) → slice_get (trees es) k ≡ Some (valued u h) → instance v i h ≡ formula (second_bound db options w numbers ds S) v k
        → AgreeOn (λ s c. v (copy i s c)) (λ s c. refine r (value_of u s)) (typed_leaves h)
    instance_told i u k h at fit =
        told-replace (λ s c. v (copy i s c)) (λ s c. refine r (value_of u s)) leaf_tree (λ y. refine r (leaf_tree y)) h
        (fit ∙ formula_refined k (valued u h) at ∙ replace-replace (λ s c. Var s c) (λ s c. value_of u s) r leaf_tree h)

    places_told : (i : ℕ) (u : Use) (gs : List Given) (hs : List Tree) (q : TypedVariable) → PlacesHold (trees es) u gs hs → PlacesFit (second_bound db options w numbers ds S) v i gs hs
        → Contains (shown_leaves gs hs) q → v (copy i q.sym q.code) ≡ refine r (value_of u q.sym)
    places_told i u [] hs q p f m = absurd (nothing q m)
    places_told i u (g ∷ gs) [] q p f m = absurd p
    places_told i u (given.Gap ∷ gs) (h ∷ hs) q p f m = places_told i u gs hs q p f m
    places_told i u (given.Step k ∷ gs) (h ∷ hs) q p f m = elim (Contains-append_cases (typed_leaves h) (shown_leaves gs hs) q m) [
      | inl o ↦ instance_told i u k h p.0 f.0 q o
      | inr o ↦ places_told i u gs hs q p.1 f.1 o
    ]

    module _ (x : Asked) (m : Contains asks x) (q : TypedVariable) (own : Contains x.assertion.vars q) where
      abbrev step_ : WrittenStep
      step_ = (its db options w numbers ds S x m).step

      abbrev use_of_x : Use
      use_of_x = (its db options w numbers ds S x m).use_

      abbrev its_facts : IsUse db options w numbers ds S x.step step_ use_of_x
      its_facts = its_use db options w numbers ds S x m

      solved : Solves (second_bound db options w numbers ds S) v x
      solved = all_of (Solves (second_bound db options w numbers ds S) v) asks x solves m

      conclusion_fits : instance v x.step use_of_x.assertion.tree ≡ formula (second_bound db options w numbers ds S) v x.step
      conclusion_fits = subst (λ (a : Assertion). instance v x.step a.tree ≡ formula (second_bound db options w numbers ds S) v x.step) (its_assertion db options w numbers ds S x m) solved.conclusion

      places_fit : PlacesFit (second_bound db options w numbers ds S) v x.step step_.places use_of_x.assertion.hyps
      places_fit =
          subst (λ (a : Assertion). PlacesFit (second_bound db options w numbers ds S) v x.step step_.places a.hyps) (its_assertion db options w numbers ds S x m)
          (subst (λ gs. PlacesFit (second_bound db options w numbers ds S) v x.step gs x.assertion.hyps) (its_places db options w numbers ds S x m) solved.places)

      value_same : V (copy x.step q.sym q.code) ≡ value_of use_of_x q.sym
      value_same = value_is x m q own

      shown_told : Contains (shown_by use_of_x.assertion step_.places) q → v (copy x.step q.sym q.code) ≡ refine r (V (copy x.step q.sym q.code))
      shown_told o = elim (Contains-append_cases (typed_leaves use_of_x.assertion.tree) (shown_leaves step_.places use_of_x.assertion.hyps) q o) [
        | inl h ↦
            instance_told x.step use_of_x x.step use_of_x.assertion.tree
            (tree_of db options w numbers ds S x.step step_ (its db options w numbers ds S x m).at ∙ ap (λ t. Some t) (sym its_facts.conclusion)) conclusion_fits q h ∙ ap (refine r) (sym value_same)
        | inr h ↦ places_told x.step use_of_x step_.places use_of_x.assertion.hyps q its_facts.places places_fit h ∙ ap (refine r) (sym value_same)
      ]

      loose_told : LooseValue db options w numbers ds S x.step use_of_x q → v (copy x.step q.sym q.code) ≡ refine r (V (copy x.step q.sym q.code))
      loose_told h =
          let is = loose_is x m q own h in
          let passes_ : holds q.code h.is.number (x.step, q) ≡ true = (same_tree-Decides (V (copy x.step q.sym q.code)) (Fresh q.code h.is.number)).1 is in
          let found = found_or_none (holds q.code h.is.number) copies (x.step, q) (copy_in x q m own) passes_ in
          let other = copy_from found.0 found.2 in
          let value : V (copy found.0.0 found.0.1.sym found.0.1.code) ≡ Fresh q.code h.is.number =
          (same_tree-Decides (V (copy found.0.0 found.0.1.sym found.0.1.code)) (Fresh q.code h.is.number)).0 found.3 in
          let value' : V (copy other.asked_.step found.0.1.sym found.0.1.code) ≡ Fresh q.code h.is.number = ap (λ (n : ℕ). V (copy n found.0.1.sym found.0.1.code)) other.step_is ∙ value in
          let same = same_holder x other.asked_ m other.member q found.0.1 own other.own h value' in
          let found_is : r (fresh q.code h.is.number) ≡ v (copy found.0.0 found.0.1.sym found.0.1.code) =
          ap (λ o. option_map_or (λ (p : ℕ × TypedVariable). v (copy p.0 p.1.sym p.1.code)) o (Fresh q.code h.is.number)) found.1 in
          sym (
          ap (refine r) is ∙ refine-leaf r (fresh q.code h.is.number) ∙ found_is
          ∙ ap (λ (n : ℕ). v (copy n found.0.1.sym found.0.1.code)) (sym other.step_is) ∙ ap v same
          )

      copy_told : v (copy x.step q.sym q.code) ≡ refine r (V (copy x.step q.sym q.code))
      copy_told = elim (contains_or_not (shown_by use_of_x.assertion step_.places) q) [
        | inl o ↦ shown_told o
        | inr h ↦ loose_told (its_facts.loose q (subst (λ (a : Assertion). Contains a.vars q) (its_assertion db options w numbers ds S x m) own) h)
      ]

    same : (z : Unknown) → On z → v z ≡ refine r (V z)
    same (named c n) on = sym (refine-leaf r (work c n))
    same (blank k) (IsUnknown.is_blank b at is) = absurd (no_blank db options w numbers ds S k b at is)
    same (copy i s c) (IsUnknown.in_frame x q m o) = copy_told x m q o

    pub is_instance : IsInstance On V v
    is_instance = record { by = r; same = same }

  pub most_general : IsMostGeneral db (second_bound db options w numbers ds S) asks V
  most_general = record { is_valuation = is_valuation db options w numbers ds S; solves = all_solve db options w numbers ds S; general = is_instance }

  -- ---- the values are canonical

  work_named : (c : Typecode) (n k : ℕ) (t : Tree) → slice_get (trees es) k ≡ Some t → Occurs (work c n) t → On (named c n)
  work_named c n k t at o = unmapped (split es k t at)
    where
      split : (xs : List WrittenStep) (j : ℕ) (z : Tree) → slice_get (trees xs) j ≡ Some z → (e : WrittenStep) × (slice_get xs j ≡ Some e) × (e.tree ≡ z)
      split [] j z q = absurd cc
      split (x ∷ xs) zero z q = (x, refl, some_same x.tree z q)
      split (x ∷ xs) (suc j) z q = split xs j z q

      unmapped : ((e : WrittenStep) × (slice_get es k ≡ Some e) × (e.tree ≡ t)) → On (named c n)
      unmapped (e, there, is) = IsUnknown.in_formula k (bound_step db options w e) t (step_again db options w numbers ds S k e there) (ap (λ z. Some z) is) o

  named_leaf : (c : Typecode) (n : ℕ) → On (named c n) → IsNamedLeaf On V (work c n)
  named_leaf c n on = record { holder = named c n; is_unknown = on; holds = refl; named_least = (on, refl, λ k o q. let same_ = work_number c k n q in omega (arith, same_)) }

  -- a leaf of the value of a shown variable
  leaf_shown : (x : Asked) (m : Contains asks x) (q : TypedVariable) (own : Contains x.assertion.vars q) → IsShown x m q own → (y : Open)
      → Occurs y (V (copy x.step q.sym q.code)) → IsNamedLeaf On V y
  leaf_shown x m q own h (work c n) o = let r = shown_leaf x m q own h (work c n) o in named_leaf c n (work_named c n r.0 r.1 r.2 r.3)
  leaf_shown x m q own h (fresh c n) o = absurd (no_fresh_shown x m q own h c n o)

  leaf_loose : (x : Asked) (m : Contains asks x) (q : TypedVariable) (own : Contains x.assertion.vars q) → (h : LooseValue db options w numbers ds S x.step (its db options w numbers ds S x m).use_ q)
      → (y : Open) → Occurs y (V (copy x.step q.sym q.code)) → IsNamedLeaf On V y
  leaf_loose x m q own h y o =
      let is = loose_is x m q own h in
      let alone : fresh q.code h.is.number ≡ y = only y (fresh q.code h.is.number) (subst (λ ys. Contains ys y) (open_leaves-Fresh q.code h.is.number) (subst (Occurs y) is o)) in
      subst (IsNamedLeaf On V) alone
      (record {
        holder = copy x.step q.sym q.code;
        is_unknown = IsUnknown.in_frame x q m own;
        holds = is;
        named_least = λ k on z. work_is_no_fresh q.code q.code k h.is.number z;
      })

  canonical : (z : Unknown) (y : Open) → On z → Occurs y (V z) → IsNamedLeaf On V y
  canonical (named c n) y on o = subst (IsNamedLeaf On V) (only y (work c n) (subst (λ ys. Contains ys y) (open_leaves-Work c n) o)) (named_leaf c n on)
  canonical (blank k) y (IsUnknown.is_blank b at is) o = absurd (no_blank db options w numbers ds S k b at is)
  canonical (copy i s c) y (IsUnknown.in_frame x q m own) o = elim (shown_or_loose x m q own) [ inl h ↦ leaf_shown x m q own h y o | inr h ↦ leaf_loose x m q own h y o ]

  pub the_valuation : IsTheValuation db (second_bound db options w numbers ds S) asks V
  the_valuation = record { most_general = most_general; canonical = canonical }
