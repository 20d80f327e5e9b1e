-- A step that was set aside is set aside again: what solves it among the written steps solves it among those that were read.
use Rattle.std.specs.Prelude.{◌≡◌, ◌⊎◌, ◌≤◌, ◌<◌, ◌==◌, ◌&&◌, ℕ, zero, suc, Bool, true, false, List, [], ◌∷◌, ◌++◌, length, map, take, Contains}
use Rattle.std.specs.Prelude.{slice_get, slice_index_or, Option, Some, None, refl}
use Rattle.std.specs.List.{AllByRecursion}
use Rattle.std.proofs.Common.{sym, ap, subst, ◌∙◌, arith, inl, inr, cond}
use Rattle.std.proofs.lemmas.Bool.{cases_Bool, ltb-true, eq-eqb, eqb-true}
use Rattle.std.proofs.lemmas.List.Elements.{Contains-append_right, Contains-append_cases}
use Rattle.mm_base.specs.declared.symbols.Sym.{Sym}
use Rattle.mm_base.specs.declared.symbols.Typecode.{Typecode}
use Rattle.mm_base.specs.declared.tree.Tree.{Tree}
use Rattle.mm_base.specs.declared.tree.Tree.TheVariants.{Var, Work}
use Rattle.mm_base.specs.Trees.{code_of}
use Rattle.mm_model.specs.Chains.{same_code}
use Rattle.mm_model.specs.Productions.{TypedVariable}
use Rattle.mm_model.specs.Typed.{IsTyped, HasNoFresh}
use Rattle.mm_model.specs.Book.{Database, Assertion}
use Rattle.mm_model.proofs.TypedLaws.{code-Var, typed-Var}
use Rattle.sheet_text.specs.declared.sheet.Given.{Given}
use Rattle.sheet_text.specs.declared.sheet.Given.TheVariants as given
use Rattle.sheet_text.specs.Layout.{steps}
use Rattle.sheet_text.specs.Spellable.{is_place_below}
use Rattle.solve_model.specs.declared.bound.Bound.{Bound}
use Rattle.solve_model.specs.declared.bound.BoundStep.{BoundStep}
use Rattle.solve_model.specs.Trees.{Open, work, fresh, leaf_tree, open_code, open_leaves, replace, Occurs}
use Rattle.solve_model.specs.Bound.{HasTree}
use Rattle.solve_model.specs.Solutions.{Unknown, named, blank, copy, Valuation, Asked, IsUnknown, PlacesFit, Solves, formula, formula_value, instance, open_value, unknown_code, no_step}
use Rattle.solve_model.specs.Verdicts.{Judgement, accepted, asked, asked_of, accepted_in, FitsIn}
use Rattle.solve_model.specs.MostGeneral.{Refinement, refine}
use Rattle.solve_model.proofs.TreeLaws.{replace-Var, replace-Work, replace-Fresh}
use Rattle.solve_laws.specs.Instances.{IsClosedTree}
use Rattle.solve_laws.specs.ReplacedTypes.{IsTypedAs}
use Rattle.solve_laws.proofs.Elements.{nothing, only, here, first, later, parted}
use Rattle.solve_laws.proofs.NoFresh.{no_fresh_leaf}
use Rattle.solve_laws.proofs.OneValuation.{occurs-refine, occurs_leaf}
use Rattle.solve_laws.proofs.ReplaceLaws.{replace-replace, replace-agree}
use Rattle.solve_laws.proofs.ReplacedTypes.{code-Fresh, typed-Fresh}
use Rattle.solve_laws.proofs.SolveLaws.{refine-instance}
use Rattle.written_model.specs.declared.options.Options.{Options}
use Rattle.written_model.specs.WrittenSteps.{WrittenStep, trees}
use Rattle.written_model.specs.Filled.{written_place}
use Rattle.written_model.specs.Named.{Naming, name_leaf, name_fresh, name_tree, IsWrittenLeaf}
use Rattle.written_model.specs.Written.{Writing, bound_step}
use Rattle.again_laws.proofs.Lists.{get_below, contains_get, from_filter_map, all_from, all_of, get_map, get_mapped, get_within, index_from_get, some_same}
use Rattle.again_laws.proofs.Accepted.{IsAccepted, asked_is, accepted_at, whole_member, tree_at, trees_named}
use Rattle.again_laws.proofs.AcceptedUses.{own_tree, get_taken, order_elements}
use Rattle.again_laws.proofs.Orders.{all_passes}
use Rattle.again_laws.proofs.Setting.{Setting}
use Rattle.again_laws.proofs.TypedOn.{replaced_on}
use Rattle.again_laws.proofs.Uses.{written_steps, accepted_all}
use Rattle.again_laws.proofs.ValuesStay.{second_bound, second_formula, step_again}

-- ---- open leaves, decided

abbrev same_open : Open → Open → Bool
same_open (work c n) (work d m) = same_code c d && n == m
same_open (fresh c n) (fresh d m) = same_code c d && n == m
same_open _ _ = false

codes_same : (c d : Typecode) → same_code c d ≡ true → c ≡ d
codes_same c d e = ap (λ (n : ℕ). let x : Sym = record { 0 = n } in let y : Typecode = record { 0 = x } in y) (eqb-true c.0.0 d.0.0 e)

both_true : (a b : Bool) → (a && b) ≡ true → (a ≡ true) × (b ≡ true)
both_true true true e = (refl, refl)
both_true true false e = absurd cc
both_true false b e = absurd cc

open_same : (x y : Open) → same_open x y ≡ true → x ≡ y
open_same (work c n) (work d m) e = let both = both_true (same_code c d) (n == m) e in let one = codes_same c d both.0 in let two = eqb-true n m both.1 in cc
open_same (work c n) (fresh d m) e = absurd cc
open_same (fresh c n) (work d m) e = absurd cc
open_same (fresh c n) (fresh d m) e = let both = both_true (same_code c d) (n == m) e in let one = codes_same c d both.0 in let two = eqb-true n m both.1 in cc

open_self : (x : Open) → same_open x x ≡ true
open_self (work c n) = let a : (c.0.0 == c.0.0) ≡ true = eq-eqb c.0.0 c.0.0 refl in let b : (n == n) ≡ true = eq-eqb n n refl in rw (a, b) refl
open_self (fresh c n) = let a : (c.0.0 == c.0.0) ≡ true = eq-eqb c.0.0 c.0.0 refl in let b : (n == n) ≡ true = eq-eqb n n refl in rw (a, b) refl

open_or_not : (xs : List Open) (y : Open) → Contains xs y ⊎ (Contains xs y → ⊥)
open_or_not [] y = inr (nothing y)
open_or_not (x ∷ xs) y = elim (cases_Bool (same_open x y)) [
  | inl d ↦ inl (first y x xs (open_same x y d))
  | inr d ↦ elim (open_or_not xs y) [
    | inl m ↦ inl (later y x xs m)
    | inr h ↦ inr (λ m. elim (parted y x xs m) [ inl e ↦ let bad : true ≡ false = sym (open_self x) ∙ ap (same_open x) e ∙ d in clash bad | inr k ↦ h k ])
  ]
]
  where
    clash : true ≡ false → ⊥
    clash q = cc

pub written_or_not : (ts : List Tree) (c : Typecode) (n : ℕ) → IsWrittenLeaf ts c n ⊎ (IsWrittenLeaf ts c n → ⊥)
written_or_not [] c n = inr (λ h. nothing h.0 h.1)
written_or_not (t ∷ ts) c n = elim (open_or_not (open_leaves t) (fresh c n)) [
  | inl o ↦ inl (t, first t t ts refl, o)
  | inr none ↦ elim (written_or_not ts c n) [
    | inl h ↦ inl (h.0, later h.0 t ts h.1, h.2)
    | inr rest ↦ inr (λ h. elim (parted h.0 t ts h.1) [ inl e ↦ none (subst (Occurs (fresh c n)) (sym e) h.2) | inr k ↦ rest (h.0, k, h.2) ])
  ]
]

module _ (db : Database) (options : Options) (w : Writing) (numbers : List ℕ) (ds : List WrittenStep) (S : Setting db options w numbers ds) where
  abbrev es : List WrittenStep
  es = written_steps db options w numbers ds S

  abbrev g : Valuation
  g = w.value

  abbrev names : Naming
  names = w.names

  abbrev place : ℕ
  place = w.bound.place

  abbrev bound : Bound
  bound = w.bound

  abbrev other : Bound
  other = second_bound db options w numbers ds S

  number_of : (j : ℕ) (b : BoundStep) → slice_get bound.steps j ≡ Some b → (n : ℕ) × (slice_get numbers j ≡ Some n)
  number_of j b at =
      let within = get_within bound.steps j b at in
      let count = S.count in
      let long = S.long in
      get_below numbers j (omega (arith, within, count, long))

  no_fresh_read : (j : ℕ) (b : BoundStep) (t : Tree) → slice_get bound.steps j ≡ Some b → b.tree ≡ Some t → HasNoFresh t
  no_fresh_read j b t at is =
      let within = get_within bound.steps j b at in
      let long = S.long in
      let s = get_below (steps w.read) j (omega (arith, within, long)) in
      let c = S.bound_steps j s.0 s.1 in
      let same : c.0 ≡ b = some_same c.0 b (sym c.1 ∙ at) in
      by s.0.formula (subst (λ (z : BoundStep). HasTree db place s.0.formula z.tree) same c.2.tree)
    where
      by_tree : (tokens : List (List ℕ)) (o : Option Tree) → o ≡ Some t → HasTree db place tokens o → HasNoFresh t
      by_tree tokens None e h = absurd cc
      by_tree tokens (Some u) e h = subst HasNoFresh (some_same u t e) h.parses.named

      by : (tokens : List (List ℕ)) → HasTree db place tokens b.tree → HasNoFresh t
      by tokens h = by_tree tokens b.tree is h

  -- a step k, written as step i; a valuation of some written steps and that one
  module _ (k i : ℕ) (number_at : slice_get numbers k ≡ Some i) (a : Assertion) (gs : List Given) (below : (y : Given) → Contains gs y → is_place_below k y ≡ true) (earlier : List Asked)
      (again : FitsIn db other earlier i a (map (written_place (take k numbers)) gs)) where
    abbrev v : Valuation
    v = again.value

    abbrev asked_now : List Asked
    asked_now = earlier ++ asked i a (map (written_place (take k numbers)) gs) ∷ []

    -- what a leaf of the first valuation becomes
    abbrev r : Refinement
    r x = replace (λ s c. Var s c) (open_value v) (name_leaf names x)

    abbrev lifted : Valuation
    lifted (named c n) = refine r (g (named c n))
    lifted (blank j) = refine r (g (blank j))
    lifted (copy j s c) = cond (j == k) (v (copy i s c)) (refine r (g (copy j s c)))

    -- ---- formulas and instances

    lifted_open : (x : Open) (t : Tree) → HasNoFresh t → Contains (open_leaves t) x → open_value lifted x ≡ refine r (open_value g x)
    lifted_open (work c n) t h o = refl
    lifted_open (fresh c n) t h o = absurd (no_fresh_leaf c n t h o)

    lifted-value : (j : ℕ) (b : BoundStep) → slice_get bound.steps j ≡ Some b → (o : Option Tree) → b.tree ≡ o → formula_value lifted j o ≡ refine r (formula_value g j o)
    lifted-value j b at None is = refl
    lifted-value j b at (Some t) is =
        replace-agree (λ s c. Var s c) (λ s c. refine r (Var s c)) (open_value lifted) (λ x. refine r (open_value g x))
        (λ s c. sym (replace-Var _ r s c)) t (λ x o. lifted_open x t (no_fresh_read j b t at is) o)
        ∙ sym (replace-replace (λ s c. Var s c) (λ s c. Var s c) r (open_value g) t)

    lifted-formula : (j : ℕ) (b : BoundStep) → slice_get bound.steps j ≡ Some b → formula bound lifted j ≡ refine r (formula bound g j)
    lifted-formula j b at =
        let tree = tree_at db options w numbers ds S j b at in
        ap (formula_value lifted j) tree ∙ lifted-value j b at b.tree refl ∙ ap (λ o. refine r (formula_value g j o)) (sym tree)

    second-formula : (j n : ℕ) → slice_get numbers j ≡ Some n → formula other v n ≡ refine r (formula bound g j)
    second-formula j n at =
        second_formula db options w numbers ds S v n (name_tree names (formula bound g j)) (own_tree db options w numbers ds S j n at)
        ∙ replace-replace (λ s c. Var s c) (λ s c. Var s c) (open_value v) (name_leaf names) (formula bound g j)
        ∙ replace-agree (λ s c. replace (λ z d. Var z d) (open_value v) (Var s c)) (λ s c. Var s c) r r (λ s c. replace-Var _ (open_value v) s c) (formula bound g j) (λ x o. refl)

    -- the two are one formula
    formulas_meet : (j n : ℕ) (b : BoundStep) → slice_get numbers j ≡ Some n → slice_get bound.steps j ≡ Some b → formula other v n ≡ formula bound lifted j
    formulas_meet j n b at there = second-formula j n at ∙ sym (lifted-formula j b there)

    self_test : (k == k) ≡ true
    self_test = eq-eqb k k refl

    instance_now : (t : Tree) → instance lifted k t ≡ instance v i t
    instance_now t = replace-agree (λ s c. lifted (copy k s c)) (λ s c. v (copy i s c)) leaf_tree leaf_tree (λ s c. let e = self_test in rw e refl) t (λ x o. refl)

    instance_before : (j : ℕ) → (j == k) ≡ false → (t : Tree) → IsClosedTree t → instance lifted j t ≡ refine r (instance g j t)
    instance_before j off t closed =
        replace-agree (λ s c. lifted (copy j s c)) (λ s c. refine r (g (copy j s c))) leaf_tree leaf_tree (λ s c. rw off refl) t (λ x o. refl)
        ∙ sym (refine-instance g r j t closed)

    -- ---- a step accepted before

    places_before : (j : ℕ) → (j == k) ≡ false → (ys : List Given) (hs : List Tree) → ((y : Given) → Contains ys y → is_place_below j y ≡ true)
        → j ≤ length bound.steps → AllByRecursion IsClosedTree hs
        → PlacesFit bound g j ys hs → PlacesFit bound lifted j ys hs
    places_before j off [] hs low le closed f = f
    places_before j off (y ∷ ys) [] low le closed f = f
    places_before j off (given.Gap ∷ ys) (h ∷ hs) low le closed f = places_before j off ys hs (λ y m. low y (later y given.Gap ys m)) le closed.1 f
    places_before j off (given.Step n ∷ ys) (h ∷ hs) low le closed f =
        let less : n < j = ltb-true n j (low (given.Step n) (first (given.Step n) (given.Step n) ys refl)) in
        let b = get_below bound.steps n (omega (arith, less, le)) in
        (instance_before j off h closed.0 ∙ ap (refine r) f.0 ∙ sym (lifted-formula n b.0 b.1), places_before j off ys hs (λ y m. low y (later y (given.Step n) ys m)) le closed.1 f.1)

    -- ---- leaves are typed

    abbrev OnRead : Unknown → Type 0
    OnRead = IsUnknown bound (accepted_all db options w numbers ds S)

    abbrev OnNow : Unknown → Type 0
    OnNow = IsUnknown other asked_now

    -- a work variable of a written formula
    named_now : (c : Typecode) (m n : ℕ) (t : Tree) → slice_get (trees es) n ≡ Some t → Occurs (work c m) t → OnNow (named c m)
    named_now c m n t at o = by (get_mapped (λ (x : WrittenStep). x.tree) es n t at)
      where
        by : ((e : WrittenStep) × (slice_get es n ≡ Some e) × (e.tree ≡ t)) → OnNow (named c m)
        by (e, there, is) = IsUnknown.in_formula n (bound_step db options w e) t (step_again db options w numbers ds S n e there) (ap (λ z. Some z) is) o

    written_work : (t : Tree) (c : Typecode) (m : ℕ) → Occurs (work c m) t → Occurs (work c m) (name_tree names t)
    written_work t c m o = occurs-refine (name_leaf names) (work c m) (work c m) t o (occurs_leaf (work c m))

    work_on : (c : Typecode) (m : ℕ) → OnRead (named c m) → g (named c m) ≡ Work c m → OnNow (named c m)
    work_on c m (IsUnknown.in_formula j s t at is o) e =
        let n = number_of j s at in
        let inside : Occurs (work c m) (formula_value g j (Some t)) = occurs-refine (open_value g) (work c m) (work c m) t o (subst (Occurs (work c m)) (sym e) (occurs_leaf (work c m))) in
        let tree : (slice_index_or bound.steps j no_step).tree ≡ Some t = tree_at db options w numbers ds S j s at ∙ is in
        let whole : Occurs (work c m) (formula bound g j) = subst (λ q. Occurs (work c m) (formula_value g j q)) (sym tree) inside in
        named_now c m n.0 (name_tree names (formula bound g j)) (own_tree db options w numbers ds S j n.0 n.1) (written_work (formula bound g j) c m whole)

    fresh_on : (c : Typecode) (m n : ℕ) → names c m ≡ Some n → OnNow (named c n)
    fresh_on c m n is = elim (written_or_not (trees ds) c m) [
      | inl h ↦ by h.0 h.1 h.2
      | inr none ↦ absurd (clash (sym is ∙ S.naming.others c m none))
    ]
      where
        clash : Some n ≡ None → ⊥
        clash q = cc

        by : (t : Tree) → Contains (trees ds) t → Occurs (fresh c m) t → OnNow (named c n)
        by t stands_ o =
            let k_ = contains_get (trees ds) t stands_ in
            let d = get_mapped (λ (x : WrittenStep). x.tree) ds k_.0 t k_.1 in
            let value : name_leaf names (fresh c m) ≡ Work c n = ap (name_fresh c m) is in
            let inside : Occurs (work c n) (name_tree names t) = occurs-refine (name_leaf names) (fresh c m) (work c n) t o (subst (Occurs (work c n)) (sym value) (occurs_leaf (work c n))) in
            named_now c n k_.0 (name_tree names t) (ap (λ ts. slice_get ts k_.0) (trees_named db options w numbers ds S) ∙ get_map (name_tree names) (trees ds) k_.0 t k_.1) inside

    work_typed : (c : Typecode) (m : ℕ) → OnNow (named c m) → IsTypedAs db.rows place c (replace (λ s d. Var s d) (open_value v) (Work c m))
    work_typed c m on =
        let same = replace-Work (λ s d. Var s d) (open_value v) c m in
        record { code = ap code_of same ∙ again.is_valuation.code (named c m) on; typed = subst (IsTyped db.rows place) (sym same) (again.is_valuation.typed (named c m) on) }

    fresh_typed : (c : Typecode) (m : ℕ) (o : Option ℕ) → names c m ≡ o → IsTypedAs db.rows place c (replace (λ s d. Var s d) (open_value v) (name_fresh c m o))
    fresh_typed c m None is =
        let same = replace-Fresh (λ s d. Var s d) (open_value v) c m in
        record { code = ap code_of same ∙ code-Fresh c m; typed = subst (IsTyped db.rows place) (sym same) (typed-Fresh db.rows place c m) }
    fresh_typed c m (Some n) is = work_typed c n (fresh_on c m n is)

    leaf_typed : (z : Unknown) → OnRead z → (y : Open) → Occurs y (g z) → IsTypedAs db.rows place (open_code y) (r y)
    leaf_typed z on (work c m) o = let least = (S.the.canonical z (work c m) on o).named_least in work_typed c m (work_on c m least.0 least.1)
    leaf_typed z on (fresh c m) o = fresh_typed c m (names c m) refl

    lifted_typed : (z : Unknown) → OnRead z → IsTypedAs db.rows place (unknown_code db z) (refine r (g z))
    lifted_typed z on =
        let t =
        replaced_on db.rows place (λ s c. Var s c) r (g z)
        (λ q o. record { code = code-Var q.sym q.code; typed = typed-Var db.rows place q.sym q.code }) (leaf_typed z on)
        (S.the.most_general.is_valuation.typed z on) in
        record { code = t.code ∙ S.the.most_general.is_valuation.code z on; typed = t.typed }

    -- ---- those accepted before, and the step

    abbrev before : List Asked
    before = accepted_in (take k w.judgements)

    taken_get : (n : ℕ) (os : List Judgement) (j : ℕ) (o : Judgement) → slice_get (take n os) j ≡ Some o → (j < n) × (slice_get os j ≡ Some o)
    taken_get zero os j o e = absurd (none j e)
      where
        none : (m : ℕ) → slice_get [] m ≡ Some o → ⊥
        none m q = cc
    taken_get (suc n) [] j o e = absurd (none j e)
      where
        none : (m : ℕ) → slice_get [] m ≡ Some o → ⊥
        none m q = cc
    taken_get (suc n) (x ∷ os) zero o e = (omega arith, e)
    taken_get (suc n) (x ∷ os) (suc j) o e = let h = taken_get n os j o e in let less = h.0 in (omega (arith, less), h.1)

    pub record IsBefore (y : Asked) : Type 0 where
      pub low : y.step < k
      pub at : slice_get w.judgements y.step ≡ Some (accepted y)

    is_before : (y : Asked) → Contains before y → IsBefore y
    is_before y m =
        let o = from_filter_map asked_of (take k w.judgements) y m in
        let j = contains_get (take k w.judgements) o.0 o.1 in
        let t = taken_get k w.judgements j.0 o.0 j.1 in
        let at : slice_get w.judgements j.0 ≡ Some (accepted y) = t.1 ∙ ap (λ q. Some q) (asked_is o.0 y o.2) in
        let step_is = (accepted_at db options w numbers ds S j.0 y at).step_is in
        let less = t.0 in
        record { low = omega (arith, less, step_is); at = ap (slice_get w.judgements) step_is ∙ at }

    before_accepted : (y : Asked) → IsBefore y → IsAccepted db options w numbers ds S y.step y
    before_accepted y h = accepted_at db options w numbers ds S y.step y h.at

    other_step : (j : ℕ) → j < k → (j == k) ≡ false
    other_step j less = elim (cases_Bool (j == k)) [ inl d ↦ let same = eqb-true j k d in absurd (omega (arith, less, same)) | inr d ↦ d ]

    before_typed : (y : Asked) (q : TypedVariable) → Contains before y → Contains y.assertion.vars q → IsTypedAs db.rows place q.code (lifted (copy y.step q.sym q.code))
    before_typed y q m o =
        let h = is_before y m in
        let off = other_step y.step h.low in
        let t = lifted_typed (copy y.step q.sym q.code) (IsUnknown.in_frame y q (before_accepted y h).member o) in
        let same : lifted (copy y.step q.sym q.code) ≡ refine r (g (copy y.step q.sym q.code)) = rw off refl in
        record { code = ap code_of same ∙ t.code; typed = subst (IsTyped db.rows place) (sym same) t.typed }

    abbrev now : Asked
    now = asked i a (map (written_place (take k numbers)) gs)

    now_in : Contains asked_now now
    now_in = Contains-append_right earlier (now ∷ []) now (here now)

    now_typed : (q : TypedVariable) → Contains a.vars q → IsTypedAs db.rows place q.code (lifted (copy k q.sym q.code))
    now_typed q o =
        let on : OnNow (copy i q.sym q.code) = IsUnknown.in_frame now q now_in o in
        let e = self_test in
        let same : lifted (copy k q.sym q.code) ≡ v (copy i q.sym q.code) = rw e refl in
        record { code = ap code_of same ∙ again.is_valuation.code (copy i q.sym q.code) on; typed = subst (IsTyped db.rows place) (sym same) (again.is_valuation.typed (copy i q.sym q.code) on) }

    abbrev all_read : List Asked
    all_read = before ++ asked k a gs ∷ []

    read_cases : (y : Asked) → Contains all_read y → Contains before y ⊎ (asked k a gs ≡ y)
    read_cases y m = elim (Contains-append_cases before (asked k a gs ∷ []) y m) [ inl h ↦ inl h | inr h ↦ inr (only y (asked k a gs) h) ]

    copy_typed : (y : Asked) (q : TypedVariable) → Contains all_read y → Contains y.assertion.vars q → IsTypedAs db.rows place q.code (lifted (copy y.step q.sym q.code))
    copy_typed y q m o = elim (read_cases y m) [
      | inl h ↦ before_typed y q h o
      | inr e ↦
          subst (λ (z : Asked). Contains z.assertion.vars q → IsTypedAs db.rows place q.code (lifted (copy z.step q.sym q.code))) e (now_typed q) o
    ]

    code_read : (z : Unknown) → IsUnknown bound all_read z → code_of (lifted z) ≡ unknown_code db z
    code_read (named c n) (IsUnknown.in_formula j s t at is o) = (lifted_typed (named c n) (IsUnknown.in_formula j s t at is o)).code
    code_read (blank j) (IsUnknown.is_blank s at is) = (lifted_typed (blank j) (IsUnknown.is_blank s at is)).code
    code_read (copy j s c) (IsUnknown.in_frame y q m o) = (copy_typed y q m o).code

    typed_read : (z : Unknown) → IsUnknown bound all_read z → IsTyped db.rows place (lifted z)
    typed_read (named c n) (IsUnknown.in_formula j s t at is o) = (lifted_typed (named c n) (IsUnknown.in_formula j s t at is o)).typed
    typed_read (blank j) (IsUnknown.is_blank s at is) = (lifted_typed (blank j) (IsUnknown.is_blank s at is)).typed
    typed_read (copy j s c) (IsUnknown.in_frame y q m o) = (copy_typed y q m o).typed

    -- ---- the valuation solves

    places_low : (y : Asked) → IsBefore y → (z : Given) → Contains y.places z → is_place_below y.step z ≡ true
    places_low y h z m =
        let is = before_accepted y h in
        let within = get_within bound.steps y.step is.bound_step is.at in
        let long = S.long in
        let s = get_below (steps w.read) y.step (omega (arith, within, long)) in
        let c = S.bound_steps y.step s.0 s.1 in
        let same : is.bound_step.places ≡ s.0.places = ap (λ (x : BoundStep). x.places) (some_same is.bound_step c.0 (sym is.at ∙ c.1)) ∙ c.2.places in
        all_passes (is_place_below y.step) s.0.places z (S.below y.step s.0 s.1) (subst (λ zs. Contains zs z) same (order_elements is.bound_step y.assertion y.places is.order z m))

    before_solves : (y : Asked) → Contains before y → Solves bound lifted y
    before_solves y m =
        let h = is_before y m in
        let is = before_accepted y h in
        let off = other_step y.step h.low in
        let whole = whole_member db options w numbers ds S y is.member in
        let solved = all_of (Solves bound g) (accepted_all db options w numbers ds S) y S.the.most_general.solves is.member in
        let within = get_within bound.steps y.step is.bound_step is.at in
        record {
          conclusion = instance_before y.step off y.assertion.tree whole.closed ∙ ap (refine r) solved.conclusion ∙ sym (lifted-formula y.step is.bound_step is.at);
          places = places_before y.step off y.places y.assertion.hyps (places_low y h) (omega (arith, within)) whole.hyps_closed solved.places;
        }

    now_solved : Solves other v now
    now_solved = all_of (Solves other v) asked_now now again.solves now_in

    now_places : (ys : List Given) (hs : List Tree) → ((y : Given) → Contains ys y → is_place_below k y ≡ true) → k ≤ length bound.steps
        → PlacesFit other v i (map (written_place (take k numbers)) ys) hs → PlacesFit bound lifted k ys hs
    now_places [] hs low le f = f
    now_places (y ∷ ys) [] low le f = absurd f
    now_places (given.Gap ∷ ys) (h ∷ hs) low le f = now_places ys hs (λ y m. low y (later y given.Gap ys m)) le f
    now_places (given.Step n ∷ ys) (h ∷ hs) low le f =
        let less : n < k = ltb-true n k (low (given.Step n) (first (given.Step n) (given.Step n) ys refl)) in
        let b = get_below bound.steps n (omega (arith, less, le)) in
        let j = number_of n b.0 b.1 in
        let index : slice_index_or (take k numbers) n 0 ≡ j.0 = index_from_get (take k numbers) n j.0 0 (get_taken k n numbers j.0 less j.1) in
        (instance_now h ∙ f.0 ∙ ap (formula other v) index ∙ formulas_meet n j.0 b.0 j.1 b.1, now_places ys hs (λ y m. low y (later y (given.Step n) ys m)) le f.1)

    module _ (b : BoundStep) (at : slice_get bound.steps k ≡ Some b) where
      now_solves : Solves bound lifted (asked k a gs)
      now_solves = record {
        conclusion = instance_now a.tree ∙ now_solved.conclusion ∙ formulas_meet k i b number_at at;
        places = now_places gs a.hyps below (let within = get_within bound.steps k b at in omega (arith, within)) now_solved.places;
      }

      solves_read : (y : Asked) → Contains all_read y → Solves bound lifted y
      solves_read y m = elim (read_cases y m) [ inl h ↦ before_solves y h | inr e ↦ subst (Solves bound lifted) e now_solves ]

      -- the step fits among those that were read
      pub fits_read : FitsIn db bound before k a gs
      fits_read = record { value = lifted; is_valuation = record { code = code_read; typed = typed_read }; solves = all_from (Solves bound lifted) all_read solves_read }
