-- The uses of the steps that were accepted.
use Rattle.std.specs.Prelude.{◌≡◌, ◌<◌, ◌≤◌, ◌+◌, nat_le, ℕ, zero, suc, Bool, true, false, List, [], ◌∷◌, length, map, take, drop, Contains}
use Rattle.std.specs.Prelude.{slice_get, slice_index_or, Option, Some, None, refl}
use Rattle.std.specs.List.{AllByRecursion, AllZip}
use Rattle.std.proofs.Common.{sym, ap, subst, ◌∙◌, arith, inl, inr, cond}
use Rattle.std.proofs.lemmas.Bool.{ltb-true}
use Rattle.std.proofs.lemmas.Bool.Decides.{nat_tests}
use Rattle.std.proofs.lemmas.List.{length-map, length-append}
use Rattle.std.proofs.lemmas.List.Elements.{Contains-append_left, Contains-append_right, Contains-append_cases}
use Rattle.mm_base.specs.declared.symbols.Sym.{Sym}
use Rattle.mm_base.specs.declared.symbols.Typecode.{Typecode}
use Rattle.mm_base.specs.declared.tree.Tree.{Tree}
use Rattle.mm_base.specs.declared.tree.Tree.TheVariants.{Var, Fresh}
use Rattle.mm_base.specs.Trees.{code_of}
use Rattle.mm_model.specs.Productions.{TypedVariable}
use Rattle.mm_model.specs.Typed.{IsTyped}
use Rattle.mm_model.specs.Book.{Database, Assertion}
use Rattle.sheet_text.specs.declared.sheet.Given.{Given}
use Rattle.sheet_text.specs.declared.sheet.Given.TheVariants as given
use Rattle.sheet_text.specs.declared.sheet.SheetStep.{SheetStep}
use Rattle.sheet_text.specs.Layout.{steps}
use Rattle.sheet_text.specs.Spellable.{is_place_below}
use Rattle.solve_model.specs.declared.bound.BoundStep.{BoundStep}
use Rattle.solve_model.specs.Trees.{Open, work, fresh, leaf_tree, open_leaves, Occurs}
use Rattle.solve_model.specs.Bound.{HasTree}
use Rattle.solve_model.specs.Solutions.{Unknown, named, blank, copy, Valuation, Asked, IsUnknown, PlacesFit, Solves, formula, formula_value, instance, open_value, orders_of, is_free}
use Rattle.solve_model.specs.Firsts.{orders}
use Rattle.solve_model.specs.Verdicts.{Judgement, accepted, stands}
use Rattle.solve_model.proofs.TreeLaws.{open_leaves-Var, replace-Fresh}
use Rattle.solve_laws.specs.Instances.{IsClosedTree}
use Rattle.solve_laws.proofs.Elements.{nothing, only, first, later}
use Rattle.solve_laws.proofs.NoFresh.{no_fresh_leaf}
use Rattle.solve_laws.proofs.ReplaceLaws.{replace-replace}
use Rattle.written_model.specs.declared.options.Options.{Options}
use Rattle.written_model.specs.WrittenSteps.{Use, WrittenStep, trees, value_of}
use Rattle.written_model.specs.Filled.{filled_step, wanted_by, written_place, use_of}
use Rattle.written_model.specs.Named.{Naming, name_leaf, name_fresh, name_tree, name_step, IsWrittenLeaf}
use Rattle.written_model.specs.Found.{valued}
use Rattle.written_model.specs.Written.{Writing, bound_step}
use Rattle.again_laws.specs.Leaves.{typed_leaves}
use Rattle.again_laws.specs.Shown.{shown_leaves, shown_by}
use Rattle.again_laws.specs.Whole.{HasOnly, IsWhole}
use Rattle.again_laws.proofs.LeafLaws.{replace-both, comes}
use Rattle.again_laws.proofs.Lists.{get_below, contains_get, contains_mapped, all_of, get_map, get_mapped, zip_long, index_from_get, some_same, get_within}
use Rattle.again_laws.proofs.Orders.{order_within, order_long, all_passes}
use Rattle.again_laws.proofs.Candidates.{IsCandidate}
use Rattle.again_laws.proofs.Values.{value_is}
use Rattle.again_laws.proofs.Loose.{IsLoose, loose}
use Rattle.again_laws.proofs.Filling.{FillsAt}
use Rattle.again_laws.proofs.Setting.{Setting}
use Rattle.again_laws.proofs.Accepted.{IsAccepted, accepted_at, once, whole_member, all_closed, tree_at, filled_tree, dropped, trees_named, name_typed}
use Rattle.again_laws.proofs.Uses.{PlacesHold, IsUse, LooseValue, written_steps, accepted_all, written, shown_more, shown_filled}

-- ---- the places of an order are those that are listed

pub order_elements : (b : BoundStep) (a : Assertion) (o : List Given) → Contains (orders_of b a) o → (y : Given) → Contains o y → Contains b.places y
order_elements b a o m y k = by (is_free b a) m
  where
    by : (t : Bool) → Contains (cond t (orders (length b.places) b.places) (b.places ∷ [])) o → Contains b.places y
    by true n = order_within (length b.places) b.places o n y k
    by false n = subst (λ x. Contains x y) (sym (only o b.places n)) k

pub order_count : (b : BoundStep) (a : Assertion) (o : List Given) → Contains (orders_of b a) o → length o ≡ length b.places
order_count b a o m = by (is_free b a) m
  where
    by : (t : Bool) → Contains (cond t (orders (length b.places) b.places) (b.places ∷ [])) o → length o ≡ length b.places
    by true n = order_long (length b.places) b.places o n
    by false n = ap length (sym (only o b.places n))

map-map : {A B C : Type 0} (h : B → C) (k : A → B) (xs : List A) → map h (map k xs) ≡ map (λ x. h (k x)) xs
map-map h k [] = refl
map-map h k (x ∷ xs) = ap (λ ys. h (k x) ∷ ys) (map-map h k xs)

pub get_taken : (k j : ℕ) (ns : List ℕ) (n : ℕ) → j < k → slice_get ns j ≡ Some n → slice_get (take k ns) j ≡ Some n
get_taken zero j ns n l e = absurd (omega (arith, l))
get_taken (suc k) j [] n l e = absurd (none j e)
  where
    none : (m : ℕ) → slice_get [] m ≡ Some n → ⊥
    none m q = cc
get_taken (suc k) zero (x ∷ ns) n l e = e
get_taken (suc k) (suc j) (x ∷ ns) n l e = get_taken k j ns n (omega (arith, l)) e

places_short : (bound_ : _) (v : Valuation) (i : ℕ) (gs : List Given) (hs : List Tree) → PlacesFit bound_ v i gs hs → length gs ≤ length hs
places_short bound_ v i [] hs f = omega arith
places_short bound_ v i (g ∷ gs) [] f = absurd f
places_short bound_ v i (given.Gap ∷ gs) (h ∷ hs) f = let r = places_short bound_ v i gs hs f in omega (arith, r)
places_short bound_ v i (given.Step k ∷ gs) (h ∷ hs) f = let r = places_short bound_ v i gs hs f.1 in omega (arith, r)

length-drop_ : {X : Type 0} (n : ℕ) (xs : List X) → n ≤ length xs → n + length (drop n xs) ≡ length xs
length-drop_ zero xs l = omega arith
length-drop_ (suc n) [] l = absurd (omega (arith, l))
length-drop_ (suc n) (x ∷ xs) l = let r = length-drop_ n xs (omega (arith, l)) in omega (arith, r)

module _ (db : Database) (options : Options) (w : Writing) (numbers : List ℕ) (ds : List WrittenStep) (S : Setting db options w numbers ds) where
  abbrev g : Valuation
  g = w.value

  abbrev names : Naming
  names = w.names

  abbrev es : List WrittenStep
  es = written_steps db options w numbers ds S

  -- the tree of a step of the worksheet, as it is written
  pub own_tree : (j n : ℕ) → slice_get numbers j ≡ Some n → slice_get (trees es) n ≡ Some (name_tree names (formula w.bound g j))
  own_tree j n e =
      let r = S.filling.own j n e in
      let tree : r.0.tree ≡ formula w.bound g j = ap (λ (x : WrittenStep). x.tree) r.2.is ∙ filled_tree (take j numbers) r.2.more r.2.source (formula w.bound g j) g r.2.judgement in
      let there = get_map (name_tree names) (trees ds) n r.0.tree (get_map (λ (x : WrittenStep). x.tree) ds n r.0 r.1) in
      ap (λ ts. slice_get ts n) (trees_named db options w numbers ds S) ∙ there ∙ ap (λ t. Some (name_tree names t)) tree

  -- ---- leaves of formulas that were read

  -- a fresh leaf of a formula stands in the value of a work variable or of a blank formula
  pub record HasHolder (y : Open) : Type 0 where
    pub holder : Unknown
    pub on : IsUnknown w.bound (accepted_all db options w numbers ds S) holder
    pub occurs : Occurs y (g holder)
    pub no_copy : (i : ℕ) (s : Sym) (c : Typecode) → holder ≡ copy i s c → ⊥

  holder_by : (k : ℕ) (b : BoundStep) → slice_get w.bound.steps k ≡ Some b → (tokens : List (List ℕ)) (o : Option Tree) → b.tree ≡ o → HasTree db w.bound.place tokens o → (c : Typecode) (n : ℕ)
      → Occurs (fresh c n) (formula_value g k o) → HasHolder (fresh c n)
  holder_by k b at tokens None is h c n o = record { holder = blank k; on = IsUnknown.is_blank b at is; occurs = o; no_copy = λ i s d e. no i s d e }
    where
      no : (i : ℕ) (s : Sym) (d : Typecode) → blank k ≡ copy i s d → ⊥
      no i s d e = cc
  holder_by k b at tokens (Some t) is h c n o = elim (comes (λ s d. Var s d) (open_value g) (fresh c n) t o) [
    | inl v ↦ absurd (nothing (fresh c n) (rw open_leaves-Var at v.2))
    | inr x ↦ by x.0 x.1 x.2
  ]
    where
      by : (x : Open) → Contains (open_leaves t) x → Contains (open_leaves (open_value g x)) (fresh c n) → HasHolder (fresh c n)
      by (work d m) inside o' = record { holder = named d m; on = IsUnknown.in_formula k b t at is inside; occurs = o'; no_copy = λ i s z e. no i s z e }
        where
          no : (i : ℕ) (s : Sym) (z : Typecode) → named d m ≡ copy i s z → ⊥
          no i s z e = cc
      by (fresh d m) inside o' = absurd (no_fresh_leaf d m t h.parses.named inside)

  pub formula_holder : (k : ℕ) (s : SheetStep) → slice_get (steps w.read) k ≡ Some s → (c : Typecode) (n : ℕ) → Occurs (fresh c n) (formula w.bound g k) → HasHolder (fresh c n)
  formula_holder k s e c n o =
      let b = S.bound_steps k s e in
      let same = tree_at db options w numbers ds S k b.0 b.1 in
      holder_by k b.0 b.1 s.formula b.0.tree refl b.2.tree c n (subst (λ t. Occurs (fresh c n) (formula_value g k t)) same o)

  -- ---- one accepted step

  module _ (k i : ℕ) (number_at : slice_get numbers k ≡ Some i) (x : Asked) (judgement_at : slice_get w.judgements k ≡ Some (accepted x))
      (source : SheetStep) (source_at : slice_get (steps w.read) k ≡ Some source)
      (more : List ℕ) (fills : AllZip (FillsAt (trees ds) i) (wanted_by g (accepted x)) more) where
    abbrev a : Assertion
    a = x.assertion

    abbrev step_accepted : WrittenStep
    step_accepted = name_step names (filled_step (take k numbers) more source (formula w.bound g k) g (accepted x))

    abbrev u : Use
    u = record (use_of g x) { values = map (name_tree names) (use_of g x).values }

    is : IsAccepted db options w numbers ds S k x
    is = accepted_at db options w numbers ds S k x judgement_at

    whole : IsWhole a
    whole = whole_member db options w numbers ds S x is.member

    solves : Solves w.bound g x
    solves = all_of (Solves w.bound g) (accepted_all db options w numbers ds S) x S.the.most_general.solves is.member

    value : (v : TypedVariable) → Contains a.vars v → value_of u v.sym ≡ name_tree names (g (copy x.step v.sym v.code))
    value v m =
        value_is u (λ (z : TypedVariable). name_tree names (g (copy x.step z.sym z.code))) whole.differ
        (map-map (name_tree names) (λ (z : TypedVariable). g (copy x.step z.sym z.code)) a.vars) v m

    valued_is : (t : Tree) → IsClosedTree t → HasOnly a.vars t → valued u t ≡ name_tree names (instance g x.step t)
    valued_is t closed known = sym (
        replace-replace (λ s c. Var s c) (λ s c. g (copy x.step s c)) (name_leaf names) leaf_tree t
        ∙ replace-both (λ s c. name_tree names (g (copy x.step s c))) (λ s c. value_of u s) (λ y. name_tree names (leaf_tree y)) leaf_tree t
        (λ v o. sym (value v (known v o))) (λ y o. absurd (closed y o))
        )

    conclusion : valued u a.tree ≡ step_accepted.tree
    conclusion = valued_is a.tree whole.closed whole.known ∙ ap (name_tree names) (solves.conclusion ∙ ap (formula w.bound g) is.step_is)

    -- its places

    same_places : is.bound_step.places ≡ source.places
    same_places =
        let b = S.bound_steps k source source_at in
        ap (λ (z : BoundStep). z.places) (some_same is.bound_step b.0 (sym is.at ∙ b.1)) ∙ b.2.places

    all_below : (y : Given) → Contains x.places y → is_place_below k y ≡ true
    all_below y m = all_passes (is_place_below k) source.places y (S.below k source source_at) (subst (λ gs. Contains gs y) same_places (order_elements is.bound_step a x.places is.order y m))

    number_below : (j : ℕ) → j < k → (n : ℕ) × (slice_get numbers j ≡ Some n)
    number_below j l = let within = get_within numbers k i number_at in get_below numbers j (omega (arith, l, within))

    filled_hold : (hs : List Tree) (ms : List ℕ) → AllByRecursion IsClosedTree hs → AllByRecursion (HasOnly a.vars) hs → AllZip (FillsAt (trees ds) i) (map (instance g x.step) hs) ms
        → PlacesHold (trees es) u (map (λ m. given.Step m) ms) hs
    filled_hold [] [] c o z = tt
    filled_hold [] (m ∷ ms) c o z = absurd z
    filled_hold (h ∷ hs) [] c o z = absurd z
    filled_hold (h ∷ hs) (m ∷ ms) c o z = (
      ap (λ ts. slice_get ts m) (trees_named db options w numbers ds S) ∙ get_map (name_tree names) (trees ds) m (instance g x.step h) z.0.0 ∙ ap (λ t. Some t) (sym (valued_is h c.0 o.0)),
      filled_hold hs ms c.1 o.1 z.1,
    )

    listed_hold : (gs : List Given) (hs : List Tree) → ((y : Given) → Contains gs y → is_place_below k y ≡ true) → AllByRecursion IsClosedTree hs → AllByRecursion (HasOnly a.vars) hs
        → PlacesFit w.bound g x.step gs hs → AllZip (FillsAt (trees ds) i) (map (instance g x.step) (drop (length gs) hs)) more → PlacesHold (trees es) u (written (take k numbers) gs more) hs
    listed_hold [] hs below c o fit z = filled_hold hs more c o z
    listed_hold (y ∷ gs) [] below c o fit z = absurd fit
    listed_hold (given.Gap ∷ gs) (h ∷ hs) below c o fit z = listed_hold gs hs (λ y m. below y (later y given.Gap gs m)) c.1 o.1 fit z
    listed_hold (given.Step j ∷ gs) (h ∷ hs) below c o fit z =
        let less : j < k = ltb-true j k (below (given.Step j) (first (given.Step j) (given.Step j) gs refl)) in
        let n = number_below j less in
        let index : slice_index_or (take k numbers) j 0 ≡ n.0 = index_from_get (take k numbers) j n.0 0 (get_taken k j numbers n.0 less n.1) in
        let tree = own_tree j n.0 n.1 in
        let same : name_tree names (formula w.bound g j) ≡ valued u h = ap (name_tree names) (sym fit.0) ∙ sym (valued_is h c.0 o.0) in
        (ap (slice_get (trees es)) index ∙ tree ∙ ap (λ t. Some t) same, listed_hold gs hs (λ y m. below y (later y (given.Step j) gs m)) c.1 o.1 fit.1 z)

    places : PlacesHold (trees es) u step_accepted.places a.hyps
    places = listed_hold x.places a.hyps all_below whole.hyps_closed whole.hyps_known solves.places fills

    short : length x.places ≤ length a.hyps
    short = places_short w.bound g x.step x.places a.hyps solves.places

    long : length step_accepted.places ≡ length a.hyps
    long =
        let sum = length-append (map (written_place (take k numbers)) x.places) (map (λ m. given.Step m) more) in
        let one = length-map x.places (written_place (take k numbers)) in
        let two = length-map more (λ m. given.Step m) in
        let three = zip_long (FillsAt (trees ds) i) (map (instance g x.step) (drop (length x.places) a.hyps)) more fills in
        let four = length-map (drop (length x.places) a.hyps) (instance g x.step) in
        let five = length-drop_ (length x.places) a.hyps short in
        omega (arith, sum, one, two, three, four, five)

    candidate_is : IsCandidate db w.bound.place (bound_step db options w step_accepted) a
    candidate_is =
        let c = is.candidate_is in
        let b = S.bound_steps k source source_at in
        let same : is.bound_step ≡ b.0 = some_same is.bound_step b.0 (sym is.at ∙ b.1) in
        let le : length step_accepted.places ≤ length a.hyps = (let e = long in omega (arith, e)) in
        record {
          no_hyp = sym b.2.hyp ∙ ap (λ (z : BoundStep). z.hyp) (sym same) ∙ c.no_hyp;
          name = c.name;
          reference = sym b.2.reference ∙ ap (λ (z : BoundStep). z.reference) (sym same) ∙ c.reference;
          label = c.label;
          label_is = c.label_is;
          frame = c.frame;
          frame_is = c.frame_is;
          earlier = c.earlier;
          usable = c.usable;
          has_places = (let r : nat_le (length step_accepted.places) (length a.hyps) ≡ true = grind (arith, nat_tests, le) in r);
        }

    on : (v : TypedVariable) → Contains a.vars v → IsUnknown w.bound (accepted_all db options w numbers ds S) (copy x.step v.sym v.code)
    on v m = IsUnknown.in_frame x v is.member m

    value_typed : (v : TypedVariable) → Contains a.vars v → IsTyped db.rows w.bound.place (value_of u v.sym)
    value_typed v m =
        subst (IsTyped db.rows w.bound.place) (sym (value v m))
        (name_typed db w.bound.place names (g (copy x.step v.sym v.code))
        (S.the.most_general.is_valuation.typed (copy x.step v.sym v.code) (on v m))).typed

    value_code : (v : TypedVariable) → Contains a.vars v → code_of (value_of u v.sym) ≡ v.code
    value_code v m =
        ap code_of (value v m) ∙ (name_typed db w.bound.place names (g (copy x.step v.sym v.code)) (S.the.most_general.is_valuation.typed (copy x.step v.sym v.code) (on v m))).code
        ∙ S.the.most_general.is_valuation.code (copy x.step v.sym v.code) (on v m)

    -- ---- a variable that is not shown

    module _ (v : TypedVariable) (own : Contains a.vars v) (hidden : Contains (shown_by a step_accepted.places) v → ⊥) where
      not_listed : Contains (shown_by a x.places) v → ⊥
      not_listed m = elim (Contains-append_cases (typed_leaves a.tree) (shown_leaves x.places a.hyps) v m) [
        | inl o ↦ hidden (Contains-append_left (typed_leaves a.tree) (shown_leaves step_accepted.places a.hyps) v o)
        | inr o ↦ hidden (Contains-append_right (typed_leaves a.tree) (shown_leaves step_accepted.places a.hyps) v (shown_more (take k numbers) more x.places a.hyps v o))
      ]

      not_filled : (h : Tree) → Contains (drop (length x.places) a.hyps) h → Contains (typed_leaves h) v → ⊥
      not_filled h m o =
          hidden (Contains-append_right (typed_leaves a.tree) (shown_leaves step_accepted.places a.hyps) v
          (shown_filled (take k numbers) more x.places a.hyps (instance g x.step) (FillsAt (trees ds) i) fills v h m o))

      lone : IsLoose w.bound (accepted_all db options w numbers ds S) g x.step v
      lone =
          loose db w.bound (accepted_all db options w numbers ds S) g S.the (all_closed db options w numbers ds S) x v is.member own
          (λ y m e. once db options w numbers ds S x y is.member m e) not_listed

      abbrev leaf : Open
      leaf = fresh v.code lone.number

      held_by_none : HasHolder leaf → ⊥
      held_by_none h = h.no_copy x.step v.sym v.code (lone.alone h.holder h.on h.occurs)

      copy_parts : (i j : ℕ) (p q : TypedVariable) → copy i p.sym p.code ≡ copy j q.sym q.code → (i ≡ j) × (p ≡ q)
      copy_parts i j p q e =
          let one : i ≡ j = cc in
          let two : p.sym ≡ q.sym = cc in
          let three : p.code ≡ q.code = cc in
          (one, ap (λ (s : Sym). let z : TypedVariable = record { sym = s; code = p.code } in z) two ∙ ap (λ (c : Typecode). let z : TypedVariable = record { sym = q.sym; code = c } in z) three)

      wanted_by_none : (n : ℕ) (o : Judgement) → slice_get w.judgements n ≡ Some o → (t : Tree) → Contains (wanted_by g o) t → Occurs leaf t → ⊥
      wanted_by_none n (stands z) e t m o = nothing t m
      wanted_by_none n (accepted y) e t m o =
          let r = contains_mapped (instance g y.step) (drop (length y.places) y.assertion.hyps) t m in
          let yours = accepted_at db options w numbers ds S n y e in
          let its = whole_member db options w numbers ds S y yours.member in
          let h_in = dropped (length y.places) y.assertion.hyps r.0 r.1 in
          let closed = all_of IsClosedTree y.assertion.hyps r.0 its.hyps_closed h_in in
          let known = all_of (HasOnly y.assertion.vars) y.assertion.hyps r.0 its.hyps_known h_in in
          elim (comes (λ s c. g (copy y.step s c)) leaf_tree leaf r.0 (subst (Occurs leaf) (sym r.2) o)) [
            | inl p ↦
                let held = lone.alone (copy y.step p.0.sym p.0.code) (IsUnknown.in_frame y p.0 yours.member (known p.0 p.1)) p.2 in
                let parts = copy_parts y.step x.step p.0 v held in
                let same = once db options w numbers ds S x y is.member yours.member parts.0 in
                not_filled r.0 (subst (λ (z : Asked). Contains (drop (length z.places) z.assertion.hyps) r.0) same r.1) (subst (Contains (typed_leaves r.0)) parts.1 p.1)
            | inr p ↦ closed p.0 p.1
          ]

      not_written : IsWrittenLeaf (trees ds) v.code lone.number → ⊥
      not_written (t, m, o) =
          let n = contains_get (trees ds) t m in
          let d = get_mapped (λ (z : WrittenStep). z.tree) ds n.0 t n.1 in
          elim (S.filling.from n.0 d.0 d.1) [
            | inl j ↦
                let r = S.filling.own j.0 n.0 j.1 in
                let same : r.0 ≡ d.0 = some_same r.0 d.0 (sym r.1 ∙ d.1) in
                let tree : t ≡ formula w.bound g j.0 = sym d.2 ∙ ap (λ (z : WrittenStep). z.tree) (sym same) ∙ ap (λ (z : WrittenStep). z.tree) r.2.is
                ∙ filled_tree (take j.0 numbers) r.2.more r.2.source (formula w.bound g j.0) g r.2.judgement in
                held_by_none (formula_holder j.0 r.2.source r.2.source_at v.code lone.number (subst (Occurs leaf) tree o))
            | inr made ↦ wanted_by_none made.by made.judgement made.judgement_at d.0.tree made.wanted (subst (Occurs leaf) (sym d.2) o)
          ]

      loose_value : value_of u v.sym ≡ Fresh v.code lone.number
      loose_value =
          let unnamed : names v.code lone.number ≡ None = S.naming.others v.code lone.number not_written in
          value v own ∙ ap (name_tree names) lone.is ∙ replace-Fresh (λ s c. Var s c) (name_leaf names) v.code lone.number ∙ ap (name_fresh v.code lone.number) unnamed

    loose_at : (v : TypedVariable) → Contains a.vars v → (Contains (shown_by a step_accepted.places) v → ⊥) → LooseValue db options w numbers ds S i u v
    loose_at v own hidden = record {
      origin = x.step;
      origin_at = subst (λ n. slice_get numbers n ≡ Some i) (sym is.step_is) number_at;
      is = lone v own hidden;
      on = on v own;
      value = loose_value v own hidden;
    }

    pub accepted_use : IsUse db options w numbers ds S i step_accepted u
    accepted_use = record { candidate_is = candidate_is; conclusion = conclusion; places = places; codes = value_code; typed = value_typed; loose = loose_at }
