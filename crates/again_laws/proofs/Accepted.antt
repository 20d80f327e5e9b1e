-- The accepted steps of a writing, and that its trees are typed.
use Rattle.std.specs.Prelude.{◌≡◌, ◌<◌, ℕ, zero, suc, List, [], ◌∷◌, length, map, take, drop, Contains, slice_get, slice_index_or, Option, Some, None, refl}
use Rattle.std.specs.List.{AllByRecursion, AllZip}
use Rattle.std.proofs.Common.{sym, ap, subst, ◌∙◌, arith, inl, inr}
use Rattle.std.proofs.lemmas.Bool.{ltb-true}
use Rattle.mm_base.specs.declared.tree.Tree.{Tree}
use Rattle.mm_base.specs.declared.tree.Tree.TheVariants.{Var}
use Rattle.mm_base.specs.Trees.{code_of}
use Rattle.mm_model.specs.Productions.{essentials}
use Rattle.mm_model.specs.Typed.{IsTyped, HasNoFresh}
use Rattle.mm_model.specs.Book.{Database, Assertion, position_of}
use Rattle.mm_model.proofs.TypedLaws.{code-Var, code-Work, typed-Var, typed-Work}
use Rattle.sheet_text.specs.declared.sheet.SheetStep.{SheetStep}
use Rattle.sheet_text.specs.Layout.{steps}
use Rattle.solve_model.specs.declared.bound.BoundStep.{BoundStep}
use Rattle.solve_model.specs.Trees.{Open, work, fresh, leaf_tree, open_code, open_leaves}
use Rattle.solve_model.specs.Bound.{HasTree, Standing, settled, candidate, standing}
use Rattle.solve_model.specs.Solutions.{named, blank, copy, Valuation, Asked, IsUnknown, IsValuation, formula, formula_value, instance, open_value, orders_of, no_step}
use Rattle.solve_model.specs.Verdicts.{Judgement, accepted, stands, asked_of, accepted_in}
use Rattle.solve_laws.specs.Instances.{IsClosed, IsClosedTree}
use Rattle.solve_laws.specs.ReplacedTypes.{IsTypedAs, KeepsTypes}
use Rattle.solve_laws.proofs.NoFresh.{no_fresh_leaf}
use Rattle.solve_laws.proofs.ReplacedTypes.{code-Fresh, typed-Fresh, replaced_typed}
use Rattle.written_model.specs.declared.options.Options.{Options}
use Rattle.written_model.specs.WrittenSteps.{WrittenStep, steps_in, trees}
use Rattle.written_model.specs.Filled.{filled_step, wanted_by}
use Rattle.written_model.specs.Named.{Naming, name_leaf, name_fresh, name_tree, name_step}
use Rattle.written_model.specs.Found.{IsSearched}
use Rattle.written_model.specs.Written.{Writing}
use Rattle.again_laws.specs.Whole.{HasOnly, IsWhole}
use Rattle.again_laws.proofs.Lists.{get_below, get_contains, contains_get, contains_mapped, from_filter_map, into_filter_map, all_from, all_of, get_mapped, zip_left, index_from_get, some_same}
use Rattle.again_laws.proofs.Orders.{first_stands}
use Rattle.again_laws.proofs.Candidates.{IsCandidate, candidate_from, told, Told}
use Rattle.again_laws.proofs.Filling.{IsOwn}
use Rattle.again_laws.proofs.Setting.{Setting}
use Rattle.again_laws.proofs.TypedOn.{replaced_on, typed_later}

pub asked_is : (o : Judgement) (x : Asked) → asked_of o ≡ Some x → o ≡ accepted x
asked_is (accepted y) x e = ap (λ z. accepted z) (some_same y x e)
asked_is (stands v) x e = absurd cc

drop_contains : {X : Type 0} (n : ℕ) (xs : List X) (x : X) → Contains (drop n xs) x → Contains xs x
drop_contains zero xs x m = m
drop_contains (suc n) [] x m = m
drop_contains (suc n) (y ∷ xs) x m = let r = drop_contains n xs x m in let less = r.1 in (suc r.0, omega (arith, less), r.2)

pub dropped : {X : Type 0} (n : ℕ) (xs : List X) (x : X) → Contains (drop n xs) x → Contains xs x
dropped n xs x m = drop_contains n xs x m

-- naming keeps types
pub leaf_keeps : (db : Database) (place : ℕ) (names : Naming) (x : Open) → IsTypedAs db.rows place (open_code x) (name_leaf names x)
leaf_keeps db place names (work c n) = record { code = code-Work c n; typed = typed-Work db.rows place c n }
leaf_keeps db place names (fresh c n) = by (names c n)
  where
    by : (o : Option ℕ) → IsTypedAs db.rows place c (name_fresh c n o)
    by None = record { code = code-Fresh c n; typed = typed-Fresh db.rows place c n }
    by (Some k) = record { code = code-Work c k; typed = typed-Work db.rows place c k }

pub naming_keeps : (db : Database) (place : ℕ) (names : Naming) → KeepsTypes db.rows place (λ s c. Var s c) (name_leaf names)
naming_keeps db place names = record { variables = λ s c. record { code = code-Var s c; typed = typed-Var db.rows place s c }; open_leaves = leaf_keeps db place names }

pub name_typed : (db : Database) (place : ℕ) (names : Naming) (t : Tree) → IsTyped db.rows place t → IsTypedAs db.rows place (code_of t) (name_tree names t)
name_typed db place names t h = replaced_typed db.rows place (λ s c. Var s c) (name_leaf names) (naming_keeps db place names) t h

pub filled_tree : (front more : List ℕ) (s : SheetStep) (t : Tree) (g : Valuation) (o : Judgement) → (filled_step front more s t g o).tree ≡ t
filled_tree front more s t g (accepted x) = refl
filled_tree front more s t g (stands v) = refl

module _ (db : Database) (options : Options) (w : Writing) (numbers : List ℕ) (ds : List WrittenStep) (S : Setting db options w numbers ds) where
  abbrev g : Valuation
  g = w.value

  abbrev pub all_accepted : List Asked
  all_accepted = accepted_in w.judgements

  abbrev place : ℕ
  place = w.bound.place

  -- the step of a number is accepted so
  pub record IsAccepted (k : ℕ) (x : Asked) : Type 0 where
    pub bound_step : BoundStep
    pub at : slice_get w.bound.steps k ≡ Some bound_step
    pub step_is : x.step ≡ k
    pub member : Contains all_accepted x
    pub candidate_is : IsCandidate db place bound_step x.assertion
    pub order : Contains (orders_of bound_step x.assertion) x.places

  bound_at : (k : ℕ) (o : Judgement) → slice_get w.judgements k ≡ Some o → (b : BoundStep) × (slice_get w.bound.steps k ≡ Some b)
  bound_at k o e =
      let within = get_within_ w.judgements k o e in
      let count = S.judged.count in
      get_below w.bound.steps k (omega (arith, within, count))
    where
      get_within_ : (xs : List Judgement) (n : ℕ) (x : Judgement) → slice_get xs n ≡ Some x → n < length xs
      get_within_ [] n x q = absurd cc
      get_within_ (y ∷ xs) zero x q = omega arith
      get_within_ (y ∷ xs) (suc n) x q = let less = get_within_ xs n x q in omega (arith, less)

  pub accepted_at : (k : ℕ) (x : Asked) → slice_get w.judgements k ≡ Some (accepted x) → IsAccepted k x
  accepted_at k x e =
      let b = bound_at k (accepted x) e in
      by b.0 b.1 (standing db place b.0) refl (told db w.bound (accepted_in (take k w.judgements)) k b.0 (standing db place b.0) (accepted x) (S.judged.each k b.0 (accepted x) b.1 e))
    where
      by : (b : BoundStep) → slice_get w.bound.steps k ≡ Some b → (st : Standing) → standing db place b ≡ st → Told db w.bound (accepted_in (take k w.judgements)) k b st (accepted x) → IsAccepted k x
      by b at (settled v) is t = absurd t
      by b at (candidate a) is t =
          let same : x.assertion ≡ a = ap (λ (y : Asked). y.assertion) t.0 in
          let first = first_stands _ (orders_of b a) x.places t.1 in
          record {
            bound_step = b;
            at = at;
            step_is = ap (λ (y : Asked). y.step) t.0;
            member = into_filter_map asked_of w.judgements (accepted x) x (get_contains w.judgements k (accepted x) e) refl;
            candidate_is = candidate_from db place b x.assertion (is ∙ ap (λ c. candidate c) (sym same));
            order = subst (λ c. Contains (orders_of b c) x.places) (sym same) first.0;
          }

  -- each accepted one is that of its step
  pub member_at : (x : Asked) → Contains all_accepted x → (k : ℕ) × (slice_get w.judgements k ≡ Some (accepted x))
  member_at x m =
      let r = from_filter_map asked_of w.judgements x m in
      let k = contains_get w.judgements r.0 r.1 in
      (k.0, k.1 ∙ ap (λ o. Some o) (asked_is r.0 x r.2))

  pub once : (x y : Asked) → Contains all_accepted x → Contains all_accepted y → y.step ≡ x.step → y ≡ x
  once x y mx my e =
      let a = member_at x mx in
      let b = member_at y my in
      let place_x : x.step ≡ a.0 = (accepted_at a.0 x a.1).step_is in
      let place_y : y.step ≡ b.0 = (accepted_at b.0 y b.1).step_is in
      let same : b.0 ≡ a.0 = sym place_y ∙ e ∙ place_x in
      let two : Some (accepted y) ≡ Some (accepted x) = sym b.1 ∙ ap (slice_get w.judgements) same ∙ a.1 in
      one_accepted y x (some_same (accepted y) (accepted x) two)
    where
      one_accepted : (p q : Asked) → accepted p ≡ accepted q → p ≡ q
      one_accepted p q f = cc

  pub whole_member : (x : Asked) → Contains all_accepted x → IsWhole x.assertion
  whole_member x m = let a = member_at x m in let c = (accepted_at a.0 x a.1).candidate_is in S.whole c.label x.assertion c.usable

  pub all_closed : AllByRecursion IsClosed all_accepted
  all_closed = all_from IsClosed all_accepted (λ x m. let is = whole_member x m in (is.closed, is.hyps_closed))

  -- ---- trees are typed

  valuation : IsValuation db place (IsUnknown w.bound all_accepted) g
  valuation = S.the.most_general.is_valuation

  pub open_typed : (k : ℕ) (b : BoundStep) (t : Tree) → slice_get w.bound.steps k ≡ Some b → b.tree ≡ Some t → HasNoFresh t → (x : Open)
      → Contains (open_leaves t) x → IsTypedAs db.rows place (open_code x) (open_value g x)
  open_typed k b t at is no_fresh (work c n) o =
      let on = IsUnknown.in_formula k b t at is o in
      record { code = valuation.code (named c n) on; typed = valuation.typed (named c n) on }
  open_typed k b t at is no_fresh (fresh c n) o = absurd (no_fresh_leaf c n t no_fresh o)

  formula_typed_by : (k : ℕ) (b : BoundStep) → slice_get w.bound.steps k ≡ Some b → (tokens : List (List ℕ)) → (o : Option Tree) → b.tree ≡ o
      → HasTree db place tokens o → IsTyped db.rows place (formula_value g k o)
  formula_typed_by k b at tokens None is h = valuation.typed (blank k) (IsUnknown.is_blank b at is)
  formula_typed_by k b at tokens (Some t) is h =
      (replaced_on db.rows place (λ s c. Var s c) (open_value g) t
      (λ v o. record { code = code-Var v.sym v.code; typed = typed-Var db.rows place v.sym v.code })
      (open_typed k b t at is h.parses.named) h.parses.typed).typed

  pub tree_at : (k : ℕ) (b : BoundStep) → slice_get w.bound.steps k ≡ Some b → (slice_index_or w.bound.steps k no_step).tree ≡ b.tree
  tree_at k b at = ap (λ (x : BoundStep). x.tree) (index_from_get w.bound.steps k b no_step at)

  pub formula_typed : (k : ℕ) (s : SheetStep) → slice_get (steps w.read) k ≡ Some s → IsTyped db.rows place (formula w.bound g k)
  formula_typed k s e =
      let b = S.bound_steps k s e in
      let same = tree_at k b.0 b.1 in
      subst (λ o. IsTyped db.rows place (formula_value g k o)) (sym same) (formula_typed_by k b.0 b.1 s.formula b.0.tree refl b.2.tree)

  -- the trees of an assertion are typed at the place
  pub usable_typed : (b : BoundStep) (a : Assertion) → IsCandidate db place b a → (h : Tree) → Contains a.hyps h → IsTyped db.rows place h
  usable_typed b a c h m =
      let is = S.facts.usable c.label a c.usable in
      let frame = S.facts.frames c.label a.frame is.frame in
      let at : a.frame.at ≡ position_of db c.label = frame.at in
      let less : position_of db c.label < place = ltb-true (position_of db c.label) place c.earlier in
      let k = contains_get a.hyps h m in
      let r = zip_left _ (essentials a.frame.hyps) a.hyps is.hyps k.0 h k.1 in
      typed_later db.rows a.frame.at place (omega (arith, at, less)) h r.2.tree.parses.typed

  pub wanted_typed : (k : ℕ) (o : Judgement) → slice_get w.judgements k ≡ Some o → (t : Tree) → Contains (wanted_by g o) t → IsTyped db.rows place t
  wanted_typed k (stands v) e t m = absurd (let less = m.1 in omega (arith, less))
  wanted_typed k (accepted x) e t m =
      let is = accepted_at k x e in
      let r = contains_mapped (instance g x.step) (drop (length x.places) x.assertion.hyps) t m in
      let own = dropped (length x.places) x.assertion.hyps r.0 r.1 in
      let whole = whole_member x is.member in
      let known : HasOnly x.assertion.vars r.0 = all_of (HasOnly x.assertion.vars) x.assertion.hyps r.0 whole.hyps_known own in
      let closed : IsClosedTree r.0 = all_of IsClosedTree x.assertion.hyps r.0 whole.hyps_closed own in
      subst (IsTyped db.rows place) r.2
      (replaced_on db.rows place (λ s c. g (copy x.step s c)) leaf_tree r.0
      (λ v o. let on = IsUnknown.in_frame x v is.member (known v o) in record { code = valuation.code (copy x.step v.sym v.code) on; typed = valuation.typed (copy x.step v.sym v.code) on })
      (λ y o. absurd (closed y o)) (usable_typed is.bound_step x.assertion is.candidate_is r.0 own)).typed

  pub ds_typed : (i : ℕ) (d : WrittenStep) → slice_get ds i ≡ Some d → IsTyped db.rows place d.tree
  ds_typed i d e = elim (S.filling.from i d e) [
    | inl k ↦ own_typed k.0 (S.filling.own k.0 i k.1)
    | inr m ↦ wanted_typed m.by m.judgement m.judgement_at d.tree m.wanted
  ]
    where
      own_typed : (k : ℕ) → ((c : WrittenStep) × (slice_get ds i ≡ Some c) × IsOwn w.bound w.value w.judgements (steps w.read) (trees ds) numbers k i c) → IsTyped db.rows place d.tree
      own_typed k (c, at, o) =
          let same : c ≡ d = some_same c d (sym at ∙ e) in
          let tree : d.tree ≡ formula w.bound g k = ap (λ (x : WrittenStep). x.tree) (sym same ∙ o.is) ∙ filled_tree (take k numbers) o.more o.source (formula w.bound g k) g o.judgement in
          subst (IsTyped db.rows place) (sym tree) (formula_typed k o.source o.source_at)

  -- ---- the steps as they are written

  abbrev pub ns : List WrittenStep
  ns = map (name_step w.names) ds

  abbrev pub es : List WrittenStep
  es = steps_in w.items

  searched_tree : (n e : WrittenStep) → IsSearched db place options.dv w.bound.pairs ns n e → e.tree ≡ n.tree
  searched_tree n e (IsSearched.not_searched h) = refl
  searched_tree n e (IsSearched.none h i) = refl
  searched_tree n e (IsSearched.found h i f) = refl

  same_trees : (xs ys : List WrittenStep) → AllZip (IsSearched db place options.dv w.bound.pairs ns) xs ys → trees ys ≡ trees xs
  same_trees [] [] h = refl
  same_trees [] (y ∷ ys) h = absurd h
  same_trees (x ∷ xs) [] h = absurd h
  same_trees (x ∷ xs) (y ∷ ys) h = let one = searched_tree x y h.0 in let rest = same_trees xs ys h.1 in cc

  map-map : (xs : List WrittenStep) → map (λ (e : WrittenStep). e.tree) (map (name_step w.names) xs) ≡ map (name_tree w.names) (trees xs)
  map-map [] = refl
  map-map (x ∷ xs) = ap (λ ts. name_tree w.names x.tree ∷ ts) (map-map xs)

  pub trees_searched : trees es ≡ trees ns
  trees_searched = same_trees ns es S.searched

  pub trees_named : trees es ≡ map (name_tree w.names) (trees ds)
  trees_named = trees_searched ∙ map-map ds

  pub es_typed : (i : ℕ) (t : Tree) → slice_get (trees es) i ≡ Some t → IsTyped db.rows place t
  es_typed i t e =
      let r = get_mapped (name_tree w.names) (trees ds) i t (ap (λ ts. slice_get ts i) (sym trees_named) ∙ e) in
      let d = get_mapped (λ (x : WrittenStep). x.tree) ds i r.0 r.1 in
      subst (IsTyped db.rows place) r.2 (name_typed db place w.names r.0 (subst (IsTyped db.rows place) d.2 (ds_typed i d.0 d.1))).typed
