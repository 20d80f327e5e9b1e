-- A candidate of the next step, taken into the store.
use Rattle.std.specs.Prelude.{◌≡◌, ℕ, ◌<◌, ◌≤◌, ◌+◌, Bool, true, false, List, [], ◌∷◌, ◌++◌, length, map, find, slice_get, Contains, Option, Some, None, option_map, sum, refl}
use Rattle.std.specs.List.{AllByRecursion, AllZip, flat_map, range_with_len}
use Rattle.std.proofs.Common.{zero, suc, sym, ap, subst, ◌∙◌, arith, cond}
use Rattle.std.proofs.lemmas.List.{length-map, length_push}
use Rattle.std.proofs.lemmas.Option.{slice_get_within, get_or_from_slice_get, slice_get-get_or}
use Rattle.mm_base.specs.declared.symbols.Sym.{Sym}
use Rattle.mm_base.specs.declared.symbols.Label.{Label}
use Rattle.mm_base.specs.declared.symbols.Typecode.{Typecode}
use Rattle.mm_base.specs.declared.tree.Tree.{Tree}
use Rattle.mm_model.specs.declared.rows.Production.{Production}
use Rattle.mm_model.specs.Productions.{TypedVariable, typed_variables}
use Rattle.mm_model.specs.Sizes.{nodes}
use Rattle.mm_model.specs.Book.{Database, Assertion, IsUsable, position_of}
use Rattle.mm_model.specs.BookFacts.{IsDatabase, VariablesDiffer}
use Rattle.mm_database.specs.Opened.{Opened}
use Rattle.sheet_text.specs.declared.sheet.Given.{Given}
use Rattle.solve_model.specs.declared.bound.BoundStep.{BoundStep}
use Rattle.solve_model.specs.declared.bound.Bound.{Bound}
use Rattle.solve_model.specs.declared.verdict.Verdict.TheVariants as verdict
use Rattle.solve_model.specs.Bound.{standing, standing_size}
use Rattle.solve_model.specs.Firsts.{orders, picks}
use Rattle.solve_model.specs.Solutions.{Unknown, IsUnknown, copy, Asked, orders_of, no_step}
use Rattle.solve_model.specs.Verdicts.{accepted, asked, accepted_in, IsJudgement}
use Rattle.written_model.specs.Existence.{IsPlaceIn, IsCandidate}
use Rattle.term_model.specs.declared.shape.Id.{Id}
use Rattle.term_model.specs.Terms.{Term}
use Rattle.term_model.specs.Store.{Store, IsStore, IsSolved}
use Rattle.chain_laws.specs.declared.leaves.WorkNode.{WorkNode}
use Rattle.chain_laws.specs.declared.leaves.VariableNode.{VariableNode}
use Rattle.term_model.specs.Sizes.{HaveConstants}
use Rattle.chain_laws.specs.Adding.{Listed, constants_in, numbered, AreApart, is_variable, variable_at}
use Rattle.chain_laws.specs.Layout.{Layout, IsReadyAsked, IsSoundAsked, HasRoom, IsChained, AreFormulaNodes, IsInstanceNode}
use Rattle.chain_laws.proofs.Copies.{with_copies, kept_node, copied_is, found, same_variable, self_variable}
use Rattle.again_laws.specs.Whole.{IsWhole}
use Rattle.step_chain.specs.declared.judged.Accepted.{Accepted}
use Rattle.step_chain.specs.declared.judged.Judged.TheVariants.{Stands, Fits}
use Rattle.step_chain.specs.declared.judged.Pushed.{Pushed}
use Rattle.step_chain.specs.Sizes.{size_of_front}
use Rattle.step_chain.proofs.CountLaws.{candidate_few, front_more}
use Rattle.step_chain.specs.Candidate.{roots_of}
use Rattle.step_chain.specs.Standings.{usable_in, IsBookOf, IsCandidateOf}
use Rattle.step_chain.specs.Ordered.{formula_at, reordered, may_reorder, tried}
use Rattle.step_chain.specs.Tried.{IsTaken}
use Rattle.step_chain.specs.Steps.{IsPlaced, ArePlaced, step_at, asked_by, judgements_from}
use Rattle.step_chain.specs.Levels.{IsLevel, AreKeptNodes}
use Rattle.step_chain.specs.Accepted.{IsTakenAs}
use Rattle.step_chain.proofs.Lists.{all_at}
use Rattle.step_chain.proofs.ConstantLaws.{candidate_have}
use Rattle.step_chain.proofs.OrderLaws.{reordered_inside}
use Rattle.step_chain.proofs.JudgedLaws.{tried_orders, slice_mapped}
use Rattle.step_chain.proofs.TakenLaws.{judged, roots, roots_same, ready_formulas, ready_nodes, taken_judged, taken_chain, own_tried}
use Rattle.step_chain.proofs.LevelLaws.{fresh, level_stands, level_fits}

-- ---- orders are as long as what they order

all_map : {X Y : Type 0} (P : Y → Type 0) (f : X → Y) → ((x : X) → P (f x)) → (xs : List X) → AllByRecursion P (map f xs)
all_map P f h [] = tt
all_map P f h (x ∷ xs) = (h x, all_map P f h xs)

all_with : {X Y : Type 0} (P : Y → Type 0) (Q : X → Type 0) (f : X → Y) → ((x : X) → Q x → P (f x)) → (xs : List X) → AllByRecursion Q xs → AllByRecursion P (map f xs)
all_with P Q f h [] a = tt
all_with P Q f h (x ∷ xs) a = (h x a.0, all_with P Q f h xs a.1)

all_both : {X : Type 0} (P : X → Type 0) (xs ys : List X) → AllByRecursion P xs → AllByRecursion P ys → AllByRecursion P (xs ++ ys)
all_both P [] ys h g = g
all_both P (x ∷ xs) ys h g = (h.0, all_both P xs ys h.1 g)

all_flat : {X Y : Type 0} (P : Y → Type 0) (f : X → List Y) → ((x : X) → AllByRecursion P (f x)) → (xs : List X) → AllByRecursion P (flat_map f xs)
all_flat P f h [] = tt
all_flat P f h (x ∷ xs) = all_both P (f x) (flat_map f xs) (h x) (all_flat P f h xs)

orders_long : (n : ℕ) (xs : List ℕ) → AllByRecursion (λ (o : List ℕ). length o ≡ n) (orders n xs)
orders_long zero xs = (refl, tt)
orders_long (suc n) xs =
    all_flat (λ (o : List ℕ). length o ≡ suc n) (λ (p : ℕ × List ℕ). map (λ rest. p.0 ∷ rest) (orders n p.1))
    (λ p. all_with (λ (o : List ℕ). length o ≡ suc n) (λ (o : List ℕ). length o ≡ n) (λ rest. p.0 ∷ rest) (λ o e. omega (arith, e)) (orders n p.1) (orders_long n p.1)) (picks xs)

range_long : (from n : ℕ) → length (range_with_len from n) ≡ n
range_long from zero = refl
range_long from (suc n) = let rest = range_long (from + 1) n in omega (arith, rest)

tried_long : (b : Bool) (n : ℕ) → AllByRecursion (λ (o : List ℕ). length o ≡ n) (tried b n)
tried_long true n = orders_long n (range_with_len 0 n)
tried_long false n = (range_long 0 n, tt)

room_for : (gs : List Given) (es : List Tree) → length gs ≤ length es → HasRoom gs es
room_for [] es h = tt
room_for (g ∷ gs) [] h = absurd (omega (arith, h))
room_for (g ∷ gs) (e ∷ es) h = room_for gs es (omega (arith, h))

-- an order of a step's places
record IsOrderOf (n : ℕ) (s : BoundStep) (gs : List Given) : Type 0 where
  places : AllByRecursion (IsPlaceIn n) gs
  count : length gs ≡ length s.places

order_is : (n : ℕ) (s : BoundStep) (a : Assertion) → IsPlaced n s → (j : ℕ) (gs : List Given) → slice_get (orders_of s a) j ≡ Some gs → IsOrderOf n s gs
order_is n s a placed j gs e =
    let listed = tried (may_reorder s.places (length a.hyps)) (length s.places) in
    let told = slice_mapped (reordered s.places) listed j gs (ap (λ (xs : List (List Given)). slice_get xs j) (tried_orders s a) ∙ e) in
    let long = all_at (λ (o : List ℕ). length o ≡ length s.places) listed j told.source (tried_long (may_reorder s.places (length a.hyps)) (length s.places)) told.at in
    subst (IsOrderOf n s) told.is (record { places = reordered_inside n s.places told.source placed.places; count = length-map told.source _ ∙ long })

-- ---- variables that differ are apart

apart_from : (vars : List TypedVariable) → VariablesDiffer vars → AreApart vars
apart_from [] h = tt
apart_from (v ∷ vs) h = (
  λ c. let place = c.0 in
      let at : slice_get (v ∷ vs) (suc c.0) ≡ Some v = slice_get-get_or vs c.0 v c.1 ∙ ap (λ (w : TypedVariable). Some w) c.2 in
      let same : 0 ≡ suc c.0 = h 0 (suc c.0) v v refl at refl in
      absurd (omega (arith, same)),
  apart_from vs (λ j k v w a b e. let same = h (suc j) (suc k) v w a b e in omega (arith, same)),
)

variables_of : (n : ℕ) (vs : List TypedVariable) → map (λ (w : VariableNode). record { sym = w.sym; code = w.code }) (numbered n vs) ≡ vs
variables_of n [] = refl
variables_of n (v ∷ vs) = ap (λ (ws : List TypedVariable). v ∷ ws) (variables_of (n + 1) vs)

-- of variables that are apart each is found at its own node
numbered_has : (n : ℕ) (vs : List TypedVariable) (w : VariableNode) → Contains (numbered n vs) w → Contains vs (record { sym = w.sym; code = w.code }) × (n ≤ w.node)
numbered_has n [] w (k, l, e) = absurd (omega (arith, l))
numbered_has n (v ∷ vs) w (zero, l, e) = (
  (0, omega arith, ap (λ (x : VariableNode). record { sym = x.sym; code = x.code }) e),
  let node : n ≡ w.node =
      ap (λ (x : VariableNode). x.node) e in
      omega (arith, node),
)
numbered_has n (v ∷ vs) w (suc k, l, e) =
    let told = numbered_has (n + 1) vs w (k, omega (arith, l), e) in
    let more = told.1 in
    ((suc told.0.0, omega (arith, told.0.1), told.0.2), omega (arith, more))

own_by : (n : ℕ) (v : TypedVariable) (vs : List TypedVariable) (w : VariableNode) (b : Bool) → is_variable w.sym w.code (record { sym = v.sym; code = v.code; node = n }) ≡ b → (v ∷ vs ≡ v ∷ vs)
    → (b ≡ false → option_map (λ (x : VariableNode). x.node) (find (is_variable w.sym w.code) (numbered (n + 1) vs)) ≡ Some w.node) → (b ≡ true → n ≡ w.node)
    → option_map (λ (x : VariableNode). x.node) (cond b (Some (record { sym = v.sym; code = v.code; node = n })) (find (is_variable w.sym w.code) (numbered (n + 1) vs))) ≡ Some w.node
own_by n v vs w true e s rest here = ap (λ (k : ℕ). Some k) (here refl)
own_by n v vs w false e s rest here = rest refl

own_found : (n : ℕ) (vs : List TypedVariable) → AreApart vs → (w : VariableNode) → Contains (numbered n vs) w → variable_at (numbered n vs) w.sym w.code ≡ Some w.node
own_found n [] apart w (k, l, e) = absurd (omega (arith, l))
own_found n (v ∷ vs) apart w (zero, l, e) =
    let self : is_variable w.sym w.code (record { sym = v.sym; code = v.code; node = n }) ≡ true =
    subst (λ (x : VariableNode). is_variable x.sym x.code (record { sym = v.sym; code = v.code; node = n }) ≡ true) e
    (self_variable v.sym v.code n) in
    own_by n v vs w (is_variable w.sym w.code (record { sym = v.sym; code = v.code; node = n })) refl refl
    (λ no. let impossible : false ≡ true = sym no ∙ self in absurd (cc)) (λ yes. ap (λ (x : VariableNode). x.node) e)
own_found n (v ∷ vs) apart w (suc k, l, e) =
    let later : Contains (numbered (n + 1) vs) w = (k, omega (arith, l), e) in
    own_by n v vs w (is_variable w.sym w.code (record { sym = v.sym; code = v.code; node = n })) refl refl
    (λ no. own_found (n + 1) vs apart.1 w later)
    (λ yes. absurd (apart.0 (subst (Contains vs) (sym (same_variable w.sym w.code (record { sym = v.sym; code = v.code; node = n }) yes)) (numbered_has (n + 1) vs w later).0)))

-- ---- the next step

module _ (db : Database) (d : Opened) (book : IsBookOf db d) (facts : IsDatabase db)
    (whole : (b : Assertion) → db.usable b.label ≡ Some b → IsWhole b) (bound : Bound) (placed : ArePlaced bound)
    (ready_of : (x : Asked) → IsCandidate db bound x → IsReadyAsked db bound x)
    (works : List WorkNode) (formulas : List Id) (steps : List Pushed) (p : Pushed) (old new : Store) (level : IsLevel db d bound works formulas steps old.nodes old.links)
    (s : BoundStep) (at : slice_get bound.steps (length steps) ≡ Some s) (l : Label) (is : IsCandidateOf db d bound.place s l) where
  abbrev i : ℕ
  i = length steps

  abbrev a : Assertion
  a = is.assertion

  abbrev before : List Asked
  before = accepted_in (judgements_from d bound 0 steps)

  abbrev lay : Layout
  lay = level.layout

  usable_db : db.usable a.label ≡ Some a
  usable_db = book.usable a.label ∙ ap (usable_in d) is.label ∙ is.usable

  usable : IsUsable db a.label a
  usable = facts.usable a.label a usable_db

  is_step : s ≡ step_at bound i
  is_step = sym (get_or_from_slice_get bound.steps i s no_step at)

  own_placed : IsPlaced (length bound.steps) s
  own_placed = all_at (IsPlaced (length bound.steps)) bound.steps i s placed at

  candidate_of : (gs : List Given) → AllByRecursion (IsPlaceIn (length bound.steps)) gs → IsReadyAsked db bound (asked i a gs)
  candidate_of gs h =
      ready_of (asked i a gs)
      (record { step = slice_get_within bound.steps i s at; places = h; usable = usable_db; before = subst (λ (k : Label). position_of db k < bound.place) (sym is.label) is.before })

  own_ready : IsReadyAsked db bound (asked i a s.places)
  own_ready = candidate_of s.places own_placed.places

  sound : (j : ℕ) (gs : List Given) → slice_get (orders_of s a) j ≡ Some gs → IsSoundAsked bound (asked i a gs)
  sound j gs e = (candidate_of gs (order_is (length bound.steps) s a own_placed j gs e).places).sound

  room : (j : ℕ) (gs : List Given) → slice_get (orders_of s a) j ≡ Some gs → HasRoom gs a.hyps
  room j gs e = let count = (order_is (length bound.steps) s a own_placed j gs e).count in let fits = is.room in room_for gs a.hyps (omega (arith, count, fits))

  apart : AreApart a.vars
  apart = subst AreApart (sym usable.vars) (apart_from (typed_variables a.frame.hyps) (facts.frames a.label a.frame usable.frame).variables)

  own_fresh : (v : Sym) (c : Typecode) → IsUnknown bound before (copy i v c) → ⊥
  own_fresh = fresh db d bound works formulas steps p old.nodes old.links level

  abbrev roots' : Listed
  roots' =
      roots db bound before i s a lay formulas old new level.chained level.formula_nodes usable.vars apart own_fresh own_ready.sound.tree
      own_ready.sound.hyps own_ready.tree own_ready.hyps sound room

  abbrev lay'' : Layout
  lay'' = with_copies (length old.nodes) i a.vars lay

  module _ (r : Option (List ℕ)) (given : IsTaken d.rows a.frame.hyps a.tree a.hyps formulas (formula_at formulas i) s.places old new r) where
    taken : IsTaken db.rows a.frame.hyps a.tree a.hyps formulas (formula_at formulas i) s.places old new r
    taken = subst (λ (rows : List Production). IsTaken rows a.frame.hyps a.tree a.hyps formulas (formula_at formulas i) s.places old new r) (sym book.rows) given

    same_roots : roots_of db.rows old.nodes a.frame.hyps a.tree a.hyps ≡ roots'
    same_roots =
        roots_same db bound before i s a lay formulas old new level.chained level.formula_nodes usable.vars apart own_fresh own_ready.sound.tree
        own_ready.sound.hyps own_ready.tree own_ready.hyps sound room

    nodes_are : new.nodes ≡ roots'.nodes
    nodes_are = taken.nodes ∙ ap (λ (x : Listed). x.nodes) same_roots

    added_store : IsStore roots'.nodes old.links
    added_store = subst (λ (x : Listed). IsStore x.nodes old.links) same_roots taken.added_store

    added_solved : IsSolved roots'.nodes old.links
    added_solved = subst (λ (x : Listed). IsSolved x.nodes old.links) same_roots taken.added_solved

    new_store : IsStore roots'.nodes new.links
    new_store = subst (λ (ns : List Term). IsStore ns new.links) nodes_are taken.store

    new_solved : IsSolved roots'.nodes new.links
    new_solved = subst (λ (ns : List Term). IsSolved ns new.links) nodes_are taken.solved

    -- it is judged so
    is_judged : IsJudgement db bound before i s (standing db bound.place s) (judged i s a r)
    is_judged =
        subst (λ x. IsJudgement db bound before i s x (judged i s a r)) (sym is.standing)
        (taken_judged db bound before i s a lay formulas old new level.chained level.formula_nodes usable.vars apart own_fresh own_ready.sound.tree
        own_ready.sound.hyps own_ready.tree own_ready.hyps sound room
        added_store added_solved (formula_at formulas i) refl new.links new_store new_solved r taken refl)

  last_of : (r : Option (List ℕ)) → IsJudgement db bound before i s (standing db bound.place s) (judged i s a r) → (t : BoundStep)
      → slice_get bound.steps i ≡ Some t → IsJudgement db bound before i t (standing db bound.place t) (judged i s a r)
  last_of r h t e =
      let same : s ≡ t = let both : Some s ≡ Some t = sym at ∙ e in cc in
      subst (λ (u : BoundStep). IsJudgement db bound before i u (standing db bound.place u) (judged i s a r)) same h

  -- it fits in no order
  pub level_none : IsTakenAs d formulas (formula_at formulas i) s.places l a old new None → p.judged ≡ Stands verdict.NoFit → IsLevel db d bound works formulas (steps ++ p ∷ []) old.nodes old.links
  level_none h e = level_stands db d bound works formulas steps p old.nodes old.links level verdict.NoFit e (last_of None (is_judged None h.taken))

  -- it is accepted
  module _ (x : Accepted) (h : IsTakenAs d formulas (formula_at formulas i) s.places l a old new (Some x)) (e : p.judged ≡ Fits x) (more : List Term) (longer : new.nodes ≡ old.nodes ++ more) where
    order : Option (List ℕ)
    order = Some x.order

    own_usable : usable_in d x.label ≡ Some a
    own_usable = ap (usable_in d) h.kept.label ∙ is.usable

    own_asked : asked i a (reordered s.places x.order) ≡ asked_by bound i x a
    own_asked = ap (λ (t : BoundStep). asked i a (reordered t.places x.order)) is_step

    abbrev ns : List Term
    ns = roots'.nodes

    roots_are : ns ≡ old.nodes ++ more
    roots_are = sym (nodes_are (Some x.order) h.taken) ∙ longer

    chained_raw : IsChained db bound (before ++ asked i a (reordered s.places x.order) ∷ []) (before ++ asked i a (reordered s.places x.order) ∷ []) ns new.links lay''
    chained_raw =
        taken_chain db bound before i s a lay formulas old new level.chained level.formula_nodes usable.vars apart own_fresh own_ready.sound.tree
        own_ready.sound.hyps own_ready.tree own_ready.hyps sound room
        (added_store (Some x.order) h.taken) (added_solved (Some x.order) h.taken) (formula_at formulas i) refl new.links
        (new_store (Some x.order) h.taken) (new_solved (Some x.order) h.taken) x.order
        (own_tried db bound before i s a lay formulas old new level.chained level.formula_nodes usable.vars apart own_fresh own_ready.sound.tree
        own_ready.sound.hyps own_ready.tree own_ready.hyps sound room
        (added_store (Some x.order) h.taken) (added_solved (Some x.order) h.taken) (formula_at formulas i) refl new.links
        (new_store (Some x.order) h.taken) (new_solved (Some x.order) h.taken) (Some x.order) (taken (Some x.order) h.taken) refl)

    chained : IsChained db bound (before ++ asked_by bound i x a ∷ []) (before ++ asked_by bound i x a ∷ []) (old.nodes ++ more) new.links lay''
    chained =
        subst (λ (y : Asked). IsChained db bound (before ++ y ∷ []) (before ++ y ∷ []) (old.nodes ++ more) new.links lay'') own_asked
        (subst
        (λ (ks : List Term). IsChained db bound (before ++ asked i a (reordered s.places x.order) ∷ [])
        (before ++ asked i a (reordered s.places x.order) ∷ []) ks new.links lay'') roots_are chained_raw)

    formulas_now : AreFormulaNodes bound (old.nodes ++ more) lay'' (λ k. (formula_at formulas k).0)
    formulas_now =
        subst (λ (ks : List Term). AreFormulaNodes bound ks lay'' (λ k. (formula_at formulas k).0)) roots_are
        (ready_formulas db bound before i s a lay formulas old new level.chained level.formula_nodes usable.vars apart own_fresh own_ready.sound.tree
        own_ready.sound.hyps own_ready.tree own_ready.hyps sound room
        (added_store (Some x.order) h.taken) (added_solved (Some x.order) h.taken))

    same_node : (u : Unknown) → IsUnknown bound before u → lay''.node_of u ≡ lay.node_of u
    same_node = kept_node db bound before i a s.places old.nodes lay level.chained.laid_out apart own_fresh

    hyps_nodes : AllZip (IsInstanceNode ns lay'' i) a.hyps (map (λ (id : Id). id.0) roots'.roots)
    hyps_nodes =
        (ready_nodes db bound before i s a lay formulas old new level.chained level.formula_nodes usable.vars apart own_fresh own_ready.sound.tree
        own_ready.sound.hyps own_ready.tree own_ready.hyps sound room
        (added_store (Some x.order) h.taken) (added_solved (Some x.order) h.taken)).hyps

    hyps_are : x.hyps ≡ roots'.roots
    hyps_are =
        h.kept.hyps ∙ ap (λ (rows : List Production). (roots_of rows old.nodes a.frame.hyps a.tree a.hyps).roots) (sym book.rows)
        ∙ ap (λ (y : Listed). y.roots) (same_roots (Some x.order) h.taken)

    variables_are : x.variables ≡ numbered (length old.nodes) a.vars
    variables_are = h.kept.variables ∙ ap (numbered (length old.nodes)) (sym usable.vars)

    kept_now : AreKeptNodes (old.nodes ++ more) lay'' i x a
    kept_now = record {
      hyps = subst (λ (ids : List Id). AllZip (IsInstanceNode (old.nodes ++ more) lay'' i) a.hyps (map (λ (id : Id). id.0) ids)) (sym hyps_are)
          (subst (λ (ks : List Term). AllZip (IsInstanceNode ks lay'' i) a.hyps (map (λ (id : Id). id.0) roots'.roots)) roots_are hyps_nodes);
      copies = λ v o.
          ap (λ (vs : List VariableNode). variable_at vs v.sym v.code) variables_are ∙ (found (length old.nodes) a.vars v.sym v.code o).node
          ∙ ap (λ (k : ℕ). Some k) (sym (copied_is db bound before i a s.places old.nodes lay level.chained.laid_out apart own_fresh v.sym v.code o));
      found = λ w c.
          subst (λ (vs : List VariableNode). variable_at vs w.sym w.code ≡ Some w.node) (sym variables_are)
          (own_found (length old.nodes) a.vars apart w (subst (λ (vs : List VariableNode). Contains vs w) variables_are c));
      order = ap (map (λ (w : VariableNode). record { sym = w.sym; code = w.code })) variables_are ∙ variables_of (length old.nodes) a.vars;
    }

    judged_now : (t : BoundStep) → slice_get bound.steps i ≡ Some t → IsJudgement db bound before i t (standing db bound.place t) (accepted (asked_by bound i x a))
    judged_now t f = subst (λ (y : Asked). IsJudgement db bound before i t (standing db bound.place t) (accepted y)) own_asked (last_of (Some x.order) (is_judged (Some x.order) h.taken) t f)

    constants : HaveConstants (constants_in d.rows) (old.nodes ++ more)
    constants = subst (HaveConstants (constants_in d.rows)) (sym h.taken.nodes ∙ longer) (candidate_have d.rows old.nodes a.frame.hyps a.tree a.hyps level.constants)

    few : length (old.nodes ++ more) ≤ size_of_front db bound (length (steps ++ p ∷ []))
    few =
        let added = candidate_few d.rows old.nodes a usable.vars apart own_ready.sound.tree own_ready.sound.hyps (whole a usable_db).all_stand in
        let same : length (old.nodes ++ more) ≡ length (roots_of d.rows old.nodes a.frame.hyps a.tree a.hyps).nodes = ap length (sym longer ∙ h.taken.nodes) in
        let before_this = level.few in
        let next_size = front_more db bound i s at in
        let own_size : standing_size (standing db bound.place s) ≡ nodes a.tree + sum (map nodes a.hyps) = ap standing_size is.standing in
        let long = ap (size_of_front db bound) (length_push steps p) in
        omega (arith, added, same, before_this, next_size, own_size, long)

    pub level_accepted : IsLevel db d bound works formulas (steps ++ p ∷ []) new.nodes new.links
    level_accepted =
        subst (λ (ks : List Term). IsLevel db d bound works formulas (steps ++ p ∷ []) ks new.links) (sym longer)
        (level_fits db d bound works formulas steps p old.nodes old.links level more new.links lay'' x a e own_usable same_node refl chained formulas_now kept_now constants few judged_now)
