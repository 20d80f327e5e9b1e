-- What candidates ask, as pairs of trees in which each unknown is a leaf of its own.
use Rattle.std.specs.Prelude.{◌≡◌, ℕ, zero, suc, ◌<◌, List, [], ◌∷◌, ◌++◌, length, slice_index_or, Option, Some, None, Contains, refl}
use Rattle.std.specs.List.{AllByRecursion}
use Rattle.std.proofs.Common.{get_or, sym, ap, ◌∙◌, arith, inl, inr}
use Rattle.std.proofs.lemmas.List.Elements.{Contains-append_left, Contains-append_right}
use Rattle.mm_base.specs.declared.symbols.Typecode.{Typecode}
use Rattle.mm_base.specs.declared.tree.Tree.{Tree}
use Rattle.mm_base.specs.declared.tree.Tree.TheVariants.{Var, Work, Fresh}
use Rattle.mm_base.specs.Trees.{code_of}
use Rattle.mm_model.specs.Book.{Database}
use Rattle.mm_model.specs.Productions.{TypedVariable}
use Rattle.mm_model.specs.Typed.{IsTyped}
use Rattle.mm_model.proofs.TypedLaws.{code-Var, typed-Var}
use Rattle.sheet_text.specs.declared.sheet.Given.{Given}
use Rattle.sheet_text.specs.declared.sheet.Given.TheVariants as given
use Rattle.solve_model.specs.declared.bound.BoundStep.{BoundStep}
use Rattle.solve_model.specs.declared.bound.Bound.{Bound}
use Rattle.solve_model.specs.Trees.{Open, work, fresh, leaf_tree, open_code, open_leaves, Occurs}
use Rattle.solve_model.specs.Solutions.{Unknown, blank, copy, Valuation, IsValuation, IsUnknown, Asked, Solves, PlacesFit, Solvable, unknown_code}
use Rattle.solve_model.specs.Solutions.{open_value, formula_value, formula, instance, no_step}
use Rattle.solve_model.specs.MostGeneral.{Refinement, refine}
use Rattle.solve_model.proofs.TreeLaws.{replace-Var}
use Rattle.solve_laws.specs.ReplacedTypes.{IsTypedAs, KeepsTypes}
use Rattle.solve_laws.proofs.NoFresh.{no_fresh_leaf}
use Rattle.solve_laws.proofs.ReplaceLaws.{replace-replace, replace-agree}
use Rattle.solve_laws.proofs.ReplacedTypes.{code-Fresh, typed-Fresh, replaced_typed}
use Rattle.answer_laws.proofs.Elements.{all_by-append}
use Rattle.chain_laws.specs.Layout.{IsOver, IsSoundAsked, HasRoom, IsReadyFormula, IsReadyBound, IsReadyAsked}
use Rattle.chain_laws.proofs.Agreement.{over_agree, solve_same}
use Rattle.chain_laws.proofs.Listed.{unknowns, all_unknowns, only_unknowns, place_in, place_is}
use Rattle.writing_laws.specs.Decisions.{Decided}
use Rattle.writing_laws.proofs.Decide.{both_decided, decided_with, codes_decided, less_decided}
use Rattle.whole_laws.proofs.Bindings.{leaf_refined, leaf_typed, IsFine, refined_typed}
use Rattle.whole_laws.proofs.Unify.{Equation, Solved, HasSolver, AreReady, all_parts, solver_decided}

-- ---- a `$e` for each place

abbrev HaveRoom : List Asked → Type 0
HaveRoom xs = AllByRecursion (λ (x : Asked). HasRoom x.places x.assertion.hyps) xs

room_decided : (gs : List Given) (es : List Tree) → Decided (HasRoom gs es)
room_decided [] es = inl tt
room_decided (g ∷ gs) [] = inr (λ h. h)
room_decided (g ∷ gs) (e ∷ es) = room_decided gs es

rooms_decided : (xs : List Asked) → Decided (HaveRoom xs)
rooms_decided [] = inl tt
rooms_decided (x ∷ xs) = both_decided (room_decided x.places x.assertion.hyps) (rooms_decided xs)

module _ (bound : Bound) (v : Valuation) where
  room : (i : ℕ) (gs : List Given) (es : List Tree) → PlacesFit bound v i gs es → HasRoom gs es
  room i [] es f = tt
  room i (g ∷ gs) [] f = f
  room i (given.Gap ∷ gs) (e ∷ es) f = room i gs es f
  room i (given.Step k ∷ gs) (e ∷ es) f = room i gs es f.1

  rooms : (xs : List Asked) → AllByRecursion (Solves bound v) xs → HaveRoom xs
  rooms [] s = tt
  rooms (x ∷ xs) s = (room x.step x.places x.assertion.hyps s.0.places, rooms xs s.1)

-- ---- the open leaves of pairs

abbrev opens : List Equation → List Open
opens [] = []
opens (e ∷ es) = (open_leaves e.0 ++ open_leaves e.1) ++ opens es

module _ (db : Database) (bound : Bound) where
  abbrev AreTyped : List Equation → Type 0
  AreTyped es = AllByRecursion (λ (e : Equation). IsTyped db.rows bound.place e.0 × IsTyped db.rows bound.place e.1) es

  ready_in : (ys : List Open) (es : List Equation) → AreTyped es → ((x : Open) → Contains (opens es) x → Contains ys x) → AreReady db.rows bound.place ys es
  ready_in ys [] h w = tt
  ready_in ys (e ∷ es) h w =
      let left = open_leaves e.0 in
      let right = open_leaves e.1 in (
        (
          record { typed = h.0.0; within = λ x o. w x (Contains-append_left (left ++ right) (opens es) x (Contains-append_left left right x o)) },
          record { typed = h.0.1; within = λ x o. w x (Contains-append_left (left ++ right) (opens es) x (Contains-append_right left right x o)) },
        ),
        ready_in ys es h.1 (λ x o. w x (Contains-append_right (left ++ right) (opens es) x o)),
      )

  ready_at : (ss : List BoundStep) (i : ℕ) → AllByRecursion (λ (s : BoundStep). IsReadyFormula db bound.place s.tree) ss → IsReadyFormula db bound.place (slice_index_or ss i no_step).tree
  ready_at [] zero h = tt
  ready_at [] (suc i) h = tt
  ready_at (s ∷ ss) zero h = h.0
  ready_at (s ∷ ss) (suc i) h = ready_at ss i h.1

  -- ---- a leaf for each unknown

  module _ (us : List Unknown) where
    abbrev leaf_of : Valuation
    leaf_of u = Fresh (unknown_code db u) (place_in us u)

    abbrev valued : Refinement → Valuation
    valued r u = refine r (leaf_of u)

    abbrev place_equations : ℕ → List Given → List Tree → List Equation
    place_equations i [] es = []
    place_equations i (g ∷ gs) [] = []
    place_equations i (given.Gap ∷ gs) (e ∷ es) = place_equations i gs es
    place_equations i (given.Step k ∷ gs) (e ∷ es) = (instance leaf_of i e, formula bound leaf_of k) ∷ place_equations i gs es

    -- the pairs of a candidate: its conclusion and its step's formula, and those of its places
    abbrev equations_of : Asked → List Equation
    equations_of x = (instance leaf_of x.step x.assertion.tree, formula bound leaf_of x.step) ∷ place_equations x.step x.places x.assertion.hyps

    abbrev equations : List Asked → List Equation
    equations [] = []
    equations (x ∷ xs) = equations_of x ++ equations xs

    -- ---- they are typed

    instance_typed : (i : ℕ) (t : Tree) → IsTyped db.rows bound.place t → IsTyped db.rows bound.place (instance leaf_of i t)
    instance_typed i t h = (replaced_typed db.rows bound.place (λ s c. leaf_of (copy i s c)) leaf_tree keeps t h).typed
      where
        keeps : KeepsTypes db.rows bound.place (λ s c. leaf_of (copy i s c)) leaf_tree
        keeps = record {
          variables = λ s c. record { code = code-Fresh c _; typed = typed-Fresh db.rows bound.place c _ };
          open_leaves = λ x. leaf_typed db.rows bound.place x;
        }

    value_typed : (i : ℕ) (o : Option Tree) → IsReadyFormula db bound.place o → IsTyped db.rows bound.place (formula_value leaf_of i o)
    value_typed i None h = typed-Fresh db.rows bound.place (unknown_code db (blank i)) _
    value_typed i (Some t) h = (replaced_typed db.rows bound.place (λ s c. Var s c) (open_value leaf_of) keeps t h.1).typed
      where
        at_open : (x : Open) → IsTypedAs db.rows bound.place (open_code x) (open_value leaf_of x)
        at_open (work c n) = record { code = code-Fresh c _; typed = typed-Fresh db.rows bound.place c _ }
        at_open (fresh c n) = record { code = code-Fresh c n; typed = typed-Fresh db.rows bound.place c n }

        keeps : KeepsTypes db.rows bound.place (λ s c. Var s c) (open_value leaf_of)
        keeps = record { variables = λ s c. record { code = code-Var s c; typed = typed-Var db.rows bound.place s c }; open_leaves = at_open }

    module _ (ready : IsReadyBound db bound) where
      formula_typed : (i : ℕ) → IsTyped db.rows bound.place (formula bound leaf_of i)
      formula_typed i = value_typed i (slice_index_or bound.steps i no_step).tree (ready_at bound.steps i ready)

      places_typed : (i : ℕ) (gs : List Given) (es : List Tree) → AllByRecursion (IsTyped db.rows bound.place) es → AreTyped (place_equations i gs es)
      places_typed i [] es h = tt
      places_typed i (g ∷ gs) [] h = tt
      places_typed i (given.Gap ∷ gs) (e ∷ es) h = places_typed i gs es h.1
      places_typed i (given.Step k ∷ gs) (e ∷ es) h = ((instance_typed i e h.0, formula_typed k), places_typed i gs es h.1)

      equations_typed : (xs : List Asked) → AllByRecursion (IsReadyAsked db bound) xs → AreTyped (equations xs)
      equations_typed [] h = tt
      equations_typed (x ∷ xs) h =
          all_by-append (λ (e : Equation). IsTyped db.rows bound.place e.0 × IsTyped db.rows bound.place e.1) (equations_of x) (equations xs)
          ((instance_typed x.step x.assertion.tree h.0.tree, formula_typed x.step), places_typed x.step x.places x.assertion.hyps h.0.hyps) (equations_typed xs h.1)

      -- ---- what a refinement of the leaves solves

      module _ (r : Refinement) where
        instance_valued : (i : ℕ) (vars : List TypedVariable) (t : Tree) → IsOver vars t → refine r (instance leaf_of i t) ≡ instance (valued r) i t
        instance_valued i vars t o =
            replace-replace (λ s c. Var s c) (λ s c. leaf_of (copy i s c)) r leaf_tree t
            ∙ over_agree vars (λ s c. valued r (copy i s c)) (λ s c. valued r (copy i s c)) (λ x. refine r (leaf_tree x)) leaf_tree (λ s c is. refl) t o

        open_valued : (t : Tree) → IsReadyFormula db bound.place (Some t) → (x : Open) → Occurs x t → refine r (open_value leaf_of x) ≡ open_value (valued r) x
        open_valued t h (work c n) o = refl
        open_valued t h (fresh c n) o = absurd (no_fresh_leaf c n t h.2 o)

        value_valued : (i : ℕ) (o : Option Tree) → IsReadyFormula db bound.place o → refine r (formula_value leaf_of i o) ≡ formula_value (valued r) i o
        value_valued i None h = refl
        value_valued i (Some t) h =
            replace-replace (λ s c. Var s c) (λ s c. Var s c) r (open_value leaf_of) t
            ∙ replace-agree (λ s c. refine r (Var s c)) (λ s c. Var s c) (λ x. refine r (open_value leaf_of x)) (open_value (valued r)) (λ s c. replace-Var (λ s c. Var s c) r s c) t (open_valued t h)

        formula_valued : (i : ℕ) → refine r (formula bound leaf_of i) ≡ formula bound (valued r) i
        formula_valued i = value_valued i (slice_index_or bound.steps i no_step).tree (ready_at bound.steps i ready)

        places_solved : (i : ℕ) (vars : List TypedVariable) (gs : List Given) (es : List Tree) → AllByRecursion (IsOver vars) es
            → PlacesFit bound (valued r) i gs es → Solved r (place_equations i gs es)
        places_solved i vars [] es o f = tt
        places_solved i vars (g ∷ gs) [] o f = tt
        places_solved i vars (given.Gap ∷ gs) (e ∷ es) o f = places_solved i vars gs es o.1 f
        places_solved i vars (given.Step k ∷ gs) (e ∷ es) o f = (instance_valued i vars e o.0 ∙ f.0 ∙ sym (formula_valued k), places_solved i vars gs es o.1 f.1)

        places_fit : (i : ℕ) (vars : List TypedVariable) (gs : List Given) (es : List Tree) → HasRoom gs es → AllByRecursion (IsOver vars) es
            → Solved r (place_equations i gs es) → PlacesFit bound (valued r) i gs es
        places_fit i vars [] es h o s = tt
        places_fit i vars (g ∷ gs) [] h o s = h
        places_fit i vars (given.Gap ∷ gs) (e ∷ es) h o s = places_fit i vars gs es h o.1 s
        places_fit i vars (given.Step k ∷ gs) (e ∷ es) h o s = (sym (instance_valued i vars e o.0) ∙ s.0 ∙ formula_valued k, places_fit i vars gs es h o.1 s.1)

        abbrev IsOne : Equation → Type 0
        IsOne e = refine r e.0 ≡ refine r e.1

        all_solved : (xs : List Asked) → AllByRecursion (IsReadyAsked db bound) xs → AllByRecursion (Solves bound (valued r)) xs → Solved r (equations xs)
        all_solved [] h s = tt
        all_solved (x ∷ xs) h s =
            let sound = h.0.sound in
            all_by-append IsOne (equations_of x) (equations xs) (
              instance_valued x.step x.assertion.vars x.assertion.tree sound.tree ∙ s.0.conclusion ∙ sym (formula_valued x.step),
              places_solved x.step x.assertion.vars x.places x.assertion.hyps sound.hyps s.0.places,
            ) (all_solved xs h.1 s.1)

        all_solve : (xs : List Asked) → AllByRecursion (IsReadyAsked db bound) xs → HaveRoom xs → Solved r (equations xs) → AllByRecursion (Solves bound (valued r)) xs
        all_solve [] h g s = tt
        all_solve (x ∷ xs) h g s =
            let sound = h.0.sound in
            let parts = all_parts IsOne (equations_of x) (equations xs) s in (
              record {
                conclusion = sym (instance_valued x.step x.assertion.vars x.assertion.tree sound.tree) ∙ parts.0.0 ∙ formula_valued x.step;
                places = places_fit x.step x.assertion.vars x.places x.assertion.hyps g.0 sound.hyps parts.0.1;
              },
              all_solve xs h.1 g.1 parts.1,
            )

-- ---- the decision

module _ (db : Database) (bound : Bound) (asked : List Asked) (ready : IsReadyBound db bound) (asked_ready : AllByRecursion (IsReadyAsked db bound) asked) where
  abbrev us : List Unknown
  us = unknowns bound asked

  abbrev On : Unknown → Type 0
  On u = IsUnknown bound asked u

  abbrev asked_equations : List Equation
  asked_equations = equations db bound us asked

  all_sound : (xs : List Asked) → AllByRecursion (IsReadyAsked db bound) xs → AllByRecursion (IsSoundAsked bound) xs
  all_sound [] h = tt
  all_sound (x ∷ xs) h = (h.0.sound, all_sound xs h.1)

  -- what a valuation gives to the leaves
  module _ (v : Valuation) (valuation : IsValuation db bound.place On v) where
    abbrev at_place : ℕ → Unknown
    at_place k = get_or us k (blank 0)

    abbrev IsLeafOf : Typecode → ℕ → Type 0
    IsLeafOf c k = (k < length us) × (unknown_code db (at_place k) ≡ c)

    abbrev chosen : (c : Typecode) (k : ℕ) → Decided (IsLeafOf c k) → Tree
    chosen c k (inl p) = v (at_place k)
    chosen c k (inr n) = Fresh c k

    leaf_decided : (c : Typecode) (k : ℕ) → Decided (IsLeafOf c k)
    leaf_decided c k = both_decided (less_decided k (length us)) (codes_decided (unknown_code db (at_place k)) c)

    abbrev given_to : Refinement
    given_to (work c n) = Work c n
    given_to (fresh c k) = chosen c k (leaf_decided c k)

    element : (xs : List Unknown) (k : ℕ) → k < length xs → get_or xs k (get_or xs k (blank 0)) ≡ get_or xs k (blank 0)
    element [] k h = absurd (omega (arith, h))
    element (x ∷ xs) zero h = refl
    element (x ∷ xs) (suc k) h = element xs k (omega (arith, h))

    is_on : (k : ℕ) → k < length us → On (at_place k)
    is_on k h = only_unknowns bound asked (at_place k) (k, h, element us k h)

    chosen_fine : (c : Typecode) (k : ℕ) (d : Decided (IsLeafOf c k)) → IsTypedAs db.rows bound.place c (chosen c k d)
    chosen_fine c k (inl p) = record { code = valuation.code (at_place k) (is_on k p.0) ∙ p.1; typed = valuation.typed (at_place k) (is_on k p.0) }
    chosen_fine c k (inr n) = record { code = code-Fresh c k; typed = typed-Fresh db.rows bound.place c k }

    given_fine : IsFine db.rows bound.place given_to
    given_fine (work c n) = leaf_typed db.rows bound.place (work c n)
    given_fine (fresh c k) = chosen_fine c k (leaf_decided c k)

    chosen_is : (u : Unknown) → On u → (d : Decided (IsLeafOf (unknown_code db u) (place_in us u))) → chosen (unknown_code db u) (place_in us u) d ≡ v u
    chosen_is u on (inl p) = ap v (place_is (blank 0) us u (all_unknowns bound asked u on)).1
    chosen_is u on (inr n) = let p = place_is (blank 0) us u (all_unknowns bound asked u on) in absurd (n (p.0, ap (unknown_code db) p.1))

    value_is : (u : Unknown) → On u → valued db bound us given_to u ≡ v u
    value_is u on =
        leaf_refined given_to (fresh (unknown_code db u) (place_in us u)) ∙ chosen_is u on (leaf_decided (unknown_code db u) (place_in us u))

    has_solver : AllByRecursion (Solves bound v) asked → HasSolver db.rows bound.place asked_equations
    has_solver s = record {
      by = given_to;
      fine = given_fine;
      solved = all_solved db bound us ready given_to asked asked_ready
          (solve_same bound asked v (valued db bound us given_to) (λ u on. sym (value_is u on)) asked (λ x h. h) (all_sound asked asked_ready) s);
    }

  -- what a refinement of the leaves gives to the unknowns
  is_solvable : HaveRoom asked → HasSolver db.rows bound.place asked_equations → Solvable db bound asked
  is_solvable g h = record {
    value = valued db bound us h.by;
    is_valuation = record {
      code = λ u on. (typed_as u).code ∙ code-Fresh (unknown_code db u) (place_in us u);
      typed = λ u on. (typed_as u).typed;
    };
    solves = all_solve db bound us ready h.by asked asked_ready g h.solved;
  }
    where
      typed_as : (u : Unknown) → IsTypedAs db.rows bound.place (code_of (leaf_of db bound us u)) (refine h.by (leaf_of db bound us u))
      typed_as u = refined_typed db.rows bound.place h.by h.fine (leaf_of db bound us u) (typed-Fresh db.rows bound.place (unknown_code db u) (place_in us u))

  pub solvable_decided : Decided (Solvable db bound asked)
  solvable_decided = elim (rooms_decided asked) [
    | inr n ↦ inr (λ (s : Solvable db bound asked). n (rooms bound s.value asked s.solves))
    | inl g ↦ decided_with (is_solvable g) (λ (s : Solvable db bound asked). has_solver s.value s.is_valuation s.solves)
        (solver_decided db.rows bound.place (opens asked_equations) asked_equations
        (ready_in db bound (opens asked_equations) asked_equations (equations_typed db bound us ready asked asked_ready) (λ x o. o)))
  ]
