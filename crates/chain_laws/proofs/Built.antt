-- A store for a worksheet and some candidates exists, and with it a most general valuation.
use Rattle.std.specs.Prelude.{◌≡◌, ℕ, ◌<◌, ◌≤◌, ◌+◌, List, [], ◌∷◌, ◌++◌, length, map, slice_get, slice_index_or, Option, Some, None, Contains, refl}
use Rattle.std.specs.List.{AllByRecursion, AllZip}
use Rattle.std.proofs.Common.{zero, suc, get_or, sym, ap, subst, ◌∙◌, arith, inl, inr}
use Rattle.std.proofs.lemmas.Bool.{cases_lt}
use Rattle.std.proofs.lemmas.List.{append_assoc, get_or-map, length-map, length-append}
use Rattle.std.proofs.lemmas.List.Elements.{Contains-append_left, Contains-append_right}
use Rattle.std.proofs.lemmas.Option.{slice_get-get_or}
use Rattle.mm_base.specs.declared.symbols.Typecode.{Typecode}
use Rattle.mm_base.specs.declared.tree.Tree.{Tree}
use Rattle.mm_base.specs.declared.tree.Tree.TheVariants as tree
use Rattle.mm_base.specs.Trees.{Each, code_of}
use Rattle.mm_base.proofs.TreeFacts.{node_held}
use Rattle.mm_model.specs.Book.{Database}
use Rattle.mm_model.specs.Typed.{IsTyped}
use Rattle.solve_model.specs.declared.bound.BoundStep.{BoundStep}
use Rattle.solve_model.specs.declared.bound.Bound.{Bound}
use Rattle.sheet_text.specs.declared.sheet.Given.{Given}
use Rattle.sheet_text.specs.declared.sheet.Given.TheVariants as given
use Rattle.solve_model.specs.Trees.{Open, work, fresh, leaf_tree, open_leaves, flatten, Occurs}
use Rattle.solve_model.specs.Solutions.{Unknown, named, blank, copy, Valuation, IsUnknown, in_formula, is_blank, in_frame, Asked, Solves, PlacesFit}
use Rattle.solve_model.specs.Solutions.{Solvable, unknown_code, formula_value, instance, open_value, no_step}
use Rattle.solve_model.specs.MostGeneral.{IsTheValuation}
use Rattle.solve_model.proofs.TreeLaws.{open_leaves-Fresh, open_leaves-Work, open_leaves-Node}
use Rattle.solve_laws.proofs.NoFresh.{no_fresh_leaf}
use Rattle.term_model.specs.declared.shape.Id.{Id}
use Rattle.term_model.specs.Terms.{Term, Free, Node, term_at, term_code, children_of}
use Rattle.term_model.specs.Store.{tree_at, Solution, IsStore}
use Rattle.term_model.proofs.CycleLaws.{start_solution}
use Rattle.term_model.proofs.ClosureLaws.{agrees_refl}
use Rattle.chain_laws.specs.declared.leaves.WorkNode.{WorkNode}
use Rattle.written_model.specs.Existence.{IsPlaceIn}
use Rattle.chain_laws.specs.Layout.{Layout, HasNode, IsLaidOut, work_node, valuation_of, IsOver, IsSoundAsked, IsChained, Fit, IsFormulaNode}
use Rattle.chain_laws.specs.Layout.{IsInstanceNode, AreFormulaNodes, AreCandidateNodes, place_pairs, candidate_pairs, NodePair, AreJoined, HasRoom}
use Rattle.chain_laws.specs.Layout.{IsReadyFormula, IsReadyBound, IsReadyAsked}
use Rattle.chain_laws.proofs.LeastLeaves.{first, later, nothing}
use Rattle.chain_laws.proofs.Listed.{unknowns, all_unknowns, only_unknowns, once_each, OnceEach, place_in, place_is, place_back, parted}
use Rattle.chain_laws.proofs.Grown.{Grown, Made, add_tree, standing_node, new_variable, term_front, fit_back, within_front}
use Rattle.chain_laws.proofs.Candidates.{fit_of, solves_told, joined_solves}
use Rattle.chain_laws.proofs.Chained.{solution_of, is_the_valuation, the_value}
use Rattle.chain_laws.proofs.Closing.{IsJoined, all_are_joined}
use Rattle.chain_laws.proofs.Agreement.{over_Var, over_Fresh, over_Work, solve_same}

-- ---- the nodes of the unknowns

module _ (db : Database) (bound : Bound) (asked : List Asked) (once : OnceEach (unknowns bound asked)) where
  abbrev pub On : Unknown → Type 0
  On u = IsUnknown bound asked u

  abbrev pub listed : List Unknown
  listed = once.list

  pub listed_all : (u : Unknown) → On u → Contains listed u
  listed_all u on = once.all u (all_unknowns bound asked u on)

  pub listed_only : (u : Unknown) → Contains listed u → On u
  listed_only u h = only_unknowns bound asked u (once.only u h)

  abbrev pub free_node : Unknown → Term
  free_node u = Free (unknown_code db u)

  abbrev pub base : List Term
  base = map free_node listed

  abbrev pub works_of : List Unknown → List WorkNode
  works_of [] = []
  works_of (named c n ∷ us) = record { code = c; number = n; node = place_in listed (named c n) } ∷ works_of us
  works_of (blank i ∷ us) = works_of us
  works_of (copy i s c ∷ us) = works_of us

  abbrev pub lay : Layout
  lay = record { node_of = place_in listed; unknown_at = λ i. get_or listed i (blank 0); works = works_of listed }

  all_works : (us : List Unknown) (c : Typecode) (n : ℕ) → Contains us (named c n) → Contains (works_of us) (work_node lay c n)
  all_works [] c n h = absurd (nothing (named c n) h)
  all_works (named d m ∷ us) c n h = elim (parted (named c n) (named d m) us h) [
    | inl e ↦
        let c' : d ≡ c = cc in
        let n' : m ≡ n = cc in
        let same : work_node lay d m ≡ work_node lay c n = cc in
        (0, omega arith, same)
    | inr rest ↦ later (work_node lay c n) (work_node lay d m) (works_of us) (all_works us c n rest)
  ]
  all_works (blank i ∷ us) c n h = elim (parted (named c n) (blank i) us h) [ inl e ↦ absurd (cc) | inr rest ↦ all_works us c n rest ]
  all_works (copy i s d ∷ us) c n h = elim (parted (named c n) (copy i s d) us h) [ inl e ↦ absurd (cc) | inr rest ↦ all_works us c n rest ]

  record Told (us : List Unknown) (w : WorkNode) : Type 0 where
    occurs : Contains us (named w.code w.number)
    node : place_in listed (named w.code w.number) ≡ w.node

  only_works : (us : List Unknown) (w : WorkNode) → Contains (works_of us) w → Told us w
  only_works [] w h = absurd (nothing w h)
  only_works (named d m ∷ us) w h = elim (parted w (work_node lay d m) (works_of us) h) [
    | inl e ↦ subst (Told (named d m ∷ us)) e (record { occurs = first (named d m) us; node = refl })
    | inr rest ↦ let told = only_works us w rest in record { occurs = later (named w.code w.number) (named d m) us told.occurs; node = told.node }
  ]
  only_works (blank i ∷ us) w h = let told = only_works us w h in record { occurs = later (named w.code w.number) (blank i) us told.occurs; node = told.node }
  only_works (copy i s d ∷ us) w h = let told = only_works us w h in record { occurs = later (named w.code w.number) (copy i s d) us told.occurs; node = told.node }

  base_at : (i : ℕ) → i < length listed → term_at base i ≡ free_node (get_or listed i (blank 0))
  base_at i h = get_or-map free_node listed i (blank 0) _ h

  base_length : length base ≡ length listed
  base_length = length-map listed free_node

  abbrev pub Grows : List Term → Type 0
  Grows nodes = Grown db.rows bound.place base nodes

  module _ (nodes : List Term) (g : Grows nodes) where
    old_term : (i : ℕ) → i < length listed → term_at nodes i ≡ free_node (get_or listed i (blank 0))
    old_term i h =
        ap (λ (ns : List Term). term_at ns i) g.extends ∙ term_front base g.added i (omega (arith, h, base_length)) ∙ base_at i h

    longer : length listed ≤ length nodes
    longer = let same : length nodes ≡ length (base ++ g.added) = ap length g.extends in omega (arith, same, length-append base g.added, base_length)

    pub node_of : (u : Unknown) → On u → HasNode db nodes lay u
    node_of u on =
        let at = place_is (blank 0) listed u (listed_all u on) in
        record { within = omega (arith, at.0, longer); free = old_term (place_in listed u) at.0 ∙ ap free_node at.1; own = at.1 }

    pub laid_out : IsLaidOut db bound.place On nodes lay
    laid_out = record {
      unknowns = node_of;
      free = λ i c h is. elim (cases_lt i (length listed)) [
        | inl old ↦ record { is_unknown = listed_only (get_or listed i (blank 0)) (i, old, element listed i old); node = place_back (blank 0) listed i once.distinct old }
        | inr new ↦ absurd (g.not_free i c (omega (arith, new, base_length)) h is)
      ];
      typed = g.typed;
      works = λ w h. let told = only_works listed w h in record { is_unknown = listed_only (named w.code w.number) told.occurs; node = told.node };
      all_works = λ c n on. all_works listed c n (listed_all (named c n) on);
    }
      where
        element : (xs : List Unknown) (k : ℕ) → k < length xs → get_or xs k (get_or xs k (blank 0)) ≡ get_or xs k (blank 0)
        element [] k h = absurd (omega (arith, h))
        element (x ∷ xs) zero h = refl
        element (x ∷ xs) (suc k) h = element xs k (omega (arith, h))

    pub bare : IsStore nodes []
    bare = record { children = g.children; in_order = tt; codes = tt }

  pub grown_base : Grows base
  grown_base = record {
    added = [];
    extends = sym (none base);
    children = λ i h. subst (λ (x : Term). AllByRecursion (λ (id : Id). id.0 < i) (children_of x)) (sym (base_at i (omega (arith, h, base_length)))) tt;
    not_free = λ i c from h is. omega (arith, from, h);
    typed = λ i l c k kids h is. let impossible : Free (unknown_code db (get_or listed i (blank 0))) ≡ Node l c k kids = sym (base_at i (omega (arith, h, base_length))) ∙ is in absurd (cc);
  }
    where
      none : (ns : List Term) → ns ++ [] ≡ ns
      none [] = refl
      none (n ∷ ns) = ap (λ (rest : List Term). n ∷ rest) (none ns)

  -- the node of an unknown
  abbrev MadeOf : List Term → Typecode → (List Tree → Tree) → Type 0
  MadeOf nodes c f = Made db.rows bound.place base nodes c f

  unknown_node : (u : Unknown) → On u → (nodes : List Term) → Grows nodes → MadeOf nodes (unknown_code db u) (λ us. valuation_of lay us u)
  unknown_node u on nodes g =
      let h = node_of nodes g u on in
      standing_node db.rows bound.place base nodes (unknown_code db u) (λ us. valuation_of lay us u) g (place_in listed u) h.within (ap term_code h.free) (λ us f. refl)

  -- ---- formulas

  abbrev pub OpenOk : Open → Type 0
  OpenOk (work c n) = On (named c n)
  OpenOk (fresh c n) = ⊥

  abbrev pub FormulaOk : Tree → Type 0
  FormulaOk t = (x : Open) → Occurs x t → OpenOk x

  pub leaf_occurs_fresh : (c : Typecode) (n : ℕ) → Occurs (fresh c n) (tree.Fresh c n)
  leaf_occurs_fresh c n = subst (λ (xs : List Open). Contains xs (fresh c n)) (sym (open_leaves-Fresh c n)) (first (fresh c n) [])

  pub leaf_occurs_work : (c : Typecode) (n : ℕ) → Occurs (work c n) (tree.Work c n)
  leaf_occurs_work c n = subst (λ (xs : List Open). Contains xs (work c n)) (sym (open_leaves-Work c n)) (first (work c n) [])

  pub each_ok : (ts : List Tree) → ((x : Open) → Contains (flatten (map open_leaves ts)) x → OpenOk x) → Each FormulaOk ts
  each_ok [] h = tt
  each_ok (t ∷ ts) h = (
    λ x o. h x (Contains-append_left (open_leaves t) (flatten (map open_leaves ts)) x o),
    each_ok ts (λ x o. h x (Contains-append_right (open_leaves t) (flatten (map open_leaves ts)) x o)),
  )

  formula_node : (t : Tree) → FormulaOk t → IsTyped db.rows bound.place t → (nodes : List Term) → Grows nodes → MadeOf nodes (code_of t) (λ us. formula_value (valuation_of lay us) 0 (Some t))
  formula_node t ok ty nodes g =
      add_tree db.rows bound.place base (λ us s c. tree.Var s c) (λ us x. open_value (valuation_of lay us) x) FormulaOk
      (λ c n h. h (fresh c n) (leaf_occurs_fresh c n))
      (λ l c ts h. each_ok ts (λ x o. h x (subst (λ (xs : List Open). Contains xs x) (sym (open_leaves-Node l c ts)) o)))
      (λ s c h ns g'. new_variable db.rows bound.place base ns s c g')
      (λ c n h ns g'. unknown_node (named c n) (h (work c n) (leaf_occurs_work c n)) ns g')
      t ok ty nodes g

  record Formula (nodes : List Term) (i : ℕ) (o : Option Tree) : Type 0 where
    next : List Term
    more : List Term
    extends : next ≡ nodes ++ more
    grown : Grows next
    root : ℕ
    within : root < length next
    means : (us : List Tree) → Fit next us → tree_at us root ≡ formula_value (valuation_of lay us) i o

  formula_of : (i : ℕ) (s : BoundStep) (o : Option Tree) → slice_get bound.steps i ≡ Some s → s.tree ≡ o → IsReadyFormula db bound.place o → (nodes : List Term) → Grows nodes → Formula nodes i o
  formula_of i s None at is ready nodes g =
      let m = unknown_node (blank i) (is_blank s at is) nodes g in
      record { next = m.next; more = m.more; extends = m.extends; grown = m.grown; root = m.root; within = m.within; means = m.means }
  formula_of i s (Some t) at is ready nodes g =
      let m = formula_node t ok ready.1 nodes g in
      record { next = m.next; more = m.more; extends = m.extends; grown = m.grown; root = m.root; within = m.within; means = m.means }
    where
      ok : FormulaOk t
      ok (work c n) o = in_formula i s t at is o
      ok (fresh c n) o = no_fresh_leaf c n t ready.2 o

  record Formulas (nodes : List Term) (k : ℕ) (ss : List BoundStep) : Type 0 where
    next : List Term
    more : List Term
    extends : next ≡ nodes ++ more
    grown : Grows next
    roots : List ℕ
    each : (i : ℕ) (s : BoundStep) → slice_get ss i ≡ Some s
        → (get_or roots i 0 < length next)
        × ((us : List Tree) → Fit next us → tree_at us (get_or roots i 0) ≡ formula_value (valuation_of lay us) (k + i) s.tree)

  append_none : (ns : List Term) → ns ++ [] ≡ ns
  append_none [] = refl
  append_none (n ∷ ns) = ap (λ (rest : List Term). n ∷ rest) (append_none ns)

  formulas_of : (k : ℕ) (ss : List BoundStep) → ((i : ℕ) (s : BoundStep) → slice_get ss i ≡ Some s → slice_get bound.steps (k + i) ≡ Some s)
      → AllByRecursion (λ (s : BoundStep). IsReadyFormula db bound.place s.tree) ss → (nodes : List Term) → Grows nodes → Formulas nodes k ss
  formulas_of k [] at ready nodes g =
      record {
        next = nodes;
        more = [];
        extends = sym (append_none nodes);
        grown = g;
        roots = [];
        each = λ i s e. let impossible : ◌≡◌ {A = Option BoundStep} None (Some s) = e in
            absurd (cc);
      }
  formulas_of k (t ∷ ss) at ready nodes g =
      let zero_is : k + 0 ≡ k = omega arith in
      let one = formula_of k t t.tree (subst (λ (j : ℕ). slice_get bound.steps j ≡ Some t) zero_is (at 0 t refl)) refl ready.0 nodes g in
      let rest =
      formulas_of (k + 1) ss
      (λ i s e. let next_is : k + suc i ≡ k + 1 + i = omega arith in
      subst (λ (j : ℕ). slice_get bound.steps j ≡ Some s) next_is (at (suc i) s e)) ready.1 one.next one.grown in
      record {
        next = rest.next;
        more = one.more ++ rest.more;
        extends = rest.extends ∙ ap (λ (ns : List Term). ns ++ rest.more) one.extends ∙ append_assoc nodes one.more rest.more;
        grown = rest.grown;
        roots = one.root ∷ rest.roots;
        each = both one.next rest.next rest.more one.root rest.roots rest.extends one.within one.means rest.each;
      }
    where
      both : (mid next more : List Term) (root : ℕ) (roots : List ℕ) → next ≡ mid ++ more → root < length mid
          → ((us : List Tree) → Fit mid us → tree_at us root ≡ formula_value (valuation_of lay us) k t.tree)
          → ((i : ℕ) (s : BoundStep) → slice_get ss i ≡ Some s
          → (get_or roots i 0 < length next)
          × ((us : List Tree) → Fit next us → tree_at us (get_or roots i 0) ≡ formula_value (valuation_of lay us) (k + 1 + i) s.tree))
          → (i : ℕ) (s : BoundStep) → slice_get (t ∷ ss) i ≡ Some s
          → (get_or (root ∷ roots) i 0 < length next)
          × ((us : List Tree) → Fit next us → tree_at us (get_or (root ∷ roots) i 0) ≡ formula_value (valuation_of lay us) (k + i) s.tree)
      both mid next more root roots e within means each zero s is =
          let same : t ≡ s = cc in
          let number : k ≡ k + 0 = omega arith in (
            within_front db.rows bound.place base mid more next root e within,
            λ us f. means us (fit_back db.rows bound.place base mid more next us e f)
                ∙ ap (λ (j : ℕ). formula_value (valuation_of lay us) j t.tree) number
                ∙ ap (λ (x : BoundStep). formula_value (valuation_of lay us) (k + 0) x.tree) same,
          )
      both mid next more root roots e within means each (suc i) s is =
          let told = each i s is in
          let number : k + 1 + i ≡ k + suc i = omega arith in
          (told.0, λ us f. told.1 us f ∙ ap (λ (j : ℕ). formula_value (valuation_of lay us) j s.tree) number)

  -- ---- candidates

  formula_grows : (nodes more next : List Term) (i j : ℕ) → next ≡ nodes ++ more → IsFormulaNode bound nodes lay i j → IsFormulaNode bound next lay i j
  formula_grows nodes more next i j e h =
      record {
        within = within_front db.rows bound.place base nodes more next j e h.within;
        is_formula = λ us f. h.is_formula us (fit_back db.rows bound.place base nodes more next us e f);
      }

  instance_grows : (nodes more next : List Term) (i : ℕ) (t : Tree) (j : ℕ) → next ≡ nodes ++ more → IsInstanceNode nodes lay i t j → IsInstanceNode next lay i t j
  instance_grows nodes more next i t j e h =
      record {
        within = within_front db.rows bound.place base nodes more next j e h.within;
        is_instance = λ us f. h.is_instance us (fit_back db.rows bound.place base nodes more next us e f);
      }

  instance_node : (x : Asked) → Contains asked x → (t : Tree) → IsOver x.assertion.vars t → IsTyped db.rows bound.place t → (nodes : List Term)
      → Grows nodes → MadeOf nodes (code_of t) (λ us. instance (valuation_of lay us) x.step t)
  instance_node x is_asked t over ty nodes g =
      add_tree db.rows bound.place base (λ us s c. valuation_of lay us (copy x.step s c)) (λ us. leaf_tree) (IsOver x.assertion.vars)
      (over_Fresh x.assertion.vars) (λ l c ts h. node_held _ l c ts h)
      (λ s c h ns g'. unknown_node (copy x.step s c) (in_frame x (record { sym = s; code = c }) is_asked (over_Var x.assertion.vars s c h)) ns g')
      (λ c n h ns g'. absurd (over_Work x.assertion.vars c n h))
      t over ty nodes g

  record Instances (nodes : List Term) (i : ℕ) (ts : List Tree) : Type 0 where
    next : List Term
    more : List Term
    extends : next ≡ nodes ++ more
    grown : Grows next
    roots : List ℕ
    each : AllZip (IsInstanceNode next lay i) ts roots

  instances_of : (x : Asked) → Contains asked x → (ts : List Tree) → AllByRecursion (IsOver x.assertion.vars) ts
      → AllByRecursion (IsTyped db.rows bound.place) ts → (nodes : List Term) → Grows nodes → Instances nodes x.step ts
  instances_of x is_asked [] over ty nodes g = record { next = nodes; more = []; extends = sym (append_none nodes); grown = g; roots = []; each = tt }
  instances_of x is_asked (t ∷ ts) over ty nodes g =
      let one = instance_node x is_asked t over.0 ty.0 nodes g in
      let rest = instances_of x is_asked ts over.1 ty.1 one.next one.grown in
      let here : IsInstanceNode one.next lay x.step t one.root = record { within = one.within; is_instance = one.means } in
      record {
        next = rest.next;
        more = one.more ++ rest.more;
        extends = rest.extends ∙ ap (λ (ns : List Term). ns ++ rest.more) one.extends ∙ append_assoc nodes one.more rest.more;
        grown = rest.grown;
        roots = one.root ∷ rest.roots;
        each = (instance_grows one.next rest.more rest.next x.step t one.root rest.extends here, rest.each);
      }

  -- the pairs that some candidates join
  record Paired (nodes : List Term) (formulas : ℕ → ℕ) (xs : List Asked) : Type 0 where
    next : List Term
    more : List Term
    extends : next ≡ nodes ++ more
    grown : Grows next
    pairs : List NodePair
    inside : AllByRecursion (λ (p : NodePair). (p.0 < length next) × (p.1 < length next)) pairs
    told : (us : List Tree) → Fit next us → AllByRecursion (Solves bound (valuation_of lay us)) xs → AreJoined us pairs
    solve : (us : List Tree) → Fit next us → AllByRecursion (λ (x : Asked). HasRoom x.places x.assertion.hyps) xs → AreJoined us pairs → AllByRecursion (Solves bound (valuation_of lay us)) xs

  all_both : {X : Type 0} (P : X → Type 0) (xs ys : List X) → AllByRecursion P xs → AllByRecursion P ys → AllByRecursion P (xs ++ ys)
  all_both P [] ys h g = g
  all_both P (x ∷ xs) ys h g = (h.0, all_both P xs ys h.1 g)

  all_split : {X : Type 0} (P : X → Type 0) (xs ys : List X) → AllByRecursion P (xs ++ ys) → AllByRecursion P xs × AllByRecursion P ys
  all_split P [] ys h = (tt, h)
  all_split P (x ∷ xs) ys h = let rest = all_split P xs ys h.1 in ((h.0, rest.0), rest.1)

  abbrev IsPairIn : List Term → NodePair → Type 0
  IsPairIn nodes p = (p.0 < length nodes) × (p.1 < length nodes)

  pairs_grow : (nodes more next : List Term) (ps : List NodePair) → next ≡ nodes ++ more → AllByRecursion (IsPairIn nodes) ps → AllByRecursion (IsPairIn next) ps
  pairs_grow nodes more next [] e h = tt
  pairs_grow nodes more next (p ∷ ps) e h = (
    (within_front db.rows bound.place base nodes more next p.0 e h.0.0, within_front db.rows bound.place base nodes more next p.1 e h.0.1),
    pairs_grow nodes more next ps e h.1,
  )

  places_inside : (nodes : List Term) (formulas : ℕ → ℕ) (i : ℕ) → AreFormulaNodes bound nodes lay formulas
      → (gs : List Given) (es : List Tree) (hs : List ℕ) → AllByRecursion (IsPlaceIn (length bound.steps)) gs
      → AllZip (IsInstanceNode nodes lay i) es hs → AllByRecursion (IsPairIn nodes) (place_pairs formulas gs hs)
  places_inside nodes formulas i are [] es hs h z = tt
  places_inside nodes formulas i are (g ∷ gs) es [] h z = tt
  places_inside nodes formulas i are (g ∷ gs) [] (x ∷ hs) h z = absurd z
  places_inside nodes formulas i are (given.Gap ∷ gs) (e ∷ es) (x ∷ hs) h z = places_inside nodes formulas i are gs es hs h.1 z.1
  places_inside nodes formulas i are (given.Step k ∷ gs) (e ∷ es) (x ∷ hs) h z = ((z.0.within, (are k h.0).within), places_inside nodes formulas i are gs es hs h.1 z.1)

  paired : (formulas : ℕ → ℕ) (xs : List Asked) → ((x : Asked) → Contains xs x → Contains asked x) → AllByRecursion (IsReadyAsked db bound) xs
      → (nodes : List Term) → Grows nodes → AreFormulaNodes bound nodes lay formulas → Paired nodes formulas xs
  paired formulas [] among ready nodes g are = record { next = nodes; more = []; extends = sym (append_none nodes); grown = g; pairs = []; inside = tt; told = λ us f s. tt; solve = λ us f r j. tt }
  paired formulas (x ∷ xs) among ready nodes g are =
      let is_asked = among x (first x xs) in
      let root = instance_node x is_asked x.assertion.tree ready.0.sound.tree ready.0.tree nodes g in
      let hyps = instances_of x is_asked x.assertion.hyps ready.0.sound.hyps ready.0.hyps root.next root.grown in
      let here : IsInstanceNode root.next lay x.step x.assertion.tree root.root = record { within = root.within; is_instance = root.means } in
      let whole : hyps.next ≡ nodes ++ (root.more ++ hyps.more) = hyps.extends ∙ ap (λ (ns : List Term). ns ++ hyps.more) root.extends ∙ append_assoc nodes root.more hyps.more in
      let are' : AreFormulaNodes bound hyps.next lay formulas = λ i h. formula_grows nodes (root.more ++ hyps.more) hyps.next i (formulas i) whole (are i h) in
      let candidate : AreCandidateNodes hyps.next lay x.step x.assertion root.root hyps.roots =
      record {
        conclusion = instance_grows root.next hyps.more hyps.next x.step x.assertion.tree root.root hyps.extends here;
        hyps = hyps.each;
      } in
      let rest = paired formulas xs (λ y h. among y (later y x xs h)) ready.1 hyps.next hyps.grown are' in
      let mine = candidate_pairs formulas x.step x.places root.root hyps.roots in
      let mine_inside : AllByRecursion (IsPairIn hyps.next) mine = (
        (candidate.conclusion.within, (are' x.step ready.0.sound.step).within),
        places_inside hyps.next formulas x.step are' x.places x.assertion.hyps hyps.roots ready.0.sound.places hyps.each,
      ) in
      record {
        next = rest.next;
        more = (root.more ++ hyps.more) ++ rest.more;
        extends = rest.extends ∙ ap (λ (ns : List Term). ns ++ rest.more) whole ∙ append_assoc nodes (root.more ++ hyps.more) rest.more;
        grown = rest.grown;
        pairs = mine ++ rest.pairs;
        inside = all_both (IsPairIn rest.next) mine rest.pairs (pairs_grow hyps.next rest.more rest.next mine rest.extends mine_inside) rest.inside;
        told = λ us f s. all_both (λ (p : NodePair). tree_at us p.0 ≡ tree_at us p.1) mine rest.pairs
            (solves_told bound hyps.next lay formulas are' us (fit_back db.rows bound.place base hyps.next rest.more rest.next us rest.extends f) x root.root hyps.roots ready.0.sound candidate s.0)
            (rest.told us f s.1);
        solve = λ us f r j.
            let parts = all_split (λ (p : NodePair). tree_at us p.0 ≡ tree_at us p.1) mine rest.pairs j in (
              joined_solves bound hyps.next lay formulas are' us
                  (fit_back db.rows bound.place base hyps.next rest.more rest.next us rest.extends
                  f) x root.root hyps.roots ready.0.sound r.0 candidate parts.0,
              rest.solve us f r.1 parts.1,
            );
      }

-- ---- the law

rooms : (bound : Bound) (v : Valuation) (xs : List Asked) → AllByRecursion (Solves bound v) xs → AllByRecursion (λ (x : Asked). HasRoom x.places x.assertion.hyps) xs
rooms bound v [] s = tt
rooms bound v (x ∷ xs) s = (room x.step x.places x.assertion.hyps s.0.places, rooms bound v xs s.1)
  where
    room : (i : ℕ) (gs : List Given) (es : List Tree) → PlacesFit bound v i gs es → HasRoom gs es
    room i [] es f = tt
    room i (g ∷ gs) [] f = f
    room i (given.Gap ∷ gs) (e ∷ es) f = room i gs es f
    room i (given.Step k ∷ gs) (e ∷ es) f = room i gs es f.1

all_sound : (db : Database) (bound : Bound) (xs : List Asked) → AllByRecursion (IsReadyAsked db bound) xs → AllByRecursion (IsSoundAsked bound) xs
all_sound db bound [] h = tt
all_sound db bound (x ∷ xs) h = (h.0.sound, all_sound db bound xs h.1)

module _ (db : Database) (bound : Bound) (accepted : List Asked) (ready : IsReadyBound db bound)
    (asked_ready : AllByRecursion (IsReadyAsked db bound) accepted) (fits : Solvable db bound accepted) where
  once : OnceEach (unknowns bound accepted)
  once = once_each (unknowns bound accepted)

  abbrev lay' : Layout
  lay' = lay db bound accepted once

  steps_there : (i : ℕ) (s : BoundStep) → slice_get bound.steps i ≡ Some s → slice_get bound.steps (0 + i) ≡ Some s
  steps_there i s e = let number : i ≡ 0 + i = omega arith in subst (λ (j : ℕ). slice_get bound.steps j ≡ Some s) number e

  made_formulas : Formulas db bound accepted once (base db bound accepted once) 0 bound.steps
  made_formulas = formulas_of db bound accepted once 0 bound.steps steps_there ready (base db bound accepted once) (grown_base db bound accepted once)

  abbrev formula_at : ℕ → ℕ
  formula_at i = get_or made_formulas.roots i 0

  are_formulas : AreFormulaNodes bound made_formulas.next lay' formula_at
  are_formulas i h =
      let told = made_formulas.each i (slice_index_or bound.steps i no_step) (slice_get-get_or bound.steps i no_step h) in
      let number : 0 + i ≡ i = omega arith in
      record { within = told.0; is_formula = λ us f. told.1 us f ∙ ap (λ (j : ℕ). formula_value (valuation_of lay' us) j (slice_index_or bound.steps i no_step).tree) number }

  made_pairs : Paired db bound accepted once made_formulas.next formula_at accepted
  made_pairs = paired db bound accepted once formula_at accepted (λ x h. h) asked_ready made_formulas.next made_formulas.grown are_formulas

  abbrev nodes : List Term
  nodes = made_pairs.next

  bare_store : IsStore nodes []
  bare_store = bare db bound accepted once nodes made_pairs.grown

  bare_chained : IsChained db bound accepted [] nodes [] lay'
  bare_chained = record {
    store = bare_store;
    solved = record { closed = λ i h. agrees_refl [] (term_at nodes i); solution = start_solution nodes [] bare_store };
    laid_out = laid_out db bound accepted once nodes made_pairs.grown;
    exact = record { solves = λ us s. tt; holds = λ us s all. s };
    among = λ x h. absurd (nothing x h);
    sound = tt;
  }

  found : (trees : List Tree) × Solution nodes [] trees × ((u : Unknown) → IsUnknown bound accepted u → tree_at trees (lay'.node_of u) ≡ fits.value u)
  found = solution_of db bound accepted [] nodes [] lay' bare_chained fits.value fits.is_valuation tt

  found_solves : AllByRecursion (Solves bound (valuation_of lay' found.0)) accepted
  found_solves = solve_same bound accepted fits.value (valuation_of lay' found.0) (λ u on. sym (found.2 u on)) accepted (λ x h. h) (all_sound db bound accepted asked_ready) fits.solves

  joined : IsJoined nodes made_pairs.pairs
  joined = all_are_joined nodes made_pairs.pairs found.0 bare_store found.1 (made_pairs.told found.0 (fit_of nodes [] found.0 found.1) found_solves) made_pairs.inside

  chained : IsChained db bound accepted accepted nodes joined.links lay'
  chained = record {
    store = joined.store;
    solved = record { closed = joined.closed; solution = (found.0, joined.back found.0 found.1 (made_pairs.told found.0 (fit_of nodes [] found.0 found.1) found_solves)) };
    laid_out = laid_out db bound accepted once nodes made_pairs.grown;
    exact = record {
      solves = λ us s. made_pairs.solve us (fit_of nodes joined.links us s) (rooms bound fits.value accepted fits.solves) (joined.there us s);
      holds = λ us s all. joined.back us s (made_pairs.told us (fit_of nodes [] us s) all);
    };
    among = λ x h. h;
    sound = all_sound db bound accepted asked_ready;
  }

  pub most_general : (g : Valuation) × IsTheValuation db bound accepted g
  most_general = (the_value db bound accepted accepted nodes joined.links lay' chained, is_the_valuation db bound accepted nodes joined.links lay' chained)
