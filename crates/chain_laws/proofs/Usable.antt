-- What is bound over an opened database, and its candidates, are ready to be solved.
use Rattle.std.specs.Prelude.{◌≡◌, ℕ, ◌<◌, ◌≤◌, ◌==◌, Bool, true, false, List, [], ◌∷◌, length, map, drop, find, slice_index_or, Option, Some, None, option_map, Contains, refl}
use Rattle.std.specs.List.{AllByRecursion, AllZip, filter_map, cons_option}
use Rattle.std.proofs.Common.{suc, sym, ap, subst, ◌∙◌, arith, inl, inr, cond}
use Rattle.std.proofs.lemmas.Bool.Decides.{nat_tests}
use Rattle.std.proofs.lemmas.List.Elements.{Contains-append_left, Contains-append_right}
use Rattle.std.proofs.lemmas.List.{length-map}
use Rattle.std.proofs.lemmas.Option.{slice_get_within, get_or_from_slice_get}
use Rattle.mm_base.specs.declared.symbols.Sym.{Sym}
use Rattle.mm_base.specs.declared.symbols.Label.{Label}
use Rattle.mm_base.specs.declared.symbols.Typecode.{Typecode}
use Rattle.mm_base.specs.declared.tree.Tree.{Tree}
use Rattle.mm_base.specs.declared.tree.Tree.TheVariants as tree
use Rattle.mm_base.specs.Trees.{Each, code_of}
use Rattle.mm_base.proofs.TreeInduction.{tree_ind}
use Rattle.mm_base.proofs.TreeFacts.{every-Var, every-Node}
use Rattle.mm_model.specs.declared.frames.Hyp.{Hyp}
use Rattle.mm_model.specs.declared.frames.Frame.{Frame}
use Rattle.mm_model.specs.declared.rows.Leaf.{Leaf}
use Rattle.mm_model.specs.declared.rows.Leaf.TheVariants as leaf
use Rattle.mm_model.specs.declared.rows.Item.{Item}
use Rattle.mm_model.specs.declared.rows.Item.TheVariants as item
use Rattle.mm_model.specs.declared.rows.Production.{Production}
use Rattle.mm_model.specs.Rows.{slot_order, place_of, IsGrammar}
use Rattle.mm_model.specs.Texts.{row_of, items_text, row_text, text}
use Rattle.mm_model.specs.Typed.{IsTyped, HasNoFresh}
use Rattle.mm_model.specs.Productions.{TypedVariable, typed_variables, essentials}
use Rattle.mm_model.specs.Book.{Database, IsUsable, IsRead, float_of, position_of}
use Rattle.mm_model.specs.BookFacts.{IsDatabase}
use Rattle.mm_model.proofs.RowLaws.{find_passes, row_stands, is_row}
use Rattle.mm_model.proofs.TextLaws.{text-Var, text-Work, text-Node}
use Rattle.mm_model.proofs.TypedLaws.{typed-Var, typed-Work, typed-Node, typed_here, typed_held, named_held, fresh_is_not_named}
use Rattle.model_laws.specs.FrameLaws.{own_leaf, IsOwn, HasOwnExpressions}
use Rattle.solve_laws.proofs.ReplacedTypes.{typed-Fresh}
use Rattle.mm_model.specs.Names.{Name}
use Rattle.sheet_text.specs.declared.sheet.Sheet.{Sheet}
use Rattle.sheet_text.specs.declared.sheet.SheetStep.{SheetStep}
use Rattle.sheet_text.specs.Layout.{steps}
use Rattle.solve_model.specs.declared.bound.BoundStep.{BoundStep}
use Rattle.solve_model.specs.declared.bound.Bound.{Bound}
use Rattle.solve_model.specs.Binding.{place_of as sheet_place}
use Rattle.solve_model.specs.Bound.{HasTree, IsBoundStep, Binds}
use Rattle.solve_model.specs.Solutions.{Asked}
use Rattle.written_model.specs.Existence.{IsCandidate}
use Rattle.chain_laws.specs.Layout.{LayerIsOver, IsOver, IsReadyFormula, IsReadyBound, IsReadyAsked}
use Rattle.chain_laws.proofs.LeastLeaves.{first, later, nothing}
use Rattle.chain_laws.proofs.Listed.{parted}

-- ---- each child's text stands in the text of its production

stands_by : (k x : ℕ) (xs : List ℕ) (b : Bool) → (k == x) ≡ b → cond b 0 (suc (place_of k xs)) < length (x ∷ xs) → (place_of k xs < length xs → Contains xs k) → Contains (x ∷ xs) k
stands_by k x xs true e l rest = let same : x ≡ k = grind (arith, nat_tests) in (0, omega arith, same)
stands_by k x xs false e l rest = later k x xs (rest (omega (arith, l)))

stands_at : (k : ℕ) (order : List ℕ) → place_of k order < length order → Contains order k
stands_at k [] h = absurd (omega (arith, h))
stands_at k (x ∷ xs) h = stands_by k x xs (k == x) refl h (λ l. stands_at k xs l)

in_items : (texts : List (List Leaf)) (items : List Item) (k : ℕ) (x : Leaf) → Contains (slot_order items) k → Contains (slice_index_or texts k []) x → Contains (items_text texts items) x
in_items texts [] k x h o = absurd (nothing k h)
in_items texts (item.Const s ∷ items) k x h o = Contains-append_right (leaf.Const s ∷ []) (items_text texts items) x (in_items texts items k x h o)
in_items texts (item.Slot j ∷ items) k x h o = elim (parted k j (slot_order items) h) [
  | inl e ↦ Contains-append_left (slice_index_or texts j []) (items_text texts items) x (subst (λ (i : ℕ). Contains (slice_index_or texts i []) x) (sym e) o)
  | inr rest ↦ Contains-append_right (slice_index_or texts j []) (items_text texts items) x (in_items texts items k x rest o)
]

-- ---- trees whose texts have certain variables alone

abbrev LeafIsOver : List TypedVariable → Leaf → Type 0
LeafIsOver vars (leaf.Const s) = Unit {0}
LeafIsOver vars (leaf.Var s c) = Contains vars (record { sym = s; code = c })
LeafIsOver vars (leaf.Work c n) = ⊥

module _ (rows : List Production) (before : ℕ) (grammar : IsGrammar rows) (vars : List TypedVariable) where
  abbrev AllOver : List Leaf → Type 0
  AllOver xs = (x : Leaf) → Contains xs x → LeafIsOver vars x

  abbrev Shows : Tree → Type 0
  Shows t = IsTyped rows before t → HasNoFresh t → AllOver (text rows t) → IsOver vars t

  each_over : (ts : List Tree) → Each Shows ts → Each (IsTyped rows before) ts → Each HasNoFresh ts
      → ((k : ℕ) → k < length ts → AllOver (slice_index_or (map (text rows) ts) k [])) → Each (IsOver vars) ts
  each_over [] h ty named over = tt
  each_over (t ∷ ts) h ty named over = (h.0 ty.0 named.0 (over 0 (omega arith)), each_over ts h.1 ty.1 named.1 (λ k l. over (suc k) (omega (arith, l))))

  child_text : (l : Label) (c : Typecode) (ts : List Tree) (r : Production) → row_of rows l ≡ Some r → map code_of ts ≡ r.slots
      → AllOver (text rows (tree.Node l c ts)) → (k : ℕ) → k < length ts → AllOver (slice_index_or (map (text rows) ts) k [])
  child_text l c ts r is slots over k below x o =
      let stands = row_stands rows l r is in
      let row = is_row rows grammar.rows_hold stands.place r stands.stands in
      let count : length ts ≡ length r.slots = sym (length-map ts code_of) ∙ ap length slots in
      let there = stands_at k (slot_order r.items) (row.each_once.found k (omega (arith, below, count))) in
      let whole : text rows (tree.Node l c ts) ≡ items_text (map (text rows) ts) r.items = text-Node rows l c ts ∙ ap (row_text (map (text rows) ts)) is in
      over x (subst (λ (xs : List Leaf). Contains xs x) (sym whole) (in_items (map (text rows) ts) r.items k x there o))

  one_leaf : (t : Tree) (x : Leaf) → text rows t ≡ x ∷ [] → AllOver (text rows t) → LeafIsOver vars x
  one_leaf t x e over = over x (subst (λ (xs : List Leaf). Contains xs x) (sym e) (first x []))

  pub text_shows : (t : Tree) → Shows t
  text_shows = tree_ind Shows
      (λ s c ty named over. every-Var (LayerIsOver vars) s c (one_leaf (tree.Var s c) (leaf.Var s c) (text-Var rows s c) over))
      (λ c n ty named over. absurd (one_leaf (tree.Work c n) (leaf.Work c n) (text-Work rows c n) over))
      (λ c n ty named over. absurd (fresh_is_not_named c n named))
      (λ l c ts h ty named over.
      let here = typed_here rows before l c ts ty in
      every-Node (LayerIsOver vars) l c ts tt (each_over ts h (typed_held rows before l c ts ty) (named_held l c ts named) (child_text l c ts here.0 here.1 here.4 over)))

-- ---- the expression of a frame's formula has the frame's variables alone

sym_with : ℕ → Sym
sym_with n = record { 0 = n }

same_sym : (s r : Sym) → (s.0 == r.0) ≡ true → s ≡ r
unfolding sym_with
same_sym s r e = let n : s.0 ≡ r.0 = grind (arith, nat_tests) in ap sym_with n

abbrev variable_with : Sym → Typecode → TypedVariable
variable_with s c = record { sym = s; code = c }

found_variable : (vars : List TypedVariable) (s : Sym) (c : Typecode) (v : TypedVariable) → find (λ (w : TypedVariable). w.sym.0 == s.0) vars ≡ Some v
    → v.code ≡ c → Contains vars (record { sym = s; code = c })
found_variable vars s c v e code =
    let told = find_passes (λ (w : TypedVariable). w.sym.0 == s.0) vars v e in
    let name = same_sym v.sym s told.passes in
    let it : v ≡ variable_with s c = ap (λ (r : Sym). variable_with r v.code) name ∙ ap (variable_with s) code in
    let here : Contains vars v = (told.place, slice_get_within vars told.place v told.stands, get_or_from_slice_get vars told.place v v told.stands) in
    subst (Contains vars) it here

by_float : (vars : List TypedVariable) (s : Sym) (x : Leaf) (o : Option TypedVariable) → find (λ (w : TypedVariable). w.sym.0 == s.0) vars ≡ o
    → option_map (λ (c : Typecode). leaf.Var s c) (option_map (λ (v : TypedVariable). v.code) o) ≡ Some x → LeafIsOver vars x
by_float vars s x None e is = let impossible : ◌≡◌ {A = Option Leaf} None (Some x) = is in absurd (cc)
by_float vars s x (Some v) e is = let same : leaf.Var s v.code ≡ x = cc in subst (LeafIsOver vars) same (found_variable vars s v.code v e refl)

module _ (db : Database) (f : Frame) where
  abbrev own_vars : List TypedVariable
  own_vars = typed_variables f.hyps

  own_by : (s : Sym) (x : Leaf) (b : Bool) → cond b (Some (leaf.Const s)) (option_map (λ (c : Typecode). leaf.Var s c) (float_of s f.hyps)) ≡ Some x → LeafIsOver own_vars x
  own_by s x true e = let same : leaf.Const s ≡ x = cc in subst (LeafIsOver own_vars) same tt
  own_by s x false e = by_float own_vars s x (find (λ (w : TypedVariable). w.sym.0 == s.0) own_vars) refl e

  own_one : (s : Sym) (x : Leaf) → own_leaf db f s ≡ Some x → LeafIsOver own_vars x
  own_one s x e = own_by s x (db.is_constant_at s f.at) e

  mapped : (o : Option Leaf) (s : Sym) (rest : List Leaf) → own_leaf db f s ≡ o → (x : Leaf) → Contains (cons_option o rest) x → (Contains rest x → LeafIsOver own_vars x) → LeafIsOver own_vars x
  mapped None s rest e x h g = g h
  mapped (Some y) s rest e x h g = elim (parted x y rest h) [ inl same ↦ subst (LeafIsOver own_vars) same (own_one s y e) | inr later' ↦ g later' ]

  own_all : (ss : List Sym) (x : Leaf) → Contains (filter_map (own_leaf db f) ss) x → LeafIsOver own_vars x
  own_all [] x h = absurd (nothing x h)
  own_all (s ∷ ss) x h = mapped (own_leaf db f s) s (filter_map (own_leaf db f) ss) refl x h (λ g. own_all ss x g)

  -- the tree of a formula of the frame
  read_over : (formula : List Sym) (t : Tree) → IsGrammar db.rows → IsOwn db f formula → IsRead db f.at formula t → IsOver own_vars t
  read_over formula t grammar own h =
      let p = h.tree.parses in
      text_shows db.rows f.at grammar own_vars t p.typed p.named (λ x o.
      own_all (drop 1 formula) x (subst (λ (xs : List Leaf). Contains xs x) (p.written ∙ sym own.expression) o))

  reads_over : (hs : List Hyp) (ts : List Tree) → IsGrammar db.rows → AllByRecursion (λ (h : Hyp). IsOwn db f h.formula) hs
      → AllZip (λ (h : Hyp) (t : Tree). IsRead db f.at h.formula t) hs ts → AllByRecursion (IsOver own_vars) ts
  reads_over [] [] grammar own z = tt
  reads_over [] (t ∷ ts) grammar own z = absurd z
  reads_over (h ∷ hs) [] grammar own z = absurd z
  reads_over (h ∷ hs) (t ∷ ts) grammar own z = (read_over h.formula t grammar own.0 z.0, reads_over hs ts grammar own.1 z.1)

-- ---- a tree that is typed before one place is typed before a later one

module _ (rows : List Production) (one other : ℕ) (more : one ≤ other) where
  abbrev Widens : Tree → Type 0
  Widens t = IsTyped rows one t → IsTyped rows other t

  each_wider : (ts : List Tree) → Each Widens ts → Each (IsTyped rows one) ts → Each (IsTyped rows other) ts
  each_wider [] h ty = tt
  each_wider (t ∷ ts) h ty = (h.0 ty.0, each_wider ts h.1 ty.1)

  pub typed_wider : (t : Tree) → Widens t
  typed_wider = tree_ind Widens
      (λ s c ty. typed-Var rows other s c)
      (λ c n ty. typed-Work rows other c n)
      (λ c n ty. typed-Fresh rows other c n)
      (λ l c ts h ty.
      let here = typed_here rows one l c ts ty in
      let below = here.2 in
      typed-Node rows other l c ts (here.0, here.1, omega (arith, below, more), here.3, here.4) (each_wider ts h (typed_held rows one l c ts ty)))

reads_typed : (db : Database) (at place : ℕ) → at ≤ place → (hs : List Hyp) (ts : List Tree)
    → AllZip (λ (h : Hyp) (t : Tree). IsRead db at h.formula t) hs ts → AllByRecursion (IsTyped db.rows place) ts
reads_typed db at place more [] [] z = tt
reads_typed db at place more [] (t ∷ ts) z = absurd z
reads_typed db at place more (h ∷ hs) [] z = absurd z
reads_typed db at place more (h ∷ hs) (t ∷ ts) z = (typed_wider db.rows at place more t z.0.tree.parses.typed, reads_typed db at place more hs ts z.1)

-- ---- candidates, and bound formulas

module _ (db : Database) (bound : Bound) (x : Asked) (candidate : IsCandidate db bound x) (facts : IsDatabase db) (text : List ℕ)
    (own : HasOwnExpressions text db x.assertion.label x.assertion.frame) where
  usable : IsUsable db x.assertion.label x.assertion
  usable = facts.usable x.assertion.label x.assertion candidate.usable

  before : x.assertion.frame.at ≤ bound.place
  before =
      let at : x.assertion.frame.at ≡ position_of db x.assertion.label = (facts.frames x.assertion.label x.assertion.frame usable.frame).at in
      omega (arith, at, candidate.before)

  pub candidate_ready : IsReadyAsked db bound x
  candidate_ready = record {
    sound = record {
      step = candidate.step;
      places = candidate.places;
      tree =
          subst (λ (vs : List TypedVariable). IsOver vs x.assertion.tree) (sym usable.vars)
          (read_over db x.assertion.frame x.assertion.frame.formula x.assertion.tree facts.grammar own.formula usable.conclusion);
      hyps =
          subst (λ (vs : List TypedVariable). AllByRecursion (IsOver vs) x.assertion.hyps) (sym usable.vars)
          (reads_over db x.assertion.frame (essentials x.assertion.frame.hyps) x.assertion.hyps facts.grammar own.hyps usable.hyps);
    };
    tree = typed_wider db.rows x.assertion.frame.at bound.place before x.assertion.tree usable.conclusion.tree.parses.typed;
    hyps = reads_typed db x.assertion.frame.at bound.place before (essentials x.assertion.frame.hyps) x.assertion.hyps usable.hyps;
  }

formula_ready : (db : Database) (place : ℕ) (tokens : List Name) (o : Option Tree) → HasTree db place tokens o → IsReadyFormula db place o
formula_ready db place tokens None h = tt
formula_ready db place tokens (Some t) h = (h.parses.code, h.parses.typed, h.parses.named)

steps_ready : (db : Database) (place : ℕ) (ss : List SheetStep) (bs : List BoundStep) → AllZip (IsBoundStep db place) ss bs → AllByRecursion (λ (b : BoundStep). IsReadyFormula db place b.tree) bs
steps_ready db place [] [] z = tt
steps_ready db place [] (b ∷ bs) z = absurd z
steps_ready db place (s ∷ ss) [] z = absurd z
steps_ready db place (s ∷ ss) (b ∷ bs) z = (formula_ready db place s.formula b.tree z.0.tree, steps_ready db place ss bs z.1)

pub bound_ready : (db : Database) (sheet : Sheet) (bound : Bound) → Binds db sheet bound → IsReadyBound db bound
bound_ready db sheet bound h =
    subst (λ (place : ℕ). AllByRecursion (λ (b : BoundStep). IsReadyFormula db place b.tree) bound.steps) (sym h.place) (steps_ready db (sheet_place db sheet) (steps sheet) bound.steps h.steps)
