-- Each leaf of a written formula reads back as itself.
use Rattle.std.specs.Prelude.{◌≡◌, ◌⊎◌, ◌<◌, ◌≤◌, ◌==◌, ℕ, zero, suc, Bool, true, false, List, [], ◌∷◌, length, map, drop, take, find, filter_map}
use Rattle.std.specs.Prelude.{nat_lt, slice_get, slice_index_or, Contains, Option, Some, None, is_some, refl}
use Rattle.std.specs.List.{AllByRecursion, position, position_or_len}
use Rattle.std.proofs.Common.{sym, ap, subst, ◌∙◌, arith, inl, inr, cond}
use Rattle.std.proofs.lemmas.Bool.{cases_Bool}
use Rattle.std.proofs.lemmas.Bool.Decides.{nat_tests}
use Rattle.std.proofs.lemmas.List.Folds.{find_at}
use Rattle.std.proofs.lemmas.List.Elements.{Contains-append_cases}
use Rattle.std.proofs.lemmas.Option.{slice_get_past}
use Rattle.mm_base.specs.declared.symbols.Sym.{Sym}
use Rattle.mm_base.specs.declared.symbols.Label.{Label}
use Rattle.mm_base.specs.declared.symbols.Typecode.{Typecode}
use Rattle.mm_base.specs.declared.tree.Tree.{Tree}
use Rattle.mm_base.specs.declared.tree.Tree.TheVariants.{Var, Work, Fresh}
use Rattle.mm_base.specs.Trees.{Each}
use Rattle.mm_base.proofs.TreeInduction.{tree_ind}
use Rattle.mm_model.specs.declared.frames.Frame.{Frame}
use Rattle.mm_model.specs.declared.rows.Item.{Item}
use Rattle.mm_model.specs.declared.rows.Item.TheVariants as item
use Rattle.mm_model.specs.declared.rows.Leaf.{Leaf}
use Rattle.mm_model.specs.declared.rows.Leaf.TheVariants as leaf
use Rattle.mm_model.specs.declared.rows.Production.{Production}
use Rattle.mm_model.specs.Names.{Name}
use Rattle.mm_model.specs.Productions.{TypedVariable, typed_variables, item_of}
use Rattle.mm_model.specs.Texts.{row_of, items_text, text}
use Rattle.mm_model.specs.Typed.{IsTyped}
use Rattle.mm_model.specs.Book.{Database, symbol_name, declared_leaf, float_of, expression_at}
use Rattle.mm_model.specs.BookFacts.{IsDatabase}
use Rattle.mm_model.proofs.TextLaws.{text-Var, text-Work, text-Fresh, text-Node}
use Rattle.mm_model.proofs.TypedLaws.{typed_here, typed_held}
use Rattle.model_laws.specs.DatabaseLaws.{HasPlaces}
use Rattle.model_laws.specs.FrameLaws.{own_leaf, own_expression, IsOwn}
use Rattle.sheet_text.specs.declared.sheet.SheetStep.{SheetStep}
use Rattle.sheet_text.specs.Layout.{steps}
use Rattle.solve_model.specs.declared.bound.BoundStep.{BoundStep}
use Rattle.solve_model.specs.Bound.{HasTree}
use Rattle.solve_model.specs.Formulas.{leaf_of, expression_of, spelling}
use Rattle.solve_model.specs.Trees.{Open, work, fresh, leaf_tree, open_leaves, Occurs}
use Rattle.solve_model.specs.Solutions.{Unknown, named, blank, copy, Valuation, IsUnknown, formula, formula_value, instance, open_value}
use Rattle.solve_model.specs.Verdicts.{Judgement, accepted, stands}
use Rattle.solve_model.proofs.TreeLaws.{open_leaves-Var, open_leaves-Work, open_leaves-Fresh}
use Rattle.solve_laws.specs.Instances.{IsClosedTree}
use Rattle.solve_laws.proofs.Elements.{nothing, only, first, later, parted}
use Rattle.written_model.specs.declared.options.Options.{Options}
use Rattle.written_model.specs.WrittenSteps.{WrittenStep, trees}
use Rattle.written_model.specs.Filled.{wanted_by}
use Rattle.written_model.specs.Named.{name_leaf, name_fresh, name_tree, IsWrittenLeaf}
use Rattle.written_model.specs.Written.{Writing, leaf_name}
use Rattle.again_laws.specs.Leaves.{typed, typed_leaves}
use Rattle.again_laws.specs.Whole.{HasOnly}
use Rattle.again_laws.proofs.LeafLaws.{leaves-Var, leaves-Work, leaves-Fresh, comes, arises}
use Rattle.again_laws.proofs.Lists.{get_contains, contains_mapped, from_filter_map, get_mapped, all_of, some_same}
use Rattle.again_laws.proofs.TextLeaves.{variable_leaf, variable_shown, variable_told, work_shown, work_told}
use Rattle.again_laws.proofs.Accepted.{accepted_at, whole_member, all_closed, tree_at, filled_tree, dropped, trees_named, es_typed}
use Rattle.again_laws.proofs.NoNewTyped.{IsReadVariable, read_variable}
use Rattle.again_laws.proofs.Setting.{Setting}
use Rattle.again_laws.proofs.TokenLaws.{leaf_again, constant_read}
use Rattle.again_laws.proofs.Uses.{written_steps, accepted_all}

-- ---- the constants of a text

pub record IsRowConstant (rows : List Production) (before : ℕ) (s : Sym) : Type 0 where
  pub label : Label
  pub row : Production
  pub row_is : row_of rows label ≡ Some row
  pub low : row.at < before
  pub inside : Contains row.items (item.Const s)

const_source : (texts : List (List Leaf)) (s : Sym) (items : List Item) → Contains (items_text texts items) (leaf.Const s)
    → Contains items (item.Const s) ⊎ ((k : ℕ) × Contains (slice_index_or texts k []) (leaf.Const s))
const_source texts s [] m = absurd (nothing (leaf.Const s) m)
const_source texts s (item.Const z ∷ items) m = elim (Contains-append_cases (leaf.Const z ∷ []) (items_text texts items) (leaf.Const s) m) [
  | inl h ↦ inl (first (item.Const s) (item.Const z) items (same z (only (leaf.Const s) (leaf.Const z) h)))
  | inr h ↦ elim (const_source texts s items h) [ inl k ↦ inl (later (item.Const s) (item.Const z) items k) | inr k ↦ inr k ]
]
  where
    same : (z : Sym) → leaf.Const z ≡ leaf.Const s → item.Const z ≡ item.Const s
    same z e = let one : z ≡ s = cc in ap (λ x. item.Const x) one
const_source texts s (item.Slot j ∷ items) m = elim (Contains-append_cases (slice_index_or texts j []) (items_text texts items) (leaf.Const s) m) [
  | inl h ↦ inr (j, h)
  | inr h ↦ elim (const_source texts s items h) [ inl k ↦ inl (later (item.Const s) (item.Slot j) items k) | inr k ↦ inr k ]
]

module _ (rows : List Production) (before : ℕ) (s : Sym) where
  abbrev Rowed : Tree → Type 0
  Rowed t = IsTyped rows before t → Contains (text rows t) (leaf.Const s) → IsRowConstant rows before s

  child_rowed : (ts : List Tree) → Each Rowed ts → Each (IsTyped rows before) ts → (k : ℕ) → Contains (slice_index_or (map (text rows) ts) k []) (leaf.Const s) → IsRowConstant rows before s
  child_rowed [] h p k m = absurd (nothing (leaf.Const s) m)
  child_rowed (t ∷ ts) h p zero m = h.0 p.0 m
  child_rowed (t ∷ ts) h p (suc k) m = child_rowed ts h.1 p.1 k m

  var_no_const : (v : Sym) (c : Typecode) → leaf.Var v c ≡ leaf.Const s → ⊥
  var_no_const v c e = cc

  work_no_const : (c : Typecode) (n : ℕ) → leaf.Work c n ≡ leaf.Const s → ⊥
  work_no_const c n e = cc

  pub rowed : (t : Tree) → Rowed t
  rowed = tree_ind Rowed
      (λ v c p m. absurd (var_no_const v c (only (leaf.Const s) (leaf.Var v c) (rw text-Var at m))))
      (λ c n p m. absurd (work_no_const c n (only (leaf.Const s) (leaf.Work c n) (rw text-Work at m))))
      (λ c n p m. absurd (nothing (leaf.Const s) (rw text-Fresh at m)))
      (λ l c ts h p m.
      let layer = typed_here rows before l c ts p in
      let m' : Contains (items_text (map (text rows) ts) layer.0.items) (leaf.Const s) = rw (text-Node, layer.1) at m in
      elim (const_source (map (text rows) ts) s layer.0.items m') [
        | inl k ↦ record { label = l; row = layer.0; row_is = layer.1; low = layer.2; inside = k }
        | inr k ↦ child_rowed ts h (typed_held rows before l c ts p) k.0 k.1
      ])

-- ---- the constants of rows are constants

item_const : (vars : List TypedVariable) (y s : Sym) → item_of vars y ≡ item.Const s → (y ≡ s) × (find (λ (v : TypedVariable). v.sym.0 == y.0) vars ≡ None)
item_const vars y s e = by (position (λ (v : TypedVariable). v.sym.0 == y.0) vars) refl
  where
    none_found : position (λ (v : TypedVariable). v.sym.0 == y.0) vars ≡ None → find (λ (v : TypedVariable). v.sym.0 == y.0) vars ≡ None
    none_found is =
        let p : TypedVariable → Bool = λ v. v.sym.0 == y.0 in
        find_at p vars ∙ slice_get_past vars (position_or_len p vars) (past (position_or_len p vars) (length vars) is)
      where
        past : (k n : ℕ) → cond (nat_lt k n) (Some k) None ≡ None → n ≤ k
        past k n q = elim (cases_Bool (nat_lt k n)) [ inl d ↦ absurd (clash k n d q) | inr d ↦ grind (arith, nat_tests, d) ]
          where
            clash : (a b : ℕ) → nat_lt a b ≡ true → cond (nat_lt a b) (Some a) None ≡ None → ⊥
            clash a b d q = let bad : Some a ≡ None = rw d at q in cc

    const_same : (a b : Sym) → item.Const a ≡ item.Const b → a ≡ b
    const_same a b q = cc

    slot_clash : (k : ℕ) (b : Sym) → item.Slot k ≡ item.Const b → ⊥
    slot_clash k b q = cc

    by : (o : Option ℕ) → position (λ (v : TypedVariable). v.sym.0 == y.0) vars ≡ o → (y ≡ s) × (find (λ (v : TypedVariable). v.sym.0 == y.0) vars ≡ None)
    by None is = (const_same y s (rw is at e), none_found is)
    by (Some k) is = absurd (slot_clash k s (rw is at e))

all_some : {X Y : Type 0} (f : X → Option Y) (xs : List X) → AllByRecursion (λ x. is_some (f x) ≡ true) xs → length (filter_map f xs) ≡ length xs
all_some f [] h = refl
all_some f (x ∷ xs) h = by (f x) refl h.0 (all_some f xs h.1)
  where
    by : (o : Option _) → f x ≡ o → is_some (f x) ≡ true → length (filter_map f xs) ≡ length xs → length (filter_map f (x ∷ xs)) ≡ suc (length xs)
    by None e some rest = let bad : false ≡ true = rw e at some in absurd cc
    by (Some y) e some rest = rw e (ap (λ n. suc n) rest)

at_most : {X Y : Type 0} (f : X → Option Y) (xs : List X) → length (filter_map f xs) ≤ length xs
at_most f [] = omega arith
at_most f (x ∷ xs) = by (f x) refl (at_most f xs)
  where
    by : (o : Option _) → f x ≡ o → length (filter_map f xs) ≤ length xs → length (filter_map f (x ∷ xs)) ≤ suc (length xs)
    by None e rest = rw e (omega (arith, rest))
    by (Some y) e rest = rw e (omega (arith, rest))

one_missing : {X Y : Type 0} (f : X → Option Y) (xs : List X) (x : X) → Contains xs x → f x ≡ None → length (filter_map f xs) < length xs
one_missing f [] x m e = absurd (nothing x m)
one_missing f (z ∷ xs) x m e = elim (parted x z xs m) [
  | inl s ↦ let none = ap f s ∙ e in let le = at_most f xs in rw none (omega (arith, le))
  | inr k ↦ by (f z) refl (one_missing f xs x k e)
]
  where
    by : (o : Option _) → f z ≡ o → length (filter_map f xs) < length xs → length (filter_map f (z ∷ xs)) < suc (length xs)
    by None q rest = rw q (omega (arith, rest))
    by (Some y) q rest = rw q (omega (arith, rest))

pub record IsConstant (db : Database) (place : ℕ) (s : Sym) : Type 0 where
  pub constant : db.is_constant_at s place ≡ true
  pub within : s.0 < length db.symbols

drop_in : {X : Type 0} (xs : List X) (x : X) → Contains (drop 1 xs) x → Contains xs x
drop_in [] x m = m
drop_in (y ∷ xs) x m = later x y xs m

module _ (db : Database) (facts : IsDatabase db) (places : HasPlaces db) (owns : (l : Label) (f : Frame) → db.frame l ≡ Some f → IsOwn db f f.formula) where
  not_known : (f : Frame) (y : Sym) → find (λ (v : TypedVariable). v.sym.0 == y.0) (typed_variables f.hyps) ≡ None → db.is_constant_at y f.at ≡ false → own_leaf db f y ≡ None
  not_known f y none e = let code : float_of y f.hyps ≡ None = rw none refl in rw (e, code) refl

  pub row_constant : (l : Label) (r : Production) (s : Sym) → row_of db.rows l ≡ Some r → Contains r.items (item.Const s) → IsConstant db r.at s
  row_constant l r s row m =
      let i = places.row_items l r row in
      let own_row = facts.rows l r row in
      let frame_same : own_row.0 ≡ i.0 = some_same own_row.0 i.0 (sym own_row.1 ∙ i.1) in
      let at : i.0.at ≡ r.at = ap (λ (f : Frame). f.at) (sym frame_same) ∙ own_row.2.at in
      let y = contains_mapped (item_of (typed_variables i.0.hyps)) (drop 1 i.0.formula) (item.Const s) (subst (λ xs. Contains xs (item.Const s)) i.2 m) in
      let is = item_const (typed_variables i.0.hyps) y.0 s y.2 in
      let known = (facts.frames l i.0 i.1).formula in
      let own = owns l i.0 i.1 in
      let full = all_some (declared_leaf db i.0.at) (drop 1 i.0.formula) known.leaves in
      let constant : db.is_constant_at y.0 i.0.at ≡ true = elim (cases_Bool (db.is_constant_at y.0 i.0.at)) [
        | inl d ↦ d
        | inr d ↦
            let less = one_missing (own_leaf db i.0) (drop 1 i.0.formula) y.0 y.1 (not_known i.0 y.0 is.1 d) in
            let same : length (own_expression db i.0 i.0.formula) ≡ length (expression_at db i.0.at i.0.formula) = ap length own.expression in
            absurd (omega (arith, less, full, same))
      ] in
      record {
        constant = ap (λ (x : Sym). db.is_constant_at x r.at) (sym is.0) ∙ ap (db.is_constant_at y.0) (sym at) ∙ constant;
        within = subst (λ (x : Sym). x.0 < length db.symbols) is.0 (all_of (λ (x : Sym). x.0 < length db.symbols) i.0.formula y.0 known.symbols (drop_in i.0.formula y.0 y.1));
      }

module _ (db : Database) (options : Options) (w : Writing) (numbers : List ℕ) (ds : List WrittenStep) (S : Setting db options w numbers ds) where
  -- the step of the worksheet whose tree is bound
  pub record IsSource (j : ℕ) (b : BoundStep) : Type 0 where
    pub source : SheetStep
    pub source_at : slice_get (steps w.read) j ≡ Some source
    pub tree : HasTree db w.bound.place source.formula b.tree

  pub source_of : (j : ℕ) (b : BoundStep) → slice_get w.bound.steps j ≡ Some b → IsSource j b
  source_of j b at =
      let within = within_ w.bound.steps j b at in
      let long = S.long in
      let s = below_ (steps w.read) j (omega (arith, within, long)) in
      let c = S.bound_steps j s.0 s.1 in
      let same : c.0 ≡ b = some_same c.0 b (sym c.1 ∙ at) in
      record { source = s.0; source_at = s.1; tree = subst (λ (z : BoundStep). HasTree db w.bound.place s.0.formula z.tree) same c.2.tree }
    where
      within_ : (xs : List BoundStep) (n : ℕ) (x : BoundStep) → slice_get xs n ≡ Some x → n < length xs
      within_ [] n x q = absurd cc
      within_ (y ∷ xs) zero x q = omega arith
      within_ (y ∷ xs) (suc n) x q = let less = within_ xs n x q in omega (arith, less)

      below_ : (xs : List SheetStep) (n : ℕ) → n < length xs → (x : SheetStep) × (slice_get xs n ≡ Some x)
      below_ [] n l = absurd (omega (arith, l))
      below_ (y ∷ xs) zero l = (y, refl)
      below_ (y ∷ xs) (suc n) l = below_ xs n (omega (arith, l))

module _ (db : Database) (options : Options) (w : Writing) (numbers : List ℕ) (ds : List WrittenStep) (S : Setting db options w numbers ds)
    (places : HasPlaces db) (owns : (l : Label) (f : Frame) → db.frame l ≡ Some f → IsOwn db f f.formula)
    (fresh_read : (c : Typecode) (m k : ℕ) → IsWrittenLeaf (trees ds) c m → w.names c m ≡ Some k → leaf_of db w.bound.place (spelling (symbol_name db c.0) k) ≡ Some (leaf.Work c k)) where
  abbrev g : Valuation
  g = w.value

  abbrev place : ℕ
  place = w.bound.place

  abbrev IsReadBack : Leaf → Type 0
  IsReadBack x = leaf_of db place (leaf_name db x) ≡ Some x

  abbrev OnRead : Unknown → Type 0
  OnRead = IsUnknown w.bound (accepted_all db options w numbers ds S)

  -- ---- leaves of the formulas that were read

  read_leaf_by : (tokens : List Name) (o : Option Tree) (t : Tree) → o ≡ Some t → HasTree db place tokens o → (x : Leaf) → Contains (text db.rows t) x → IsReadBack x
  read_leaf_by tokens None t e h x m = absurd (clash e)
    where
      clash : None ≡ Some t → ⊥
      clash q = cc
  read_leaf_by tokens (Some u) t e h x m =
      let m' : Contains (expression_of db place tokens) x = subst (λ xs. Contains xs x) (ap (text db.rows) (sym (some_same u t e)) ∙ h.parses.written) m in
      let r = from_filter_map (leaf_of db place) (drop 1 tokens) x m' in
      leaf_again db place r.0 x r.2

  read_leaf : (j : ℕ) (b : BoundStep) (t : Tree) → slice_get w.bound.steps j ≡ Some b → b.tree ≡ Some t → (x : Leaf) → Contains (text db.rows t) x → IsReadBack x
  read_leaf j b t at is x m = let s = source_of db options w numbers ds S j b at in read_leaf_by s.source.formula b.tree t is s.tree x m

  tree_typed : (j : ℕ) (b : BoundStep) (t : Tree) → slice_get w.bound.steps j ≡ Some b → b.tree ≡ Some t → IsTyped db.rows place t
  tree_typed j b t at is = let s = source_of db options w numbers ds S j b at in by s.source.formula b.tree is s.tree
    where
      by : (tokens : List Name) (o : Option Tree) → o ≡ Some t → HasTree db place tokens o → IsTyped db.rows place t
      by tokens None e h = absurd (clash e)
        where
          clash : None ≡ Some t → ⊥
          clash q = cc
      by tokens (Some u) e h = subst (IsTyped db.rows place) (some_same u t e) h.parses.typed

  -- ---- variables

  variable_back : (q : TypedVariable) → IsReadVariable db w.bound (accepted_all db options w numbers ds S) g S.the.most_general (all_closed db options w numbers ds S) q → IsReadBack (variable_leaf q)
  variable_back q r =
      read_leaf r.step r.bound_step r.tree r.at r.tree_is (variable_leaf q)
      (variable_shown db.rows place S.facts.grammar.rows_hold q r.tree (tree_typed r.step r.bound_step r.tree r.at r.tree_is) r.inside)

  held_variable : (u : Unknown) (q : TypedVariable) → OnRead u → Contains (typed_leaves (g u)) q → IsReadBack (variable_leaf q)
  held_variable u q on o = variable_back q (read_variable db w.bound (accepted_all db options w numbers ds S) g S.the.most_general (all_closed db options w numbers ds S) u q on o)

  formula_variable_by : (j : ℕ) (b : BoundStep) → slice_get w.bound.steps j ≡ Some b → (o : Option Tree) → b.tree ≡ o → (q : TypedVariable)
      → Contains (typed_leaves (formula_value g j o)) q → IsReadBack (variable_leaf q)
  formula_variable_by j b at None is q m = held_variable (blank j) q (IsUnknown.is_blank b at is) m
  formula_variable_by j b at (Some t) is q m = elim (arises (λ s c. Var s c) (open_value g) q t m) [
    | inl h ↦ by_own h.0 h.1 (only q h.0 (rw leaves-Var at h.2))
    | inr h ↦ by_open h.0 h.1 h.2
  ]
    where
      by_own : (v : TypedVariable) → Contains (typed_leaves t) v → v ≡ q → IsReadBack (variable_leaf q)
      by_own v o same = read_leaf j b t at is (variable_leaf q) (variable_shown db.rows place S.facts.grammar.rows_hold q t (tree_typed j b t at is) (subst (Contains (typed_leaves t)) same o))

      by_open : (x : Open) → Contains (open_leaves t) x → Contains (typed_leaves (open_value g x)) q → IsReadBack (variable_leaf q)
      by_open (work c n) o k = held_variable (named c n) q (IsUnknown.in_formula j b t at is o) k
      by_open (fresh c n) o k = absurd (nothing q (rw leaves-Fresh at k))

  wanted_variable : (n : ℕ) (o : Judgement) → slice_get w.judgements n ≡ Some o → (t : Tree) → Contains (wanted_by g o) t → (q : TypedVariable)
      → Contains (typed_leaves t) q → IsReadBack (variable_leaf q)
  wanted_variable n (stands z) e t m q k = absurd (nothing t m)
  wanted_variable n (accepted y) e t m q k =
      let r = contains_mapped (instance g y.step) (drop (length y.places) y.assertion.hyps) t m in
      let yours = accepted_at db options w numbers ds S n y e in
      let its = whole_member db options w numbers ds S y yours.member in
      let h_in = dropped (length y.places) y.assertion.hyps r.0 r.1 in
      let closed = all_of IsClosedTree y.assertion.hyps r.0 its.hyps_closed h_in in
      let known = all_of (HasOnly y.assertion.vars) y.assertion.hyps r.0 its.hyps_known h_in in
      elim (arises (λ s c. g (copy y.step s c)) leaf_tree q r.0 (subst (λ z. Contains (typed_leaves z) q) (sym r.2) k)) [
        | inl p ↦ held_variable (copy y.step p.0.sym p.0.code) q (IsUnknown.in_frame y p.0 yours.member (known p.0 p.1)) p.2
        | inr p ↦ absurd (closed p.0 p.1)
      ]

  -- ---- work variables

  held_work : (c : Typecode) (n : ℕ) → OnRead (named c n) → IsReadBack (leaf.Work c n)
  held_work c n (IsUnknown.in_formula j b t at is o) = read_leaf j b t at is (leaf.Work c n) (work_shown db.rows place S.facts.grammar.rows_hold c n t (tree_typed j b t at is) o)

  value_work : (u : Unknown) (c : Typecode) (n : ℕ) → OnRead u → Occurs (work c n) (g u) → IsReadBack (leaf.Work c n)
  value_work u c n on o = held_work c n ((S.the.canonical u (work c n) on o).named_least).0

  formula_work_by : (j : ℕ) (b : BoundStep) → slice_get w.bound.steps j ≡ Some b → (o : Option Tree) → b.tree ≡ o → (c : Typecode) (n : ℕ)
      → Occurs (work c n) (formula_value g j o) → IsReadBack (leaf.Work c n)
  formula_work_by j b at None is c n m = value_work (blank j) c n (IsUnknown.is_blank b at is) m
  formula_work_by j b at (Some t) is c n m = elim (comes (λ s d. Var s d) (open_value g) (work c n) t m) [
    | inl h ↦ absurd (nothing (work c n) (rw open_leaves-Var at h.2))
    | inr h ↦ by_open h.0 h.1 h.2
  ]
    where
      clash : (d : Typecode) (k : ℕ) → Contains (open_leaves (Fresh d k)) (work c n) → ⊥
      clash d k z = other (only (work c n) (fresh d k) (subst (λ xs. Contains xs (work c n)) (open_leaves-Fresh d k) z))
        where
          other : fresh d k ≡ work c n → ⊥
          other q = cc

      by_open : (x : Open) → Contains (open_leaves t) x → Contains (open_leaves (open_value g x)) (work c n) → IsReadBack (leaf.Work c n)
      by_open (work d k) o z = value_work (named d k) c n (IsUnknown.in_formula j b t at is o) z
      by_open (fresh d k) o z = absurd (clash d k z)

  wanted_work : (n : ℕ) (o : Judgement) → slice_get w.judgements n ≡ Some o → (t : Tree) → Contains (wanted_by g o) t → (c : Typecode) (k : ℕ) → Occurs (work c k) t → IsReadBack (leaf.Work c k)
  wanted_work n (stands z) e t m c k q = absurd (nothing t m)
  wanted_work n (accepted y) e t m c k q =
      let r = contains_mapped (instance g y.step) (drop (length y.places) y.assertion.hyps) t m in
      let yours = accepted_at db options w numbers ds S n y e in
      let its = whole_member db options w numbers ds S y yours.member in
      let h_in = dropped (length y.places) y.assertion.hyps r.0 r.1 in
      let closed = all_of IsClosedTree y.assertion.hyps r.0 its.hyps_closed h_in in
      let known = all_of (HasOnly y.assertion.vars) y.assertion.hyps r.0 its.hyps_known h_in in
      elim (comes (λ s d. g (copy y.step s d)) leaf_tree (work c k) r.0 (subst (Occurs (work c k)) (sym r.2) q)) [
        | inl p ↦ value_work (copy y.step p.0.sym p.0.code) c k (IsUnknown.in_frame y p.0 yours.member (known p.0 p.1)) p.2
        | inr p ↦ absurd (closed p.0 p.1)
      ]

  -- ---- the steps before they are named

  pub record FromRead (t : Tree) : Type 0 where
    pub variables : (q : TypedVariable) → Contains (typed_leaves t) q → IsReadBack (variable_leaf q)
    pub works : (c : Typecode) (n : ℕ) → Occurs (work c n) t → IsReadBack (leaf.Work c n)

  from_read : (i : ℕ) (d : WrittenStep) → slice_get ds i ≡ Some d → FromRead d.tree
  from_read i d e = elim (S.filling.from i d e) [
    | inl k ↦
        let r = S.filling.own k.0 i k.1 in
        let same : r.0 ≡ d = some_same r.0 d (sym r.1 ∙ e) in
        let tree : d.tree ≡ formula w.bound g k.0 =
        ap (λ (x : WrittenStep). x.tree) (sym same ∙ r.2.is)
        ∙ filled_tree (take k.0 numbers) r.2.more r.2.source (formula w.bound g k.0) g r.2.judgement in
        let b = S.bound_steps k.0 r.2.source r.2.source_at in
        let own = tree_at db options w numbers ds S k.0 b.0 b.1 in
        let whole : d.tree ≡ formula_value g k.0 b.0.tree = tree ∙ ap (formula_value g k.0) own in
        subst FromRead (sym whole) (record { variables = formula_variable_by k.0 b.0 b.1 b.0.tree refl; works = formula_work_by k.0 b.0 b.1 b.0.tree refl })
    | inr m ↦ record { variables = wanted_variable m.by m.judgement m.judgement_at d.tree m.wanted; works = wanted_work m.by m.judgement m.judgement_at d.tree m.wanted }
  ]

  -- ---- the written steps

  no_variable_named : (x : Open) (q : TypedVariable) → Contains (typed_leaves (name_leaf w.names x)) q → ⊥
  no_variable_named (work c n) q m = nothing q (rw leaves-Work at m)
  no_variable_named (fresh c n) q m = by (w.names c n) m
    where
      by : (o : Option ℕ) → Contains (typed_leaves (name_fresh c n o)) q → ⊥
      by None z = nothing q (rw leaves-Fresh at z)
      by (Some k) z = nothing q (rw leaves-Work at z)

  named_work : (t : Tree) → Contains (trees ds) t → FromRead t → (c : Typecode) (n : ℕ) → Occurs (work c n) (name_tree w.names t) → IsReadBack (leaf.Work c n)
  named_work t m f c n o = elim (comes (λ s d. Var s d) (name_leaf w.names) (work c n) t o) [
    | inl h ↦ absurd (nothing (work c n) (rw open_leaves-Var at h.2))
    | inr h ↦ by_open h.0 h.1 h.2
  ]
    where
      same_work : (d : Typecode) (k : ℕ) → Contains (open_leaves (Work d k)) (work c n) → work d k ≡ work c n
      same_work d k z = only (work c n) (work d k) (rw open_leaves-Work at z)

      moved : (d : Typecode) (k : ℕ) → work d k ≡ work c n → leaf.Work d k ≡ leaf.Work c n
      moved d k q = let one : d ≡ c = cc in let two : k ≡ n = cc in cc

      by_fresh : (d : Typecode) (k : ℕ) → Contains (open_leaves t) (fresh d k) → (z : Option ℕ) → w.names d k ≡ z → Contains (open_leaves (name_fresh d k z)) (work c n) → IsReadBack (leaf.Work c n)
      by_fresh d k inside None is z = absurd (other (only (work c n) (fresh d k) (subst (λ xs. Contains xs (work c n)) (open_leaves-Fresh d k) z)))
        where
          other : fresh d k ≡ work c n → ⊥
          other q = cc
      by_fresh d k inside (Some j) is z = subst IsReadBack (moved d j (same_work d j z)) (fresh_read d k j (t, m, inside) is)

      by_open : (x : Open) → Contains (open_leaves t) x → Contains (open_leaves (name_leaf w.names x)) (work c n) → IsReadBack (leaf.Work c n)
      by_open (work d k) inside z = let e = same_work d k z in f.works c n (subst (Contains (open_leaves t)) e inside)
      by_open (fresh d k) inside z = by_fresh d k inside (w.names d k) refl z

  named_variable : (t : Tree) → FromRead t → (q : TypedVariable) → Contains (typed_leaves (name_tree w.names t)) q → IsReadBack (variable_leaf q)
  named_variable t f q o = elim (arises (λ s d. Var s d) (name_leaf w.names) q t o) [
    | inl h ↦ f.variables q (subst (Contains (typed_leaves t)) (only q h.0 (rw leaves-Var at h.2)) h.1)
    | inr h ↦ absurd (no_variable_named h.0 q h.2)
  ]

  back_by : (t : Tree) → IsTyped db.rows place t → ((q : TypedVariable) → Contains (typed_leaves t) q → IsReadBack (variable_leaf q))
      → ((c : Typecode) (n : ℕ) → Occurs (work c n) t → IsReadBack (leaf.Work c n))
      → (x : Leaf) → Contains (text db.rows t) x → IsReadBack x
  back_by t typed_ vars works (leaf.Const s) m =
      let r = rowed db.rows place s t typed_ m in
      let c = row_constant db S.facts places owns r.label r.row s r.row_is r.inside in
      let low = r.low in
      constant_read db S.facts place s c.within (places.constants_stay s r.row.at place (omega (arith, low)) c.constant)
  back_by t typed_ vars works (leaf.Var s c) m = vars (typed s c) (variable_told db.rows (typed s c) t m)
  back_by t typed_ vars works (leaf.Work c n) m = works c n (work_told db.rows c n t m)

  -- each leaf of a written formula is read as itself
  pub leaves_back : (i : ℕ) (t : Tree) → slice_get (trees (written_steps db options w numbers ds S)) i ≡ Some t → (x : Leaf) → Contains (text db.rows t) x → IsReadBack x
  leaves_back i t at x m =
      let r = get_mapped (name_tree w.names) (trees ds) i t (ap (λ ts. slice_get ts i) (sym (trees_named db options w numbers ds S)) ∙ at) in
      let d = get_mapped (λ (z : WrittenStep). z.tree) ds i r.0 r.1 in
      let f = subst FromRead d.2 (from_read i d.0 d.1) in
      back_by t (es_typed db options w numbers ds S i t at)
      (λ q o. named_variable r.0 f q (subst (λ z. Contains (typed_leaves z) q) (sym r.2) o))
      (λ c n o. named_work r.0 (get_contains (trees ds) i r.0 r.1) f c n (subst (Occurs (work c n)) (sym r.2) o)) x m
