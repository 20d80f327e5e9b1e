-- The trees of a text stand in a list, and so it is decided how many there are.
use Rattle.std.specs.Prelude.{◌≡◌, ◌<◌, ◌⊎◌, ℕ, zero, suc, List, [], ◌∷◌, ◌++◌, length, map, flat_map, filter_map, slice_get, Contains, Option, Some, None, refl}
use Rattle.std.specs.List.{AllByRecursion}
use Rattle.std.proofs.Common.{sym, ap, subst, ◌∙◌, arith, inl, inr}
use Rattle.std.proofs.lemmas.List.{length-map}
use Rattle.std.proofs.lemmas.List.Elements.{Contains-append_left, Contains-append_right}
use Rattle.mm_base.specs.declared.symbols.Sym.{Sym}
use Rattle.mm_base.specs.declared.symbols.Label.{Label}
use Rattle.mm_base.specs.declared.symbols.Typecode.{Typecode}
use Rattle.mm_base.specs.declared.tree.Tree.{Tree}
use Rattle.mm_base.specs.declared.tree.Tree.TheVariants.{Var, Work, Fresh, Node}
use Rattle.mm_base.specs.declared.tree.Tree.TheOpen.{Tree-F}
use Rattle.mm_base.specs.Trees.{Each, code_of}
use Rattle.mm_base.proofs.TreeInduction.{tree_ind}
use Rattle.mm_model.specs.declared.rows.Leaf.{Leaf}
use Rattle.mm_model.specs.declared.rows.Leaf.TheVariants as leaf
use Rattle.mm_model.specs.declared.rows.Production.{Production}
use Rattle.mm_model.specs.Rows.{IsGrammar}
use Rattle.mm_model.specs.Texts.{row_of, text}
use Rattle.mm_model.specs.Typed.{LayerIsTyped, IsTyped, HasNoFresh, Parses}
use Rattle.mm_model.proofs.RowLaws.{row_stands}
use Rattle.mm_model.proofs.TextLaws.{text-Var, text-Work}
use Rattle.mm_model.proofs.TypedLaws.{typed-Var, typed-Work, typed-Node, typed_here, typed_held, named-Var, named-Work, named-Node, named_held, fresh_is_not_named}
use Rattle.mm_model.specs.Names.{Name}
use Rattle.mm_model.specs.Book.{Database, logic_code}
use Rattle.solve_model.specs.Firsts.{IsFirstOrNone}
use Rattle.solve_model.specs.Formulas.{expression_of, IsTreeOf, IsTheTree, HasNoTree, HasTwoTrees}
use Rattle.answer_laws.proofs.Elements.{first, stands_in, contained_has, in_pieces, in_kept, in_mapped}
use Rattle.writing_laws.specs.Decisions.{Decided}
use Rattle.writing_laws.proofs.Decide.{both_decided, decided_with, less_decided, numbers_decided, codes_decided, lists_decided, trees_decided, first_or_none, first_holds, none_holds}
use Rattle.writing_laws.proofs.Lighter.{weight, IsChild, child_is}

-- ---- lists of so many elements

tuples : {X : Type 0} → ℕ → List X → List (List X)
tuples zero xs = [] ∷ []
tuples (suc n) xs = flat_map (λ x. map (λ ys. x ∷ ys) (tuples n xs)) xs

in_tuples : {X : Type 0} (ys xs : List X) → AllByRecursion (Contains xs) ys → Contains (tuples (length ys) xs) ys
unfolding tuples
in_tuples [] xs h = first [] [] [] refl
in_tuples (y ∷ ys) xs h =
    in_pieces (λ x. map (λ zs. x ∷ zs) (tuples (length ys) xs)) xs y (y ∷ ys) h.0 (in_mapped (λ zs. y ∷ zs) (tuples (length ys) xs) ys (in_tuples ys xs h.1))

-- ---- all trees up to a weight

module _ (rows : List Production) (e : List Leaf) where
  abbrev leaf_tree : Leaf → Option Tree
  leaf_tree (leaf.Const s) = None
  leaf_tree (leaf.Var s c) = Some (Var s c)
  leaf_tree (leaf.Work c n) = Some (Work c n)

  abbrev row_trees : List Tree → Production → List Tree
  row_trees ts r = map (λ us. Node r.label r.gives us) (tuples (length r.slots) ts)

  pub trees_to : ℕ → List Tree
  trees_to zero = []
  trees_to (suc n) = filter_map leaf_tree e ++ flat_map (row_trees (trees_to n)) rows

  at_leaf : (n : ℕ) (x : Leaf) (t : Tree) → Contains e x → leaf_tree x ≡ Some t → Contains (trees_to (suc n)) t
  unfolding trees_to
  at_leaf n x t o k = Contains-append_left (filter_map leaf_tree e) (flat_map (row_trees (trees_to n)) rows) t (in_kept leaf_tree e x t o k)

  at_row : (n : ℕ) (r : Production) (us : List Tree) → Contains rows r → length us ≡ length r.slots → AllByRecursion (Contains (trees_to n)) us → Contains (trees_to (suc n)) (Node r.label r.gives us)
  unfolding trees_to
  at_row n r us o k h =
      Contains-append_right (filter_map leaf_tree e) (flat_map (row_trees (trees_to n)) rows) (Node r.label r.gives us)
      (in_pieces (row_trees (trees_to n)) rows r (Node r.label r.gives us) o
      (in_mapped (λ ts. Node r.label r.gives ts) (tuples (length r.slots) (trees_to n)) us (subst (λ m. Contains (tuples m (trees_to n)) us) k (in_tuples us (trees_to n) h))))

  module _ (grammar : IsGrammar rows) (before : ℕ) where
    -- a tree over the leaves of the text
    pub record IsOver (n : ℕ) (t : Tree) : Type 0 where
      pub typed : IsTyped rows before t
      pub named : HasNoFresh t
      pub inside : (x : Leaf) → Contains (text rows t) x → Contains e x
      pub light : weight rows (length (text rows t)) (code_of t) < n

    abbrev Stands : ℕ → Tree → Type 0
    Stands n t = IsOver n t → Contains (trees_to n) t

    children_stand : (n : ℕ) (ts us : List Tree) (k : ℕ) → ((t : Tree) → Stands n t) → ((j : ℕ) (u : Tree) → slice_get us j ≡ Some u → IsOver n u) → AllByRecursion (Contains (trees_to n)) us
    children_stand n ts [] k all h = tt
    children_stand n ts (u ∷ us) k all h = (all u (h 0 u refl), children_stand n ts us k all (λ j v e. h (suc j) v e))

    at_node : (n : ℕ) (l : Label) (c : Typecode) (ts : List Tree) → ((t : Tree) → Stands n t) → Stands (suc n) (Node l c ts)
    at_node n l c ts all o =
        let here = typed_here rows before l c ts o.typed in
        let r = here.0 in
        let at = row_stands rows l r here.1 in
        let count : length ts ≡ length r.slots = sym (length-map ts code_of) ∙ ap length here.4 in
        let over = λ (j : ℕ) (u : Tree) (k : slice_get ts j ≡ Some u). made n l c ts o u (child_is rows grammar before l c ts o.typed o.named j u k) in
        subst (λ m. Contains (trees_to (suc n)) (Node m c ts)) at.label_is
        (subst (λ d. Contains (trees_to (suc n)) (Node r.label d ts)) here.3 (at_row n r ts (stands_in rows at.place r at.stands) count (children_stand n ts ts 0 all over)))
      where
        made : (n : ℕ) (l : Label) (c : Typecode) (ts : List Tree) → IsOver (suc n) (Node l c ts) → (u : Tree) → IsChild rows grammar before (Node l c ts) u → IsOver n u
        made n l c ts o u k =
            let low = o.light in
            let less = k.lighter in
            record { typed = k.typed; named = k.named; inside = λ x h. o.inside x (k.inside x h); light = omega (arith, low, less) }

    at_tree : (n : ℕ) → ((t : Tree) → Stands n t) → (t : Tree) → Stands (suc n) t
    at_tree n all = tree_ind (Stands (suc n))
        (λ s c o. at_leaf n (leaf.Var s c) (Var s c) (o.inside (leaf.Var s c) (subst (λ xs. Contains xs (leaf.Var s c)) (sym (text-Var rows s c)) (first (leaf.Var s c) (leaf.Var s c) [] refl))) refl)
        (λ c m o. at_leaf n (leaf.Work c m) (Work c m)
        (o.inside (leaf.Work c m)
        (subst (λ xs. Contains xs (leaf.Work c m)) (sym (text-Work rows c m)) (first (leaf.Work c m) (leaf.Work c m) [] refl))) refl)
        (λ c m o. absurd (fresh_is_not_named c m o.named))
        (λ l c ts h o. at_node n l c ts all o)

    stand : (n : ℕ) (t : Tree) → Stands n t
    stand zero t o = let low = o.light in absurd (omega (arith, low))
    stand (suc n) t o = at_tree n (stand n) t o

    abbrev all_of : Typecode → List Tree
    all_of want = trees_to (suc (weight rows (length e) want))

    -- each tree of the text stands in the list
    pub parsed_stands : (want : Typecode) (t : Tree) → Parses rows before e want t → Contains (all_of want) t
    parsed_stands want t p =
        let same : weight rows (length (text rows t)) (code_of t) ≡ weight rows (length e) want = ap (λ x. weight rows (length x) (code_of t)) p.written ∙ ap (weight rows (length e)) p.code in
        stand (suc (weight rows (length e) want)) t (record {
          typed = p.typed;
          named = p.named;
          inside = λ x o. subst (λ xs. Contains xs x) p.written o;
          light = omega (arith, same);
        })

-- ---- whether a tree is one of the text

all_decided : (P : Tree → Type 0) (ts : List Tree) → Each (λ t. Decided (P t)) ts → Decided (Each P ts)
all_decided P [] h = inl tt
all_decided P (t ∷ ts) h = both_decided h.0 (all_decided P ts h.1)

module _ (rows : List Production) (before : ℕ) where
  layer_decided : (l : Label) (c : Typecode) (ts : List Tree) (o : Option Production) → row_of rows l ≡ o → Decided (LayerIsTyped rows before (Tree-F.Node l c ts))
  layer_decided l c ts None e = inr (λ h. let bad = sym e ∙ h.1 in cc)
  layer_decided l c ts (Some r) e =
      decided_with
      (λ d. (r, e, d.0, d.1.0, d.1.1))
      (λ h.
      let same = row_same h.0 r (sym h.1 ∙ e) in
      let held : (h.0.at < before) × ((h.0.gives ≡ c) × (map code_of ts ≡ h.0.slots)) = (h.2, (h.3, h.4)) in
      subst (λ (x : Production). (x.at < before) × ((x.gives ≡ c) × (map code_of ts ≡ x.slots))) same held)
      (both_decided (less_decided r.at before) (both_decided (codes_decided r.gives c) (lists_decided codes_decided (map code_of ts) r.slots)))
    where
      row_same : (x y : Production) → Some x ≡ Some y → x ≡ y
      row_same x y e = cc

  fresh_typed : (c : Typecode) (n : ℕ) → Decided (HasNoFresh (Fresh c n))
  fresh_typed c n = inr (fresh_is_not_named c n)

  abbrev Both : Tree → Type 0
  Both t = IsTyped rows before t × HasNoFresh t

  each_both : (ts : List Tree) → Each Both ts → Each (IsTyped rows before) ts × Each HasNoFresh ts
  each_both [] h = (tt, tt)
  each_both (t ∷ ts) h = let rest = each_both ts h.1 in ((h.0.0, rest.0), (h.0.1, rest.1))

  each_one : (ts : List Tree) → Each (IsTyped rows before) ts → Each HasNoFresh ts → Each Both ts
  each_one [] h k = tt
  each_one (t ∷ ts) h k = ((h.0, k.0), each_one ts h.1 k.1)

  typed_decided : (t : Tree) → Decided (Both t)
  typed_decided = tree_ind (λ t. Decided (Both t))
      (λ s c. inl (typed-Var rows before s c, named-Var s c))
      (λ c n. inl (typed-Work rows before c n, named-Work c n))
      (λ c n. inr (λ h. fresh_is_not_named c n h.1))
      (λ l c ts h. decided_with
      (λ d. let both = each_both ts d.1 in (typed-Node rows before l c ts d.0 both.0, named-Node l c ts both.1))
      (λ b. (typed_here rows before l c ts b.0, each_one ts (typed_held rows before l c ts b.0) (named_held l c ts b.1)))
      (both_decided (layer_decided l c ts (row_of rows l) refl) (all_decided Both ts h)))

  sym_with : ℕ → Sym
  sym_with n = record { 0 = n }

  syms_decided : (s r : Sym) → Decided (s ≡ r)
  unfolding sym_with
  syms_decided s r = decided_with (λ e. ap sym_with e) (λ e. ap (λ (x : Sym). x.0) e) (numbers_decided s.0 r.0)

  leaves_decided : (x y : Leaf) → Decided (x ≡ y)
  leaves_decided (leaf.Const s) (leaf.Const r) = decided_with (λ e. ap (λ x. leaf.Const x) e) (λ e. cc) (syms_decided s r)
  leaves_decided (leaf.Const s) (leaf.Var r d) = inr (λ e. cc)
  leaves_decided (leaf.Const s) (leaf.Work d n) = inr (λ e. cc)
  leaves_decided (leaf.Var s c) (leaf.Const r) = inr (λ e. cc)
  leaves_decided (leaf.Var s c) (leaf.Var r d) = decided_with (λ p. ap (λ x. leaf.Var x c) p.0 ∙ ap (λ x. leaf.Var r x) p.1) (λ e. (cc, cc)) (both_decided (syms_decided s r) (codes_decided c d))
  leaves_decided (leaf.Var s c) (leaf.Work d n) = inr (λ e. cc)
  leaves_decided (leaf.Work c n) (leaf.Const r) = inr (λ e. cc)
  leaves_decided (leaf.Work c n) (leaf.Var r d) = inr (λ e. cc)
  leaves_decided (leaf.Work c n) (leaf.Work d m) =
      decided_with (λ p. ap (λ x. leaf.Work x n) p.0 ∙ ap (λ x. leaf.Work d x) p.1) (λ e. (cc, cc))
      (both_decided (codes_decided c d) (numbers_decided n m))

  pub parses_decided : (e : List Leaf) (want : Typecode) (t : Tree) → Decided (Parses rows before e want t)
  parses_decided e want t =
      decided_with
      (λ d. record { code = d.0; typed = d.1.0.0; named = d.1.0.1; written = d.1.1 })
      (λ p. (p.code, ((p.typed, p.named), p.written)))
      (both_decided (codes_decided (code_of t) want) (both_decided (typed_decided t) (lists_decided leaves_decided (text rows t) e)))

-- ---- none, one or two

module _ (P : Tree → Type 0) (decide : (t : Tree) → Decided (P t)) (all : List Tree) (stands : (t : Tree) → P t → Contains all t) where
  abbrev IsOther : Tree → Tree → Type 0
  IsOther t u = P u × (t ≡ u → ⊥)

  other_decided : (t u : Tree) → Decided (IsOther t u)
  other_decided t u = both_decided (decide u) (not_decided (trees_decided t u))
    where
      not_decided : {A : Type 0} → Decided A → Decided (A → ⊥)
      not_decided (inl a) = inr (λ n. n a)
      not_decided (inr n) = inl n

  abbrev HowMany : Type 0
  HowMany = ((t : Tree) → P t → ⊥) ⊎ (((t : Tree) × (P t × ((u : Tree) → P u → u ≡ t))) ⊎ ((t : Tree) × (u : Tree) × (P t × P u × (t ≡ u → ⊥))))

  same_by : (t u : Tree) → P u → (IsOther t u → ⊥) → u ≡ t
  same_by t u p n = elim (trees_decided t u) [ inl e ↦ sym e | inr d ↦ absurd (n (p, d)) ]

  by_first : (o : Option Tree) → IsFirstOrNone P all o → HowMany
  by_first None h = inl (λ t p. contained_has (λ x. P x → ⊥) all t (none_holds P all h) (stands t p) p)
  by_first (Some t) h = by_other (first_holds P all t h) (first_or_none (IsOther t) (other_decided t) all)
    where
      by_other : P t → (o : Option Tree) × IsFirstOrNone (IsOther t) all o → HowMany
      by_other p (None, k) = inr (inl (t, (p, λ u q. same_by t u q (contained_has (λ x. IsOther t x → ⊥) all u (none_holds (IsOther t) all k) (stands u q)))))
      by_other p (Some u, k) = let other = first_holds (IsOther t) all u k in inr (inr (t, u, (p, other.0, other.1)))

  pub how_many : HowMany
  how_many = let f = first_or_none P decide all in by_first f.0 f.1

-- ---- the trees of a formula

pub trees_told : (db : Database) → IsGrammar db.rows → (place : ℕ) (tokens : List Name)
    → HasNoTree db place tokens ⊎ (((t : Tree) × IsTheTree db place tokens t) ⊎ HasTwoTrees db place tokens)
trees_told db grammar place tokens =
    by (how_many (IsTreeOf db place tokens) (parses_decided db.rows place (expression_of db place tokens) (logic_code db))
    (all_of db.rows (expression_of db place tokens) grammar place (logic_code db))
    (parsed_stands db.rows (expression_of db place tokens) grammar place (logic_code db)))
  where
    by : HowMany (IsTreeOf db place tokens) (parses_decided db.rows place (expression_of db place tokens) (logic_code db))
        (all_of db.rows (expression_of db place tokens) grammar place (logic_code db))
        (parsed_stands db.rows (expression_of db place tokens) grammar place (logic_code db)) → HasNoTree db place tokens ⊎ (((t : Tree) × IsTheTree db place tokens t) ⊎ HasTwoTrees db place tokens)
    by (inl none) = inl none
    by (inr (inl one)) = inr (inl (one.0, record { parses = one.1.0; only = one.1.1 }))
    by (inr (inr two)) = inr (inr (record { one = two.0; other = two.1; one_parses = two.2.0; other_parses = two.2.1; differ = two.2.2 }))

pub two_decided : (db : Database) → IsGrammar db.rows → (place : ℕ) (tokens : List Name) → Decided (HasTwoTrees db place tokens)
two_decided db grammar place tokens = by (trees_told db grammar place tokens)
  where
    by : HasNoTree db place tokens ⊎ (((t : Tree) × IsTheTree db place tokens t) ⊎ HasTwoTrees db place tokens) → Decided (HasTwoTrees db place tokens)
    by (inl none) = inr (λ h. none h.one h.one_parses)
    by (inr (inl one)) = inr (λ h. h.differ (one.1.only h.one h.one_parses ∙ sym (one.1.only h.other h.other_parses)))
    by (inr (inr two)) = inl two
