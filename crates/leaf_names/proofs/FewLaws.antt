-- Few work variables are read: no more than the work size of the worksheet.
use Rattle.std.specs.Prelude.{◌≡◌, ◌≤◌, ◌+◌, ℕ, suc, List, [], ◌∷◌, ◌++◌, length, map, sum, count_by, flat_map, filter_map, slice_get, slice_index_or}
use Rattle.std.specs.Prelude.{Option, Some, None, if◌then◌else◌, refl}
use Rattle.std.specs.Option.{option_map_or}
use Rattle.std.proofs.Common.{sym, ap, subst, ◌∙◌, arith}
use Rattle.std.proofs.Math.ListN.{get_or-map}
use Rattle.std.proofs.lemmas.List.{length-append, length-map}
use Rattle.std.proofs.lemmas.List.Elements.{filter_map-append}
use Rattle.std.proofs.lemmas.List.Sums.{sum_by-cons}
use Rattle.mm_base.specs.declared.symbols.Sym.{Sym}
use Rattle.mm_base.specs.declared.symbols.Label.{Label}
use Rattle.mm_base.specs.declared.symbols.Typecode.{Typecode}
use Rattle.mm_base.specs.declared.tree.Tree.{Tree}
use Rattle.mm_base.specs.declared.tree.Tree.TheVariants.{Var, Work, Fresh, Node}
use Rattle.mm_base.specs.Trees.{Each, code_of}
use Rattle.mm_base.proofs.TreeInduction.{tree_ind}
use Rattle.mm_base.proofs.TreeFolds.{fold-Var, fold-Work, fold-Fresh, fold-Node}
use Rattle.mm_model.specs.declared.rows.Item.{Item}
use Rattle.mm_model.specs.declared.rows.Item.TheVariants as item
use Rattle.mm_model.specs.declared.rows.Leaf.{Leaf}
use Rattle.mm_model.specs.declared.rows.Production.{Production}
use Rattle.mm_model.specs.Book.{Database}
use Rattle.mm_model.specs.Rows.{slot_order, EachOnce, IsGrammar}
use Rattle.mm_model.specs.Sizes.{layer_nodes, nodes}
use Rattle.mm_model.specs.Texts.{text, items_text, row_text}
use Rattle.mm_model.specs.Typed.{IsTyped}
use Rattle.mm_model.proofs.RowLaws.{is_row, row_stands}
use Rattle.mm_model.proofs.TextLaws.{text-Var, text-Work, text-Fresh, text-Node}
use Rattle.mm_model.proofs.TypedLaws.{typed_here, typed_held}
use Rattle.sheet_text.specs.declared.sheet.Sheet.{Sheet}
use Rattle.solve_model.specs.declared.bound.Bound.{Bound}
use Rattle.solve_model.specs.declared.bound.BoundStep.{BoundStep}
use Rattle.solve_model.specs.Bound.{Binds, standing, standing_size, step_size, work_size}
use Rattle.written_model.specs.Named.{work_leaf}
use Rattle.answer_laws.proofs.OneBinding.{trees_are_read}
use Rattle.writing_laws.specs.StoreCounts.{is_constant}
use Rattle.writing_laws.specs.TokenCounts.{items_count}
use Rattle.writing_laws.proofs.StoreCounts.{items_sum}
use Rattle.leaf_names.specs.Tables.{step_leaves, read_leaves}

abbrev works_of : List Leaf → ℕ
works_of ls = length (filter_map work_leaf ls)

works_append : (xs ys : List Leaf) → works_of (xs ++ ys) ≡ works_of xs + works_of ys
works_append xs ys = ap (λ zs. length zs) (filter_map-append work_leaf xs ys) ∙ length-append (filter_map work_leaf xs) (filter_map work_leaf ys)

-- ---- a row

item_works : (xss : List (List Leaf)) (k : ℕ) → works_of (slice_index_or xss k []) ≡ slice_index_or (map works_of xss) k 0
item_works xss k = sym (get_or-map works_of xss k [])

items_works : (xss : List (List Leaf)) (is : List Item) → works_of (items_text xss is) + count_by is_constant is ≡ items_count (map works_of xss) is
items_works xss [] = refl
items_works xss (item.Const s ∷ is) =
    let rest = items_works xss is in
    let more : count_by is_constant (item.Const s ∷ is) ≡ 1 + count_by is_constant is = sum_by-cons (λ i. if is_constant i then 1 else 0) (item.Const s) is in
    omega (arith, rest, more)
items_works xss (item.Slot k ∷ is) =
    let rest = items_works xss is in
    let more : count_by is_constant (item.Slot k ∷ is) ≡ 0 + count_by is_constant is = sum_by-cons (λ i. if is_constant i then 1 else 0) (item.Slot k) is in
    let both = works_append (slice_index_or xss k []) (items_text xss is) in
    let one = item_works xss k in
    omega (arith, rest, more, both, one)

nodes-Var : (s : Sym) (c : Typecode) → nodes (Var s c) ≡ 1
unfolding nodes
nodes-Var s c = fold-Var ℕ layer_nodes s c

nodes-Work : (c : Typecode) (n : ℕ) → nodes (Work c n) ≡ 1
unfolding nodes
nodes-Work c n = fold-Work ℕ layer_nodes c n

nodes-Fresh : (c : Typecode) (n : ℕ) → nodes (Fresh c n) ≡ 1
unfolding nodes
nodes-Fresh c n = fold-Fresh ℕ layer_nodes c n

nodes-Node : (l : Label) (c : Typecode) (ts : List Tree) → nodes (Node l c ts) ≡ sum (map nodes ts) + 1
unfolding nodes
nodes-Node l c ts = fold-Node ℕ layer_nodes l c ts

module _ (rows : List Production) (before : ℕ) (grammar : IsGrammar rows) where
  abbrev works : Tree → ℕ
  works t = works_of (text rows t)

  abbrev Few : Tree → Type 0
  Few t = IsTyped rows before t → works t ≤ nodes t

  map_works : (ts : List Tree) → map works_of (map (text rows) ts) ≡ map works ts
  map_works [] = refl
  map_works (t ∷ ts) = ap (λ ns. works t ∷ ns) (map_works ts)

  all_few : (ts : List Tree) → Each Few ts → Each (IsTyped rows before) ts → sum (map works ts) ≤ sum (map nodes ts)
  all_few [] h k = omega arith
  all_few (t ∷ ts) h k =
      let one = h.0 k.0 in
      let rest = all_few ts h.1 k.1 in
      let a = sum_by-cons (λ x. x) (works t) (map works ts) in
      let b = sum_by-cons (λ x. x) (nodes t) (map nodes ts) in
      added (sum (map works (t ∷ ts))) (works t) (sum (map works ts)) (sum (map nodes (t ∷ ts))) (nodes t) (sum (map nodes ts)) a b one rest
    where
      added : (s a b r c d : ℕ) → s ≡ a + b → r ≡ c + d → a ≤ c → b ≤ d → s ≤ r
      added s a b r c d e f l m = omega (arith, e, f, l, m)

  at_node : (l : Label) (c : Typecode) (ts : List Tree) → Each Few ts → Few (Node l c ts)
  at_node l c ts h p =
      let here = typed_here rows before l c ts p in
      let r = here.0 in
      let at = row_stands rows l r here.1 in
      let row = is_row rows grammar.rows_hold at.place r at.stands in
      let long : length (map works ts) ≡ length r.slots = length-map ts works ∙ sym (length-map ts code_of) ∙ ap length here.4 in
      let once : EachOnce (length (map works ts)) (slot_order r.items) = subst (λ n. EachOnce n (slot_order r.items)) (sym long) row.each_once in
      let written = ap works_of (text-Node rows l c ts ∙ ap (row_text (map (text rows) ts)) here.1) in
      let counted = items_works (map (text rows) ts) r.items ∙ ap (λ ns. items_count ns r.items) (map_works ts) ∙ items_sum (map works ts) r.items once in
      let few = all_few ts h (typed_held rows before l c ts p) in
      let size = nodes-Node l c ts in
      bounded (works (Node l c ts)) (works_of (items_text (map (text rows) ts) r.items)) (count_by is_constant r.items)
      (sum (map works ts)) (sum (map nodes ts)) (nodes (Node l c ts)) written counted few size
    where
      bounded : (w v k s n m : ℕ) → w ≡ v → v + k ≡ k + s → s ≤ n → m ≡ n + 1 → w ≤ m
      bounded w v k s n m e f l g = omega (arith, e, f, l, g)

  -- a typed tree has no more work variables than nodes
  pub few_works : (t : Tree) → Few t
  few_works = tree_ind Few
      (λ s c p. let w = ap works_of (text-Var rows s c) in let n = nodes-Var s c in omega (arith, w, n))
      (λ c k p. let w = ap works_of (text-Work rows c k) in let n = nodes-Work c k in omega (arith, w, n))
      (λ c k p. let w = ap works_of (text-Fresh rows c k) in let n = nodes-Fresh c k in omega (arith, w, n))
      at_node

-- ---- a worksheet

module _ (db : Database) (grammar : IsGrammar db.rows) (place : ℕ) where
  abbrev AreTyped : List BoundStep → Type 0
  AreTyped ss = (i : ℕ) (s : BoundStep) (t : Tree) → slice_get ss i ≡ Some s → s.tree ≡ Some t → IsTyped db.rows place t

  one_step : (s : BoundStep) → ((t : Tree) → s.tree ≡ Some t → IsTyped db.rows place t) → length (step_leaves db.rows s) ≤ step_size db place s
  one_step s typed = by s.tree refl
    where
      within : (l n k m : ℕ) → l ≤ n → m ≡ n + k → l ≤ m
      within l n k m a e = omega (arith, a, e)

      by : (o : Option Tree) → s.tree ≡ o → length (step_leaves db.rows s) ≤ step_size db place s
      by None e = subst (λ n. n ≤ step_size db place s) (sym (ap (λ p. length (option_map_or (λ (t : Tree). filter_map work_leaf (text db.rows t)) p [])) e)) (omega arith)
      by (Some t) e =
          subst (λ n. n ≤ step_size db place s) (sym (ap (λ p. length (option_map_or (λ (u : Tree). filter_map work_leaf (text db.rows u)) p [])) e))
          (within (works_of (text db.rows t)) (nodes t) (standing_size (standing db place s)) (step_size db place s) (few_works db.rows place grammar t (typed t e))
          (ap (λ p. option_map_or nodes p 1 + standing_size (standing db place s)) e))

  all_steps : (ss : List BoundStep) → AreTyped ss → length (flat_map (step_leaves db.rows) ss) ≤ sum (map (step_size db place) ss)
  all_steps [] typed = omega arith
  all_steps (s ∷ ss) typed =
      let one = one_step s (λ t e. typed 0 s t refl e) in
      let rest = all_steps ss (λ i r t e k. typed (suc i) r t e k) in
      let long = length-append (step_leaves db.rows s) (flat_map (step_leaves db.rows) ss) in
      let size = sum_by-cons (λ x. x) (step_size db place s) (map (step_size db place) ss) in
      added (length (flat_map (step_leaves db.rows) (s ∷ ss))) (length (step_leaves db.rows s)) (length (flat_map (step_leaves db.rows) ss))
      (sum (map (step_size db place) (s ∷ ss))) (step_size db place s) (sum (map (step_size db place) ss)) long size one rest
    where
      added : (s a b r c d : ℕ) → s ≡ a + b → r ≡ c + d → a ≤ c → b ≤ d → s ≤ r
      added s a b r c d e f l m = omega (arith, e, f, l, m)

-- the work variables that were read are no more than the work size
pub works_within : (db : Database) (grammar : IsGrammar db.rows) (s : Sheet) (bound : Bound) → Binds db s bound → length (read_leaves db.rows bound) ≤ work_size db bound
works_within db grammar s bound binds =
    all_steps db grammar bound.place bound.steps (λ i r t e k. (trees_are_read db s bound binds i r t e k).typed)
