-- A tree whose fresh leaves are named has a text of as many tokens as it counts.
use Rattle.std.specs.Prelude.{◌≡◌, ◌+◌, ℕ, List, [], ◌∷◌, length, map, Contains, Option, Some, None, refl}
use Rattle.std.proofs.Common.{sym, ap, subst, ◌∙◌, arith, length-append}
use Rattle.std.proofs.lemmas.List.{length-map}
use Rattle.std.proofs.lemmas.List.Elements.{Contains-append_left, Contains-append_right}
use Rattle.std.proofs.Math.ListN.{get_or-map}
use Rattle.mm_base.specs.declared.symbols.Sym.{Sym}
use Rattle.mm_base.specs.declared.symbols.Label.{Label}
use Rattle.mm_base.specs.declared.symbols.Typecode.{Typecode}
use Rattle.mm_base.specs.declared.tree.Tree.{Tree}
use Rattle.mm_base.specs.declared.tree.Tree.TheVariants.{Var, Work, Fresh, Node}
use Rattle.mm_base.specs.Trees.{Each}
use Rattle.mm_base.proofs.TreeInduction.{tree_ind}
use Rattle.mm_base.proofs.TreeFolds.{fold-Var, fold-Work, fold-Fresh, fold-Node}
use Rattle.mm_model.specs.declared.rows.Item.{Item}
use Rattle.mm_model.specs.declared.rows.Item.TheVariants as item
use Rattle.mm_model.specs.declared.rows.Leaf.{Leaf}
use Rattle.mm_model.specs.declared.rows.Production.{Production}
use Rattle.mm_model.specs.Texts.{row_of, text, item_text, items_text, row_text}
use Rattle.mm_model.specs.Book.{Database}
use Rattle.mm_model.proofs.TextLaws.{text-Var, text-Work, text-Node}
use Rattle.solve_model.specs.Trees.{Open, fresh, Occurs, open_leaves, flatten}
use Rattle.solve_model.proofs.TreeLaws.{replace-Var, replace-Work, replace-Fresh, replace-Node, open_leaves-Fresh, open_leaves-Node}
use Rattle.written_model.specs.Named.{Naming, name_fresh, name_leaf, name_tree}
use Rattle.written_model.specs.Written.{leaf_name, formula_tokens}
use Rattle.answer_laws.proofs.Elements.{first}
use Rattle.writing_laws.specs.TokenCounts.{item_count, items_count, row_count, layer_count, token_count, formula_count}

module _ (rows : List Production) where
  pub count-Var : (s : Sym) (c : Typecode) → token_count rows (Var s c) ≡ 1
  unfolding token_count
  count-Var s c = fold-Var ℕ (layer_count rows) s c

  pub count-Work : (c : Typecode) (n : ℕ) → token_count rows (Work c n) ≡ 1
  unfolding token_count
  count-Work c n = fold-Work ℕ (layer_count rows) c n

  pub count-Fresh : (c : Typecode) (n : ℕ) → token_count rows (Fresh c n) ≡ 1
  unfolding token_count
  count-Fresh c n = fold-Fresh ℕ (layer_count rows) c n

  pub count-Node : (l : Label) (c : Typecode) (ts : List Tree) → token_count rows (Node l c ts) ≡ row_count (map (token_count rows) ts) (row_of rows l)
  unfolding token_count
  count-Node l c ts = fold-Node ℕ (layer_count rows) l c ts

  -- ---- the tokens of a row

  item_long : (xs : List (List Leaf)) (i : Item) → length (item_text xs i) ≡ item_count (map length xs) i
  item_long xs (item.Const s) = refl
  item_long xs (item.Slot k) = sym (get_or-map length xs k [])

  items_long : (xs : List (List Leaf)) (is : List Item) → length (items_text xs is) ≡ items_count (map length xs) is
  items_long xs [] = refl
  items_long xs (i ∷ is) = length-append (item_text xs i) (items_text xs is) ∙ ap (λ n. n + length (items_text xs is)) (item_long xs i) ∙ ap (λ n. item_count (map length xs) i + n) (items_long xs is)

  row_long : (xs : List (List Leaf)) (o : Option Production) → length (row_text xs o) ≡ row_count (map length xs) o
  row_long xs None = refl
  row_long xs (Some r) = items_long xs r.items

  -- ---- named trees

  module _ (names : Naming) where
    -- these fresh leaves have names
    abbrev HaveNames : List Open → Type 0
    HaveNames xs = (c : Typecode) (n : ℕ) → Contains xs (fresh c n) → (k : ℕ) × (names c n ≡ Some k)

    abbrev Counted : Tree → Type 0
    Counted t = HaveNames (open_leaves t) → length (text rows (name_tree names t)) ≡ token_count rows t

    all_counted : (ts : List Tree) → Each Counted ts → HaveNames (flatten (map open_leaves ts)) → map length (map (text rows) (map (name_tree names) ts)) ≡ map (token_count rows) ts
    all_counted [] h k = refl
    all_counted (t ∷ ts) h k =
        ap (λ n. n ∷ map length (map (text rows) (map (name_tree names) ts))) (h.0 (λ c n o. k c n (Contains-append_left (open_leaves t) (flatten (map open_leaves ts)) (fresh c n) o)))
        ∙ ap (λ ns. token_count rows t ∷ ns) (all_counted ts h.1 (λ c n o. k c n (Contains-append_right (open_leaves t) (flatten (map open_leaves ts)) (fresh c n) o)))

    fresh_counted : (c : Typecode) (n : ℕ) (o : Option ℕ) (k : ℕ) → o ≡ Some k → length (text rows (name_fresh c n o)) ≡ 1
    fresh_counted c n None k e = absurd (cc)
    fresh_counted c n (Some j) k e = ap length (text-Work rows c j)

    pub counted : (t : Tree) → Counted t
    counted = tree_ind Counted
        (λ s c k. ap (λ t. length (text rows t)) (replace-Var (λ r d. Var r d) (name_leaf names) s c) ∙ ap length (text-Var rows s c) ∙ sym (count-Var s c))
        (λ c n k. ap (λ t. length (text rows t)) (replace-Work (λ r d. Var r d) (name_leaf names) c n) ∙ ap length (text-Work rows c n) ∙ sym (count-Work c n))
        (λ c n k.
        let named = k c n (subst (λ xs. Contains xs (fresh c n)) (sym (open_leaves-Fresh c n)) (first (fresh c n) (fresh c n) [] refl)) in
        ap (λ t. length (text rows t)) (replace-Fresh (λ r d. Var r d) (name_leaf names) c n) ∙ fresh_counted c n (names c n) named.0 named.1 ∙ sym (count-Fresh c n))
        (λ l c ts h k.
        ap (λ t. length (text rows t)) (replace-Node (λ r d. Var r d) (name_leaf names) l c ts) ∙ ap length (text-Node rows l c (map (name_tree names) ts))
        ∙ row_long (map (text rows) (map (name_tree names) ts)) (row_of rows l)
        ∙ ap (λ ns. row_count ns (row_of rows l)) (all_counted ts h (subst HaveNames (open_leaves-Node l c ts) k))
        ∙ sym (count-Node l c ts))

-- so has its formula
pub formula_counted : (db : Database) (names : Naming) (t : Tree) → ((c : Typecode) (n : ℕ) → Occurs (fresh c n) t → (k : ℕ) × (names c n ≡ Some k))
    → length (formula_tokens db (name_tree names t)) ≡ formula_count db t
formula_counted db names t named =
    let same : length (map (leaf_name db) (text db.rows (name_tree names t))) ≡ token_count db.rows t = length-map (text db.rows (name_tree names t)) (leaf_name db) ∙ counted db.rows names t named in
    omega (arith, same)
