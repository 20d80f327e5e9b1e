-- The leaves of a tree, in the order of the tree and in the order of its text.
use Rattle.std.specs.Prelude.{◌≡◌, ℕ, List, [], ◌∷◌, ◌++◌, map, slice_index_or, Option, Some, None, refl}
use Rattle.std.specs.List.{flat_map, filter_map, cons_option}
use Rattle.std.proofs.Common.{sym, ap, ◌∙◌}
use Rattle.std.proofs.lemmas.List.Elements.{filter_map-append}
use Rattle.std.proofs.Math.ListN.{get_or-map}
use Rattle.mm_base.specs.declared.symbols.Sym.{Sym}
use Rattle.mm_base.specs.declared.symbols.Label.{Label}
use Rattle.mm_base.specs.declared.symbols.Typecode.{Typecode}
use Rattle.mm_base.specs.declared.tree.Tree.{Tree}
use Rattle.mm_base.specs.declared.tree.Tree.TheVariants.{Var, Work, Fresh, Node}
use Rattle.mm_base.specs.declared.tree.Tree.TheFolds.{fold-Tree}
use Rattle.mm_base.specs.Trees.{Each}
use Rattle.mm_base.proofs.TreeInduction.{tree_ind}
use Rattle.mm_base.proofs.TreeFolds.{fold-Var, fold-Work, fold-Fresh, fold-Node}
use Rattle.mm_model.specs.declared.rows.Item.{Item}
use Rattle.mm_model.specs.declared.rows.Item.TheVariants as item
use Rattle.mm_model.specs.declared.rows.Leaf.{Leaf}
use Rattle.mm_model.specs.declared.rows.Leaf.TheVariants as leaf
use Rattle.mm_model.specs.declared.rows.Production.{Production}
use Rattle.mm_model.specs.Texts.{row_of, text, item_text, items_text, row_text}
use Rattle.mm_model.proofs.TextLaws.{text-Node}
use Rattle.solve_model.specs.Trees.{Open, work, fresh, replace, open_leaves, variables, flatten, layer_leaves}
use Rattle.solve_model.proofs.TreeLaws.{replace-Var, replace-Work, replace-Fresh, replace-Node, open_leaves-Var, open_leaves-Work, open_leaves-Fresh}
use Rattle.solve_model.proofs.TreeLaws.{open_leaves-Node, variables-Var, variables-Work, variables-Fresh, variables-Node}

-- a leaf: a variable, or an open leaf
pub data Mark : Type 0 where
  variable : Sym → Typecode → Mark
  open_leaf : Open → Mark

-- the leaves in the order of the tree
unfoldable pub leaves : Tree → List Mark
leaves = fold-Tree (List Mark) (layer_leaves (λ s c. variable s c ∷ []) (λ x. open_leaf x ∷ []) (λ l c xss. flatten xss))

abbrev pub item_marks : List (List Mark) → Item → List Mark
item_marks xss (item.Const s) = []
item_marks xss (item.Slot k) = slice_index_or xss k []

abbrev pub row_marks : List (List Mark) → Option Production → List Mark
row_marks xss None = []
row_marks xss (Some r) = flat_map (item_marks xss) r.items

-- the leaves in the order of the text
unfoldable pub marks : List Production → Tree → List Mark
marks rows = fold-Tree (List Mark) (layer_leaves (λ s c. variable s c ∷ []) (λ x. open_leaf x ∷ []) (λ l c xss. row_marks xss (row_of rows l)))

pub leaves-Var : (s : Sym) (c : Typecode) → leaves (Var s c) ≡ variable s c ∷ []
unfolding leaves
leaves-Var s c = fold-Var (List Mark) _ s c

pub leaves-Work : (c : Typecode) (n : ℕ) → leaves (Work c n) ≡ open_leaf (work c n) ∷ []
unfolding leaves
leaves-Work c n = fold-Work (List Mark) _ c n

pub leaves-Fresh : (c : Typecode) (n : ℕ) → leaves (Fresh c n) ≡ open_leaf (fresh c n) ∷ []
unfolding leaves
leaves-Fresh c n = fold-Fresh (List Mark) _ c n

pub leaves-Node : (l : Label) (c : Typecode) (ts : List Tree) → leaves (Node l c ts) ≡ flatten (map leaves ts)
unfolding leaves
leaves-Node l c ts = fold-Node (List Mark) _ l c ts

module _ (rows : List Production) where
  pub marks-Var : (s : Sym) (c : Typecode) → marks rows (Var s c) ≡ variable s c ∷ []
  unfolding marks
  marks-Var s c = fold-Var (List Mark) _ s c

  pub marks-Work : (c : Typecode) (n : ℕ) → marks rows (Work c n) ≡ open_leaf (work c n) ∷ []
  unfolding marks
  marks-Work c n = fold-Work (List Mark) _ c n

  pub marks-Fresh : (c : Typecode) (n : ℕ) → marks rows (Fresh c n) ≡ open_leaf (fresh c n) ∷ []
  unfolding marks
  marks-Fresh c n = fold-Fresh (List Mark) _ c n

  pub marks-Node : (l : Label) (c : Typecode) (ts : List Tree) → marks rows (Node l c ts) ≡ row_marks (map (marks rows) ts) (row_of rows l)
  unfolding marks
  marks-Node l c ts = fold-Node (List Mark) _ l c ts

-- ---- open leaves and variables among the leaves

abbrev pub open_part : Mark → Option Open
open_part (variable s c) = None
open_part (open_leaf x) = Some x

abbrev pub variable_part : Mark → Option Sym
variable_part (variable s c) = Some s
variable_part (open_leaf x) = None

open_all : (ts : List Tree) → Each (λ t. filter_map open_part (leaves t) ≡ open_leaves t) ts → filter_map open_part (flatten (map leaves ts)) ≡ flatten (map open_leaves ts)
open_all [] h = refl
open_all (t ∷ ts) h =
    filter_map-append open_part (leaves t) (flatten (map leaves ts)) ∙ ap (λ xs. xs ++ filter_map open_part (flatten (map leaves ts))) h.0 ∙ ap (λ ys. open_leaves t ++ ys) (open_all ts h.1)

pub open_parts : (t : Tree) → filter_map open_part (leaves t) ≡ open_leaves t
open_parts = tree_ind (λ t. filter_map open_part (leaves t) ≡ open_leaves t)
    (λ s c. ap (filter_map open_part) (leaves-Var s c) ∙ sym (open_leaves-Var s c))
    (λ c n. ap (filter_map open_part) (leaves-Work c n) ∙ sym (open_leaves-Work c n))
    (λ c n. ap (filter_map open_part) (leaves-Fresh c n) ∙ sym (open_leaves-Fresh c n))
    (λ l c ts h. ap (filter_map open_part) (leaves-Node l c ts) ∙ open_all ts h ∙ sym (open_leaves-Node l c ts))

variable_all : (ts : List Tree) → Each (λ t. filter_map variable_part (leaves t) ≡ variables t) ts → filter_map variable_part (flatten (map leaves ts)) ≡ flatten (map variables ts)
variable_all [] h = refl
variable_all (t ∷ ts) h =
    filter_map-append variable_part (leaves t) (flatten (map leaves ts)) ∙ ap (λ xs. xs ++ filter_map variable_part (flatten (map leaves ts))) h.0 ∙ ap (λ ys. variables t ++ ys) (variable_all ts h.1)

pub variable_parts : (t : Tree) → filter_map variable_part (leaves t) ≡ variables t
variable_parts = tree_ind (λ t. filter_map variable_part (leaves t) ≡ variables t)
    (λ s c. ap (filter_map variable_part) (leaves-Var s c) ∙ sym (variables-Var s c))
    (λ c n. ap (filter_map variable_part) (leaves-Work c n) ∙ sym (variables-Work c n))
    (λ c n. ap (filter_map variable_part) (leaves-Fresh c n) ∙ sym (variables-Fresh c n))
    (λ l c ts h. ap (filter_map variable_part) (leaves-Node l c ts) ∙ variable_all ts h ∙ sym (variables-Node l c ts))

-- ---- what a text says of replaced leaves

module _ {X : Type 0} (rows : List Production) (a : Sym → Typecode → Tree) (p : Open → Tree) (F : Leaf → Option X) (G : Mark → Option X)
    (constant : (s : Sym) → F (leaf.Const s) ≡ None)
    (at_variable : (s : Sym) (c : Typecode) → filter_map F (text rows (a s c)) ≡ cons_option (G (variable s c)) [])
    (at_open : (x : Open) → filter_map F (text rows (p x)) ≡ cons_option (G (open_leaf x)) []) where
  abbrev Told : Tree → Type 0
  Told t = filter_map F (text rows (replace a p t)) ≡ filter_map G (marks rows t)

  one_item : (xs : List (List Leaf)) (ys : List (List Mark)) → map (filter_map F) xs ≡ map (filter_map G) ys → (i : Item) → filter_map F (item_text xs i) ≡ filter_map G (item_marks ys i)
  one_item xs ys h (item.Const s) = ap (λ o. cons_option o []) (constant s)
  one_item xs ys h (item.Slot k) = sym (get_or-map (filter_map F) xs k []) ∙ ap (λ zs. slice_index_or zs k []) h ∙ get_or-map (filter_map G) ys k []

  all_items : (xs : List (List Leaf)) (ys : List (List Mark)) → map (filter_map F) xs ≡ map (filter_map G) ys → (is : List Item)
      → filter_map F (items_text xs is) ≡ filter_map G (flat_map (item_marks ys) is)
  all_items xs ys h [] = refl
  all_items xs ys h (i ∷ is) =
      filter_map-append F (item_text xs i) (items_text xs is) ∙ ap (λ zs. zs ++ filter_map F (items_text xs is)) (one_item xs ys h i)
      ∙ ap (λ zs. filter_map G (item_marks ys i) ++ zs) (all_items xs ys h is) ∙ sym (filter_map-append G (item_marks ys i) (flat_map (item_marks ys) is))

  row_told : (xs : List (List Leaf)) (ys : List (List Mark)) → map (filter_map F) xs ≡ map (filter_map G) ys → (o : Option Production)
      → filter_map F (row_text xs o) ≡ filter_map G (row_marks ys o)
  row_told xs ys h None = refl
  row_told xs ys h (Some r) = all_items xs ys h r.items

  children : (ts : List Tree) → Each Told ts → map (filter_map F) (map (text rows) (map (replace a p) ts)) ≡ map (filter_map G) (map (marks rows) ts)
  children [] h = refl
  children (t ∷ ts) h = ap (λ zs. zs ∷ map (filter_map F) (map (text rows) (map (replace a p) ts))) h.0 ∙ ap (λ zs. filter_map G (marks rows t) ∷ zs) (children ts h.1)

  pub told : (t : Tree) → Told t
  told = tree_ind Told
      (λ s c. ap (λ u. filter_map F (text rows u)) (replace-Var a p s c) ∙ at_variable s c ∙ ap (filter_map G) (sym (marks-Var rows s c)))
      (λ c n. ap (λ u. filter_map F (text rows u)) (replace-Work a p c n) ∙ at_open (work c n) ∙ ap (filter_map G) (sym (marks-Work rows c n)))
      (λ c n. ap (λ u. filter_map F (text rows u)) (replace-Fresh a p c n) ∙ at_open (fresh c n) ∙ ap (filter_map G) (sym (marks-Fresh rows c n)))
      (λ l c ts h. ap (λ u. filter_map F (text rows u)) (replace-Node a p l c ts) ∙ ap (filter_map F) (text-Node rows l c (map (replace a p) ts))
      ∙ row_told (map (text rows) (map (replace a p) ts)) (map (marks rows) ts) (children ts h) (row_of rows l) ∙ ap (filter_map G) (sym (marks-Node rows l c ts)))
