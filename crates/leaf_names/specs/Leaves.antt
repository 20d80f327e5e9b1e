-- The fresh leaves of a tree, in the order of its text.
use Rattle.std.specs.Prelude.{ℕ, List, [], ◌∷◌, slice_index_or, Option, Some, None}
use Rattle.std.specs.List.{flat_map}
use Rattle.mm_base.specs.declared.tree.Tree.{Tree}
use Rattle.mm_base.specs.declared.tree.Tree.TheOpen.{Tree-F}
use Rattle.mm_base.specs.declared.tree.Tree.TheFolds.{fold-Tree}
use Rattle.mm_model.specs.declared.rows.Item.{Item}
use Rattle.mm_model.specs.declared.rows.Item.TheVariants as item
use Rattle.mm_model.specs.declared.rows.Production.{Production}
use Rattle.mm_model.specs.Texts.{row_of}

-- a fresh leaf: the symbol of its typecode, and its number
abbrev pub FreshLeaf : Type 0
FreshLeaf = ℕ × ℕ

abbrev pub fresh_leaf : ℕ → ℕ → FreshLeaf
fresh_leaf c n = (c, n)

-- those of an item, where the children have these
abbrev pub item_leaves : List (List FreshLeaf) → Item → List FreshLeaf
item_leaves xss (item.Const s) = []
item_leaves xss (item.Slot k) = slice_index_or xss k []

abbrev pub items_leaves : List (List FreshLeaf) → List Item → List FreshLeaf
items_leaves xss items = flat_map (item_leaves xss) items

abbrev pub row_leaves : List (List FreshLeaf) → Option Production → List FreshLeaf
row_leaves xss None = []
row_leaves xss (Some r) = items_leaves xss r.items

-- those of one layer, where the children have these
abbrev pub layer_fresh : List Production → Tree-F (List FreshLeaf) → List FreshLeaf
layer_fresh rows (Tree-F.Var s c) = []
layer_fresh rows (Tree-F.Work c n) = []
layer_fresh rows (Tree-F.Fresh c n) = fresh_leaf c.0.0 n ∷ []
layer_fresh rows (Tree-F.Node l c xss) = row_leaves xss (row_of rows l)

-- those of a tree
unfoldable pub fresh_leaves : List Production → Tree → List FreshLeaf
fresh_leaves rows = fold-Tree (List FreshLeaf) (layer_fresh rows)
