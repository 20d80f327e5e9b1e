-- How many tokens a tree has once its fresh leaves are named.
use Rattle.std.specs.Prelude.{◌≡◌, ℕ, ◌+◌, ◌<◌, List, [], ◌∷◌, length, slice_index_or, Option, Some, None}
use Rattle.mm_base.specs.declared.symbols.Typecode.{Typecode}
use Rattle.mm_base.specs.declared.tree.Tree.{Tree}
use Rattle.mm_base.specs.declared.tree.Tree.TheOpen.{Tree-F}
use Rattle.mm_base.specs.declared.tree.Tree.TheFolds.{fold-Tree}
use Rattle.mm_base.specs.Limits.{most_formula_tokens}
use Rattle.mm_model.specs.declared.rows.Item.{Item}
use Rattle.mm_model.specs.declared.rows.Item.TheVariants as item
use Rattle.mm_model.specs.declared.rows.Production.{Production}
use Rattle.mm_model.specs.Texts.{row_of}
use Rattle.mm_model.specs.Book.{Database}
use Rattle.solve_model.specs.Trees.{fresh, Occurs}
use Rattle.written_model.specs.Named.{Naming, name_tree}
use Rattle.written_model.specs.Written.{formula_tokens}

-- what stands for an item, where the children have these numbers of tokens
abbrev pub item_count : List ℕ → Item → ℕ
item_count below (item.Const s) = 1
item_count below (item.Slot k) = slice_index_or below k 0

abbrev pub items_count : List ℕ → List Item → ℕ
items_count below [] = 0
items_count below (i ∷ is) = item_count below i + items_count below is

abbrev pub row_count : List ℕ → Option Production → ℕ
row_count below None = 0
row_count below (Some r) = items_count below r.items

-- one layer; a leaf, also a fresh one, has one token
abbrev pub layer_count : List Production → Tree-F ℕ → ℕ
layer_count rows (Tree-F.Var s c) = 1
layer_count rows (Tree-F.Work c n) = 1
layer_count rows (Tree-F.Fresh c n) = 1
layer_count rows (Tree-F.Node l c below) = row_count below (row_of rows l)

unfoldable pub token_count : List Production → Tree → ℕ
token_count rows = fold-Tree ℕ (layer_count rows)

-- the tokens of a formula, its typecode among them
abbrev pub formula_count : Database → Tree → ℕ
formula_count db t = 1 + token_count db.rows t

abbrev pub IsLong : Database → Tree → Type 0
IsLong db t = most_formula_tokens < formula_count db t

-- with a name for each of its fresh leaves, a tree is written with so many tokens
abbrev pub NamedHasCount : Database → Type 0
NamedHasCount db = (names : Naming) (t : Tree) → ((c : Typecode) (n : ℕ) → Occurs (fresh c n) t → (k : ℕ) × (names c n ≡ Some k))
    → length (formula_tokens db (name_tree names t)) ≡ formula_count db t
