-- Leaves of trees: replaced, listed.
use Rattle.std.specs.Prelude.{ℕ, List, [], ◌∷◌, Contains}
use Rattle.std.specs.List.{flat_map}
use Rattle.mm_base.specs.declared.symbols.Sym.{Sym}
use Rattle.mm_base.specs.declared.symbols.Label.{Label}
use Rattle.mm_base.specs.declared.symbols.Typecode.{Typecode}
use Rattle.mm_base.specs.declared.tree.Tree.{Tree}
use Rattle.mm_base.specs.declared.tree.Tree.TheVariants.{Work, Fresh, Node}
use Rattle.mm_base.specs.declared.tree.Tree.TheOpen.{Tree-F}
use Rattle.mm_base.specs.declared.tree.Tree.TheFolds.{fold-Tree}
pub use Rattle.mm_base.specs.SameTrees.{all_pass, layer_same, same_tree}

-- an open leaf: a work variable, or a fresh leaf
pub data Open : Type 0 where
  work : Typecode → ℕ → Open
  fresh : Typecode → ℕ → Open

abbrev pub leaf_tree : Open → Tree
leaf_tree (work c n) = Work c n
leaf_tree (fresh c n) = Fresh c n

abbrev pub open_code : Open → Typecode
open_code (work c n) = c
open_code (fresh c n) = c

-- one layer, by what is done at a variable, at an open leaf and at a production
abbrev pub layer_leaves : {X : Type 0} → (Sym → Typecode → X) → (Open → X) → (Label → Typecode → List X → X) → Tree-F X → X
layer_leaves at_var at_open at_node (Tree-F.Var s c) = at_var s c
layer_leaves at_var at_open at_node (Tree-F.Work c n) = at_open (work c n)
layer_leaves at_var at_open at_node (Tree-F.Fresh c n) = at_open (fresh c n)
layer_leaves at_var at_open at_node (Tree-F.Node l c ts) = at_node l c ts

-- the tree with each variable and each open leaf replaced
unfoldable pub replace : (Sym → Typecode → Tree) → (Open → Tree) → Tree → Tree
replace at_var at_open = fold-Tree Tree (layer_leaves at_var at_open (λ l c ts. Node l c ts))

abbrev pub flatten : {X : Type 0} → List (List X) → List X
flatten xss = flat_map (λ xs. xs) xss

-- the open leaves of a tree
unfoldable pub open_leaves : Tree → List Open
open_leaves = fold-Tree (List Open) (layer_leaves (λ s c. []) (λ x. x ∷ []) (λ l c xss. flatten xss))

-- the variables of a tree
unfoldable pub variables : Tree → List Sym
variables = fold-Tree (List Sym) (layer_leaves (λ s c. s ∷ []) (λ x. []) (λ l c xss. flatten xss))

-- an open leaf occurs in the tree
abbrev pub Occurs : Open → Tree → Type 0
Occurs x t = Contains (open_leaves t) x
