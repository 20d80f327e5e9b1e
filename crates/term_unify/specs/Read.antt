-- The most general tree of a node.
use Rattle.std.specs.Prelude.{◌≡◌, ℕ, ◌<◌, ◌≤◌, None, List, length, ⊤}
use Rattle.mm_base.specs.declared.tree.Tree.{Tree}
use Rattle.mm_base.specs.declared.tree.Tree.TheOpen.{Tree-F}
use Rattle.mm_base.specs.declared.tree.Tree.TheVariants as tree
use Rattle.mm_base.specs.declared.tree.Tree.TheFolds.{fold-Tree, every-Tree}
use Rattle.term_model.specs.Terms.{Term, Free, term_at}
use Rattle.term_model.specs.Links.{Link, target_of}
use Rattle.term_model.specs.Store.{tree_at, Solution}
use Rattle.term_model.specs.Sizes.{size_at, AreSizes}

-- one layer, with each fresh leaf replaced by the tree of its number
abbrev pub fill_step : (ℕ → Tree) → Tree-F Tree → Tree
fill_step at (Tree-F.Var sym code) = tree.Var sym code
fill_step at (Tree-F.Work code number) = tree.Work code number
fill_step at (Tree-F.Fresh code number) = at number
fill_step at (Tree-F.Node label code children) = tree.Node label code children

-- a tree with each fresh leaf replaced
unfoldable pub filled : (ℕ → Tree) → Tree → Tree
filled at = fold-Tree Tree (fill_step at)

-- in every solution the node has this tree, with the solution's trees in place of the fresh leaves
abbrev pub IsReadOf : List Term → List Link → ℕ → Tree → Type 0
IsReadOf nodes links i t = (trees : List Tree) → Solution nodes links trees → filled (tree_at trees) t ≡ tree_at trees i

-- a fresh leaf has the number and the typecode of a free node that is not bound
abbrev pub IsFreshOf : List Term → List Link → Tree-F Tree → Type 0
IsFreshOf nodes links (Tree-F.Var sym code) = ⊤
IsFreshOf nodes links (Tree-F.Work code number) = ⊤
IsFreshOf nodes links (Tree-F.Fresh code number) = (number < length nodes) × (target_of links number ≡ None) × (term_at nodes number ≡ Free code)
IsFreshOf nodes links (Tree-F.Node label code children) = ⊤

abbrev pub HasFreshOf : List Term → List Link → Tree → Type 0
HasFreshOf nodes links t = every-Tree (IsFreshOf nodes links) t

-- the tokens of a text that is read
abbrev pub most_read_tokens : ℕ
most_read_tokens = 4095

-- the text of the node's tree is short enough
abbrev pub IsShort : List Term → List Link → ℕ → Type 0
IsShort nodes links i = (sizes : List ℕ) × AreSizes nodes links sizes × (size_at sizes i ≤ most_read_tokens)
