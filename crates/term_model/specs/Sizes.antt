-- The tokens of the text of each node's tree.
use Rattle.std.specs.Prelude.{◌≡◌, ℕ, ◌+◌, ◌-◌, ◌^◌, ◌<◌, Bool, true, Option, Some, None, List, length, min, sum, sum_by, slice_index_or, ⊤}
use Rattle.mm_base.specs.declared.symbols.Label.{Label}
use Rattle.mm_base.specs.declared.tree.Tree.{Tree}
use Rattle.mm_base.specs.declared.tree.Tree.TheOpen.{Tree-F}
use Rattle.mm_base.specs.declared.tree.Tree.TheFolds.{fold-Tree}
use Rattle.term_model.specs.declared.shape.Id.{Id}
use Rattle.term_model.specs.Terms.{Term, Var, Free, Node, term_at, is_free}
use Rattle.term_model.specs.Links.{Link, target_of, end_of}
use Rattle.term_model.specs.Store.{tree_at, Solution}
use Rattle.term_model.specs.Marks.{bound_at, parts_of, is_marked, are_marked}

-- a number that stands still at its type's end
abbrev pub saturated : ℕ → ℕ
saturated n = min n (2 ^ 64 - 1)

abbrev pub size_at : List ℕ → ℕ → ℕ
size_at sizes i = slice_index_or sizes i 0

-- the tokens of a term's text, where the nodes' texts have these numbers of tokens
abbrev pub term_tokens : List ℕ → Term → ℕ
term_tokens sizes (Var sym code) = 1
term_tokens sizes (Free code) = 1
term_tokens sizes (Node label code constants children) = constants + sum_by (λ (id : Id). size_at sizes id.0) children

-- each node has the tokens of the term at its end
pub record AreSizes (nodes : List Term) (links : List Link) (sizes : List ℕ) : Type 0 where
  pub count : length sizes ≡ length nodes
  pub each : (i : ℕ) → i < length nodes → size_at sizes i ≡ saturated (term_tokens sizes (term_at nodes (end_of links i)))

-- ---- the tokens of a tree

-- one layer, where the children have these numbers of tokens; a production has the constants of its label
abbrev pub layer_tokens : (Label → ℕ) → Tree-F ℕ → ℕ
layer_tokens constants (Tree-F.Var s c) = 1
layer_tokens constants (Tree-F.Work c n) = 1
layer_tokens constants (Tree-F.Fresh c n) = 1
layer_tokens constants (Tree-F.Node l c below) = constants l + sum below

-- the tokens of a tree's text, a leaf counted as one
unfoldable pub tokens : (Label → ℕ) → Tree → ℕ
tokens constants = fold-Tree ℕ (layer_tokens constants)

-- the term's number of constants is that of its label
abbrev pub HasConstants : (Label → ℕ) → Term → Type 0
HasConstants constants (Var sym code) = ⊤
HasConstants constants (Free code) = ⊤
HasConstants constants (Node label code count children) = count ≡ constants label

abbrev pub HaveConstants : (Label → ℕ) → List Term → Type 0
HaveConstants constants nodes = (i : ℕ) → i < length nodes → HasConstants constants (term_at nodes i)

-- a solution in which the free nodes that are not bound are leaves
pub record IsGeneral (constants : Label → ℕ) (nodes : List Term) (links : List Link) (trees : List Tree) : Type 0 where
  pub solves : Solution nodes links trees
  pub leaves : (i : ℕ) → i < length nodes → target_of links i ≡ None → is_free (term_at nodes i) ≡ true → tokens constants (tree_at trees i) ≡ 1

-- the numbers are those of the trees of such a solution
abbrev pub AreTreeSizes : List Term → List Link → List ℕ → Type 0
AreTreeSizes nodes links sizes =
    (constants : Label → ℕ) (trees : List Tree) → HaveConstants constants nodes → IsGeneral constants nodes links trees → (i : ℕ) → i < length nodes
    → size_at sizes i ≡ saturated (tokens constants (tree_at trees i))

-- ---- while they are counted

-- the tokens of a node, from those of its parts
abbrev pub node_tokens : List ℕ → Option ℕ → Term → ℕ
node_tokens sizes (Some j) e = size_at sizes j
node_tokens sizes None e = saturated (term_tokens sizes e)

-- the marked nodes have their numbers
pub record AreMeasured (nodes : List Term) (bound : List (Option ℕ)) (marks : List Bool) (sizes : List ℕ) : Type 0 where
  pub count : length sizes ≡ length nodes
  pub parts : (i : ℕ) → i < length nodes → is_marked marks i ≡ true → are_marked marks (parts_of nodes bound i) ≡ true
  pub each : (i : ℕ) → i < length nodes → is_marked marks i ≡ true → size_at sizes i ≡ node_tokens sizes (bound_at bound i) (term_at nodes i)

-- all nodes have their numbers
pub record AreAllMeasured (nodes : List Term) (bound : List (Option ℕ)) (sizes : List ℕ) : Type 0 where
  pub marks : List Bool
  pub measured : AreMeasured nodes bound marks sizes
  pub all : (i : ℕ) → i < length nodes → is_marked marks i ≡ true
