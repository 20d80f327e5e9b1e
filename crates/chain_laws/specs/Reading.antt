-- The trees that are read off a store, and the valuation of its unknowns.
use Rattle.std.specs.Prelude.{◌≡◌, ℕ, List, length, map, zero, suc}
use Rattle.std.specs.List.{AllByRecursion, range_with_len}
use Rattle.mm_base.specs.declared.symbols.Typecode.{Typecode}
use Rattle.mm_base.specs.declared.tree.Tree.{Tree}
use Rattle.mm_base.specs.declared.tree.Tree.TheVariants as tree
use Rattle.solve_model.specs.Solutions.{Valuation}
use Rattle.term_model.specs.declared.shape.Id.{Id}
use Rattle.term_model.specs.Terms.{Term, Var, Free, Node, term_at, no_code}
use Rattle.term_model.specs.Links.{Link, end_of}
use Rattle.chain_laws.specs.declared.leaves.WorkNode.{WorkNode}
use Rattle.chain_laws.specs.Leaves.{leaf_at}
use Rattle.chain_laws.specs.Layout.{Layout, valuation_of}

-- the tree of a term, by its leaf and the trees of its children
abbrev pub made : (ℕ → Typecode → Tree) → ℕ → (ℕ → Tree) → Term → Tree
made leaf e below (Var s c) = tree.Var s c
made leaf e below (Free c) = leaf e c
made leaf e below (Node l c k kids) = tree.Node l c (map (λ (id : Id). below id.0) kids)

-- the tree of a node that is less deep than this
unfoldable pub read : List Term → List Link → (ℕ → Typecode → Tree) → ℕ → ℕ → Tree
read nodes links leaf zero i = tree.Fresh no_code 0
read nodes links leaf (suc depth) i = made leaf (end_of links i) (read nodes links leaf depth) (term_at nodes (end_of links i))

-- the tree of a node: each unbound free node has the least work variable that ends there, or else a fresh leaf of its number
abbrev pub value_at : List Term → List Link → List WorkNode → ℕ → Tree
value_at nodes links works i = read nodes links (leaf_at links works) (length nodes) i

abbrev pub store_trees : List Term → List Link → List WorkNode → List Tree
store_trees nodes links works = map (value_at nodes links works) (range_with_len 0 (length nodes))

-- what the store gives to the unknowns
abbrev pub value_of_store : List Term → List Link → Layout → Valuation
value_of_store nodes links lay = valuation_of lay (store_trees nodes links lay.works)

-- the nodes of the work variables are free nodes of their typecodes
abbrev pub AreWorkNodes : List Term → List WorkNode → Type 0
AreWorkNodes nodes works = AllByRecursion (λ (w : WorkNode). term_at nodes w.node ≡ Free w.code) works
