-- The leaf of an unbound free node of a store, where some nodes are those of work variables.
use Rattle.std.specs.Prelude.{ℕ, ◌==◌, nat_le, if◌then◌else◌, List, [], ◌∷◌, Option, Some, None}
use Rattle.mm_base.specs.declared.symbols.Typecode.{Typecode}
use Rattle.mm_base.specs.declared.tree.Tree.{Tree}
use Rattle.mm_base.specs.declared.tree.Tree.TheVariants.{Work, Fresh}
use Rattle.chain_laws.specs.declared.leaves.WorkNode.{WorkNode}
use Rattle.term_model.specs.Links.{Link, end_of}

abbrev pub lesser : WorkNode → Option WorkNode → WorkNode
lesser w None = w
lesser w (Some v) = if nat_le w.number v.number then w else v

-- of the work variables whose bindings end at a node, the one of least number
abbrev pub least_at : List Link → ℕ → List WorkNode → Option WorkNode
least_at links e [] = None
least_at links e (w ∷ ws) = if end_of links w.node == e then Some (lesser w (least_at links e ws)) else least_at links e ws

abbrev pub named_leaf : ℕ → Typecode → Option WorkNode → Tree
named_leaf e c None = Fresh c e
named_leaf e c (Some w) = Work w.code w.number

-- the leaf of a node: that work variable, or else a fresh leaf of the node's number
abbrev pub leaf_at : List Link → List WorkNode → ℕ → Typecode → Tree
leaf_at links works e c = named_leaf e c (least_at links e works)
