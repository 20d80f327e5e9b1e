-- The nodes of a candidate, behind those of a store. This is part of the proof, and not of the claim.
use Rattle.std.specs.Prelude.{List, [], ◌++◌, length, map}
use Rattle.mm_base.specs.declared.tree.Tree.{Tree}
use Rattle.mm_model.specs.declared.frames.Hyp.{Hyp}
use Rattle.mm_model.specs.declared.rows.Production.{Production}
use Rattle.mm_model.specs.Productions.{typed_variables}
use Rattle.term_model.specs.Terms.{Term}
use Rattle.chain_laws.specs.declared.leaves.VariableNode.{VariableNode}
use Rattle.chain_laws.specs.Adding.{Rooted, Listed, added, run, numbered, free_of}

-- its own copies of the frame's variables
abbrev pub table_of : List Term → List Hyp → List VariableNode
table_of nodes hyps = numbered (length nodes) (typed_variables hyps)

abbrev pub copied : List Term → List Hyp → List Term
copied nodes hyps = nodes ++ map free_of (typed_variables hyps)

-- its conclusion
abbrev pub root_of : List Production → List Term → List Hyp → Tree → Rooted
root_of rows nodes hyps t = added rows [] (table_of nodes hyps) t (copied nodes hyps)

-- and its `$e`
abbrev pub roots_of : List Production → List Term → List Hyp → Tree → List Tree → Listed
roots_of rows nodes hyps t ts = run (map (added rows [] (table_of nodes hyps)) ts) (root_of rows nodes hyps t).nodes
