-- A candidate's own copies of variables. This is part of the proof, and not of the claim.
use Rattle.std.specs.Prelude.{Bool, true, false, List, []}
use Rattle.mm_model.specs.declared.frames.Hyp.{Hyp}
use Rattle.mm_model.specs.Productions.{TypedVariable, typed_by}
use Rattle.term_model.specs.Terms.{Term, Free}
use Rattle.chain_laws.specs.declared.leaves.VariableNode.{VariableNode}

abbrev pub typed_if : Bool → Hyp → List TypedVariable
typed_if true h = typed_by h.formula
typed_if false h = []

-- the variable of a `$f`
abbrev pub typed_of : Hyp → List TypedVariable
typed_of h = typed_if h.floating h

abbrev pub free_at : VariableNode → Term
free_at v = Free v.code
