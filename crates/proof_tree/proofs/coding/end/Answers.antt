use Rattle.std.proofs.Common.{OnOk, position, ap, ◌∙◌, subst}
use Rattle.std.proofs.lemmas.List.{get_or_default}
use Rattle.std.specs.Str.{bytes_eq}
use Rattle.proof_tree.specs.declared.graph.ProofNode.{ProofNode}
use Rattle.proof_tree.specs.Graphs.{no_node}
use Rattle.proof_tree.specs.Coding.{Ends, place_in, what_by, is_shared}
use Rattle.proof_tree.proofs.coding.end.Goals as goal

pub returns : goal.returns
returns c =
    let label = c.as_slice-label.ensures ∙ ap (λ (n : ProofNode). n.label) (get_or_default c.args.nodes.now c.args.number c.index-nodes-number.result no_node c.requires.node) in
    let is = c.what.ensures ∙ ap (λ l. what_by (place_in c.args.mandatory.now.names c.args.mandatory.now.places.items l) (position (bytes_eq l) c.args.labels.now)) label in
    subst (λ w. OnOk c.put.result (Ends c.args.number w (is_shared c.args.nodes.now c.args.uses.now c.args.number) c.args.coder.now c.put.new.self)) is
    (subst (λ m. OnOk c.put.result (Ends c.args.number c.what.result m c.args.coder.now c.put.new.self)) c.is_shared-marked.ensures c.put.ensures)
