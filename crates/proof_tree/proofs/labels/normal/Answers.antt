use Rattle.std.proofs.Common.{◌-◌, length, ap, ◌∙◌, arith}
use Rattle.std.proofs.lemmas.List.{get_or_default}
use Rattle.proof_tree.specs.Graphs.{root_proof, label_count}
use Rattle.proof_tree.proofs.GraphLaws.{root_count, counts_length}
use Rattle.proof_tree.proofs.labels.normal.Goals as goal

pub index-number-requires : goal.index-number-requires
index-number-requires c =
    let many = counts_length c.nodes-nodes.result.now c.in-Ok.counts.items c.in-Ok.ensures in
    omega (arith, many, c.nodes-nodes.ensures.root)

pub returns-then-number-gt-MOST_PROOF_LABELS-clause-too_long : goal.returns-then-number-gt-MOST_PROOF_LABELS-clause-too_long
returns-then-number-gt-MOST_PROOF_LABELS-clause-too_long c =
    let many = counts_length c.nodes-nodes.result.now c.in-Ok.counts.items c.in-Ok.ensures in (
      c.index-number.ensures ∙ get_or_default c.in-Ok.counts.items (length c.nodes-nodes.result.now - 1) _ 0 (omega (arith, many, c.nodes-nodes.ensures.root))
          ∙ root_count c.nodes-nodes.result.now c.in-Ok.counts.items c.nodes-nodes.ensures.root c.in-Ok.ensures ∙ ap (λ ns. label_count (root_proof ns)) c.nodes-nodes.ensures.nodes,
      c.if-number-gt-MOST_PROOF_LABELS.true,
    )
