use Rattle.std.proofs.Common.{◌+◌, ◌<◌, length, take, sym, subst, ap, ◌∙◌}
use Rattle.proof_tree.specs.Graphs.{IsGraph}
use Rattle.proof_tree.proofs.KeyLaws.{front_is_graph, front_is}
use Rattle.proof_tree.proofs.builder.GraphBuilder.finish.Goals as goal

pub invariant_of-result : goal.invariant_of-result
invariant_of-result c =
    subst IsGraph (sym c.in-Ok.ensures)
    (front_is_graph c.self.inside.keys.keys c.truncate.new.self.keys c.args.root c.self.invariant.0 c.self.invariant.1 (subst (λ ns. c.args.root < length ns) (sym c.self.view_is) c.requires)
    c.truncate.ensures.keys c.truncate.ensures.unique)

pub returns-in-Ok : goal.returns-in-Ok
returns-in-Ok c =
    c.in-Ok.ensures ∙ front_is c.self.inside.keys.keys c.truncate.new.self.keys c.args.root c.truncate.ensures.keys ∙ ap (take (c.args.root + 1)) c.self.view_is
