use Rattle.std.proofs.Common.{◌≡◌, ◌+◌, Some, nat_eq, take, ap, ◌∙◌}
use Rattle.std.specs.HashMap.{get}
use Rattle.std.proofs.lemmas.Result.{IfOk-weaker}
use Rattle.proof_tree.specs.Graphs.{root_proof}
use Rattle.proof_tree.specs.Given.{given_proofs, item_at}
use Rattle.proof_tree.proofs.BuildLaws.{front_root}
use Rattle.proof_tree.proofs.building.build_with.Goals as goal

pub returns-in-Ok : goal.returns-in-Ok
returns-in-Ok c =
    IfOk-weaker c.finish.result (λ nodes. nodes ≡ take (c.in-Ok.number + 1) c.root_number.new.graph)
    (λ nodes. Some (root_proof nodes) ≡ item_at (given_proofs c.args.frames.now (get nat_eq c.args.floats.now) c.args.steps.now) c.args.root)
    (λ nodes is. ap (λ p. Some p) (front_root c.root_number.new.graph nodes c.in-Ok.number c.in-Ok.ensures.inside is) ∙ c.in-Ok.ensures.proof)
    c.finish.ensures
