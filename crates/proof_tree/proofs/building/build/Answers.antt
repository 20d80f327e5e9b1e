use Rattle.std.proofs.Common.{◌≡◌, Some, nat_eq}
use Rattle.std.specs.HashMap.{get}
use Rattle.std.proofs.lemmas.Result.{IfOk-weaker}
use Rattle.proof_tree.specs.Graphs.{root_proof}
use Rattle.proof_tree.specs.Given.{given_proofs, item_at}
use Rattle.proof_tree.specs.Standing.{Proves}
use Rattle.proof_tree.proofs.StandLaws.{proves}
use Rattle.proof_tree.proofs.building.build.Goals as goal

pub returns : goal.returns
returns c =
    IfOk-weaker c.build_with.result (λ nodes. Some (root_proof nodes) ≡ item_at (given_proofs c.frames.result.now (get nat_eq c.in_ok-floats.floats) c.args.steps.now) c.args.root)
    (Proves c.args.db.now c.args.hyps.now c.args.steps.now c.args.root)
    (λ nodes is. proves c.has_database_facts.ensures c.args.db.now c.frames.result.now c.args.hyps.now
    (get nat_eq c.in_ok-floats.floats) c.args.steps.now c.args.root nodes c.frames.ensures c.in_ok-floats.ensures c.requires is)
    c.build_with.ensures
