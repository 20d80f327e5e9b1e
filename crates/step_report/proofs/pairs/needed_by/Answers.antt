use Rattle.std.proofs.Common.{◌≡◌}
use Rattle.std.proofs.lemmas.Result.{IfOk-weaker}
use Rattle.written_model.specs.Pairs.{needed_by}
use Rattle.step_report.proofs.PairLaws.{claim_of}
use Rattle.step_report.proofs.pairs.needed_by.Goals as goal

pub returns : goal.returns
returns c =
    IfOk-weaker c.needed.result _ _
    (λ ps h. claim_of c.args.db.now c.args.by.now c.requires c.pairs.result.now c.variables.result.now (λ o. ps ≡ needed_by o) c.pairs.ensures c.variables.ensures h) c.needed.ensures
