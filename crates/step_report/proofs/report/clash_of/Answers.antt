use Rattle.std.proofs.Common.{◌≡◌, ◌∙◌, sym, ap, option_map, Some, None}
use Rattle.written_model.specs.Report.{step_clash}
use Rattle.step_report.proofs.PairLaws.{claim_of}
use Rattle.step_report.proofs.report.clash_of.Goals as goal

pub returns-in-None : goal.returns-in-None
returns-in-None c =
    claim_of c.args.db.now c.args.by.now c.requires c.pairs.result.now c.variables.result.now (λ o. None ≡ step_clash o) c.pairs.ensures c.variables.ensures
    (λ u is. ap (option_map (λ t. t.2)) (sym c.in-None.is) ∙ c.clash.ensures.variable u is)

pub returns-in-Some : goal.returns-in-Some
returns-in-Some c =
    claim_of c.args.db.now c.args.by.now c.requires c.pairs.result.now c.variables.result.now (λ o. Some c.in-Some.shared ≡ step_clash o) c.pairs.ensures c.variables.ensures
    (λ u is. ap (option_map (λ t. t.2)) (sym c.in-Some.is) ∙ c.clash.ensures.variable u is)
