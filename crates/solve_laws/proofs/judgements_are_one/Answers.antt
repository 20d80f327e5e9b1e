use Rattle.solve_laws.proofs.OneJudgement.{judgements_are_one}
use Rattle.solve_laws.proofs.judgements_are_one.Goals as goal

pub returns : goal.returns
returns c = judgements_are_one
