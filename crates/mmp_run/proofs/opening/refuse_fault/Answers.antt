use Rattle.mmp_run.proofs.Stands.{stands}
use Rattle.mmp_run.proofs.Refusals.{refused_told}
use Rattle.mmp_run.proofs.opening.refuse_fault.Goals as goal

pub db_fault_line-requires : goal.db_fault_line-requires
db_fault_line-requires c = (stands c.args.fault _ c.in_default.not-Memory c.requires.told c.requires.first).has

pub returns-in_ok-line-in_default : goal.returns-in_ok-line-in_default
returns-in_ok-line-in_default c =
    let is = (stands c.args.fault _ c.in_default.not-Memory c.requires.told c.requires.first).is in
    refused_told c.args.text.now c.refuse_line.result _ c.in_ok-line-in_default.line is c.in_ok-line-in_default.ensures c.refuse_line.ensures
