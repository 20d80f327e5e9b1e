use Rattle.step_report.proofs.ReportLaws.{given_lack}
use Rattle.step_report.proofs.PairLaws.{sound_use, use_is}
use Rattle.step_report.proofs.report.lack_of.Goals as goal

pub returns-in_ok-needed-in-Given : goal.returns-in_ok-needed-in-Given
returns-in_ok-needed-in-Given c = λ kinds text opened.
    given_lack c.args.mode c.args.given.now _ (sound_use c.args.db.now c.args.by.now c.requires) c.in_ok-needed-in-Given.needed c.lacking.result c.in-Given.is
    (use_is c.args.db.now c.args.by.now c.requires) (c.in_ok-needed-in-Given.ensures kinds text opened) c.lacking.ensures
