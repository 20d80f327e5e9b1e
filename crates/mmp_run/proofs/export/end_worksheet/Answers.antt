use Rattle.mm_database.specs.Books.{database_of}
use Rattle.mmp_run.proofs.Exported.{shows_finished}
use Rattle.mmp_run.proofs.export.end_worksheet.Goals as goal

pub returns-then-outcome-clause-written : goal.returns-then-outcome-clause-written
returns-then-outcome-clause-written c = λ options text w opened written.
    shows_finished (database_of options.kinds text c.args.db.now.rows c.args.db.now.parsed) options c.args.name.now w c.args.outcome.finished c.end_outcome.result
    written.finished c.if-outcome.true (c.end_outcome.ensures.written options text w opened written)
