use Rattle.mm_database.specs.Books.{database_of}
use Rattle.mmp_run.proofs.Installed.{tells_open}
use Rattle.mmp_run.proofs.install.end_written.Goals as goal

pub returns-then-not-outcome-clause-written : goal.returns-then-not-outcome-clause-written
returns-then-not-outcome-clause-written c = λ options w opened written.
    tells_open (database_of options.kinds c.args.text.now c.args.db.now.rows c.args.db.now.parsed) options w c.args.text.now c.args.outcome.now c.end_unfinished.result written
    c.if-outcome.false c.if-not-outcome.true (c.end_unfinished.ensures.written options c.args.text.now w opened written)
