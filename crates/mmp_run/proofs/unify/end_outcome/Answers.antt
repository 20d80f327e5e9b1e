use Rattle.std.proofs.Common.{refl}
use Rattle.mm_database.specs.Books.{database_of}
use Rattle.mmp_run.proofs.Unified.{shown}
use Rattle.mmp_run.proofs.unify.end_outcome.Goals as goal

pub returns-clause-written : goal.returns-clause-written
returns-clause-written c = λ options text w opened written.
    shown (database_of options.kinds text c.args.db.now.rows c.args.db.now.parsed) options w c.args.outcome _ written refl
    (c.in_ok-report_log.ensures options.kinds text opened) c.status_of.ensures
