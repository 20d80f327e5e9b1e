use Rattle.std.proofs.Common.{refl, ◌∙◌}
use Rattle.mm_database.specs.Books.{database_of}
use Rattle.mmp_run.proofs.Unified.{log_of}
use Rattle.mmp_run.proofs.install.end_unfinished.Goals as goal

pub returns-clause-written : goal.returns-clause-written
returns-clause-written c = λ options text w opened written. record {
  out = c.from_vec.ensures ∙ c.new.ensures.items;
  log = log_of (database_of options.kinds text c.args.db.now.rows c.args.db.now.parsed) options w c.args.outcome.now c.in_ok-report_log.field-0 written
      (c.in_ok-report_log.ensures options.kinds text opened);
  status = refl;
}
