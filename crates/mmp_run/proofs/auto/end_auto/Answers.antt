use Rattle.mmp_run.proofs.auto.end_auto.Goals as goal

pub end_opened-requires-clause-opened : goal.end_opened-requires-clause-opened
end_opened-requires-clause-opened c = record { database = c.args.text.now; opened = c.in-Ok.ensures }
