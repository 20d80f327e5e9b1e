use Rattle.mmp_tests.proofs.library.answer_with.Goals as goal

pub answer_to-requires : goal.answer_to-requires
answer_to-requires c = record { database = c.args.database.now; opened = c.in-Ok.ensures.opened }
