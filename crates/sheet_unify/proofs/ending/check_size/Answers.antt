use Rattle.sheet_unify.proofs.EndLaws.{small_is, size_faulty}
use Rattle.sheet_unify.proofs.ending.check_size.Goals as goal

pub returns-then-size-gt-MOST_WORK_SIZE-clause-fault : goal.returns-then-size-gt-MOST_WORK_SIZE-clause-fault
returns-then-size-gt-MOST_WORK_SIZE-clause-fault c = size_faulty c.args.db.now c.args.place c.args.items.now c.written_size-size.result c.written_size-size.ensures c.if-size-gt-MOST_WORK_SIZE.true

pub returns-clause-small : goal.returns-clause-small
returns-clause-small c = small_is c.args.db.now c.args.place c.args.items.now c.written_size-size.result c.written_size-size.ensures c.if-size-gt-MOST_WORK_SIZE.false
