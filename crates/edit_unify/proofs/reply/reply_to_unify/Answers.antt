use Rattle.std.specs.Str.Lossy.{utf8_lossy}
use Rattle.mm_database.specs.Books.{database_of}
use Rattle.edit_unify.proofs.Replies.{of_outcome, of_fault}
use Rattle.edit_unify.proofs.reply.reply_to_unify.Goals as goal

pub returns-in-Ok : goal.returns-in-Ok
returns-in-Ok c = λ database opened.
    of_outcome (database_of c.args.options.now.kinds database c.args.db.now.rows c.args.db.now.parsed) c.args.options.now (utf8_lossy c.args.name.now) c.args.text.now
    c.in-Ok.outcome c.outcome_reply.result (c.in-Ok.ensures.outcome database opened) (c.outcome_reply.ensures c.args.options.now.kinds database opened)

pub returns-in-Err : goal.returns-in-Err
returns-in-Err c = λ database opened.
    of_fault (database_of c.args.options.now.kinds database c.args.db.now.rows c.args.db.now.parsed) c.args.options.now (utf8_lossy c.args.name.now) c.args.text.now
    c.in-Err.fault c.fault_reply.result (c.in-Err.ensures.fault database opened) c.fault_reply.ensures
