use Rattle.std.proofs.Common.{sym, subst}
use Rattle.mm_database.specs.Books.{database_of}
use Rattle.sheet_unify.specs.Answered.{IsFaultOf}
use Rattle.sheet_unify.proofs.TextLaws.{says_of, too_big, told_faulty}
use Rattle.sheet_unify.proofs.unify.unify_sheet.Goals as goal

pub returns-in-Ok-clause-outcome : goal.returns-in-Ok-clause-outcome
returns-in-Ok-clause-outcome c = λ database opened.
    c.unify_read.ensures.outcome database c.args.text.now opened (says_of c.args.text.now c.in-Ok.sheet c.if-text-gt-MOST_SHEET_BYTES.false c.in-Ok.ensures.reads)

pub returns-in-Ok-clause-fault : goal.returns-in-Ok-clause-fault
returns-in-Ok-clause-fault c = λ database opened.
    c.unify_read.ensures.fault database c.args.text.now opened (says_of c.args.text.now c.in-Ok.sheet c.if-text-gt-MOST_SHEET_BYTES.false c.in-Ok.ensures.reads)

pub returns-then-text-gt-MOST_SHEET_BYTES-clause-fault : goal.returns-then-text-gt-MOST_SHEET_BYTES-clause-fault
returns-then-text-gt-MOST_SHEET_BYTES-clause-fault c = λ database opened.
    too_big (database_of c.args.options.now.kinds database c.args.db.now.rows c.args.db.now.parsed) c.args.text.now c.args.options.now c.if-text-gt-MOST_SHEET_BYTES.true

pub returns-in-Err-clause-fault : goal.returns-in-Err-clause-fault
returns-in-Err-clause-fault c = λ database opened.
    let db = database_of c.args.options.now.kinds database c.args.db.now.rows c.args.db.now.parsed in
    subst (IsFaultOf db c.args.text.now c.args.options.now) (sym c.from.ensures)
    (told_faulty db c.args.text.now c.args.options.now c.in-Err.fault c.if-text-gt-MOST_SHEET_BYTES.false c.in-Err.ensures.first_fault)

pub unify_read-requires-clause-said : goal.unify_read-requires-clause-said
unify_read-requires-clause-said c = record {
  text = c.args.text.now;
  says = says_of c.args.text.now c.in-Ok.sheet c.if-text-gt-MOST_SHEET_BYTES.false c.in-Ok.ensures.reads;
}
