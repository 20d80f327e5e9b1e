use Rattle.std.proofs.Common.{sym, subst}
use Rattle.mm_database.specs.Books.{database_of}
use Rattle.sheet_unify.specs.Answered.{IsFaultOf}
use Rattle.sheet_unify.proofs.UnboundLaws.{bound_sheet, has_texts, told_unbound}
use Rattle.sheet_unify.proofs.unify.unify_read.Goals as goal

pub unify_bound-requires : goal.unify_bound-requires
unify_bound-requires c = record {
  texts = has_texts c.args.options.now.kinds c.args.db.now c.args.sheet.now c.in-Ok.bound c.requires.opened c.requires.said c.in-Ok.ensures.bound;
}

pub returns-in-Ok-clause-outcome : goal.returns-in-Ok-clause-outcome
returns-in-Ok-clause-outcome c = λ database text opened says.
    let db = database_of c.args.options.now.kinds database c.args.db.now.rows c.args.db.now.parsed in
    c.unify_bound.ensures.outcome database text opened (bound_sheet db text c.args.sheet.now c.in-Ok.bound says (c.in-Ok.ensures.bound database opened))

pub returns-in-Ok-clause-fault : goal.returns-in-Ok-clause-fault
returns-in-Ok-clause-fault c = λ database text opened says.
    let db = database_of c.args.options.now.kinds database c.args.db.now.rows c.args.db.now.parsed in
    c.unify_bound.ensures.fault database text opened (bound_sheet db text c.args.sheet.now c.in-Ok.bound says (c.in-Ok.ensures.bound database opened))

pub returns-in-Err-clause-fault : goal.returns-in-Err-clause-fault
returns-in-Err-clause-fault c = λ database text opened says.
    let db = database_of c.args.options.now.kinds database c.args.db.now.rows c.args.db.now.parsed in
    subst (IsFaultOf db text c.args.options.now) (sym c.from.ensures)
    (told_unbound db text c.args.options.now c.args.sheet.now c.in-Err.fault says (c.in-Err.ensures.refused database opened))
