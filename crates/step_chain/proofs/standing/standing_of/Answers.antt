use Rattle.std.proofs.Common.{sym, subst}
use Rattle.mm_database.specs.Books.{database_of}
use Rattle.step_chain.specs.Standings.{IsStandingOf}
use Rattle.step_chain.proofs.StandingOf.{book_of, standing_same}
use Rattle.step_chain.proofs.standing.standing_of.Goals as goal

pub returns-clause-standing : goal.returns-clause-standing
returns-clause-standing c = λ kinds text opened.
    let d = c.args.db.now in
    let db = database_of kinds text d.rows d.parsed in
    subst (IsStandingOf db d c.args.place c.args.step.now) (sym c.standing_kept.ensures) (standing_same db d c.args.place c.args.step.now (book_of kinds text d opened))
