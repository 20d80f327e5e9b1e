use Rattle.std.proofs.Common.{sym, subst}
use Rattle.std.specs.Option.{option_copied}
use Rattle.ref_search.specs.Fitting.{IsFitting}
use Rattle.ref_search.specs.Searching.{book}
use Rattle.ref_search.proofs.FittingLaws.{fitting_of_fit}
use Rattle.ref_search.proofs.fitting.does_fit.Goals as goal

pub returns : goal.returns
returns c = λ kinds text opened.
    subst (IsFitting (book kinds text c.args.db.now) (option_copied c.args.sought.now.given) c.args.sought.now.wanted.now c.args.label) (sym c.is_some.ensures)
    (fitting_of_fit (book kinds text c.args.db.now) (option_copied c.args.sought.now.given) c.args.sought.now.wanted.now c.args.label c.in_ok-fit.fit (c.in_ok-fit.ensures.first kinds text opened))
