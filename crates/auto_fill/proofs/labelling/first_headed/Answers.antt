use Rattle.std.proofs.Common.{sym, subst, IfOk}
use Rattle.std.specs.Option.{option_copied}
use Rattle.ref_search.specs.Searching.{ForEachText}
use Rattle.auto_fill.specs.Walking.{wanted_of}
use Rattle.auto_fill.specs.Labelling.{IsFirstAmong, at_head}
use Rattle.auto_fill.proofs.labelling.first_headed.Goals as goal

pub returns-in-Some-clause-first : goal.returns-in-Some-clause-first
returns-in-Some-clause-first c =
    subst (λ h. IfOk c.first_at.result (λ o. ForEachText c.args.db.now (λ d.
    IsFirstAmong d (option_copied c.args.sought.now.given) (wanted_of c.args.sought.now.trees.now c.args.sought.now.number) c.args.sought.now.places.now
    (at_head c.args.db.now.parsed h c.args.count) c.args.bound o))) (sym c.in-Some.is) c.first_at.ensures.first
