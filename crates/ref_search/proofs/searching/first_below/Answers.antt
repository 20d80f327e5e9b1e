use Rattle.std.proofs.Common.{sym, ◌∙◌}
use Rattle.std.specs.Option.{option_copied}
use Rattle.ref_search.proofs.SearchLaws.{early_alone, early_first, late_first}
use Rattle.ref_search.proofs.searching.first_below.Goals as goal

pub returns-in_default-clause-first : goal.returns-in_default-clause-first
returns-in_default-clause-first c = λ kinds text opened.
    early_alone kinds text c.args.db.now (option_copied c.args.sought.now.given) c.args.sought.now.wanted.now c.requires.closed c.args.bound c.in_ok-early.early (c.in_ok-early.ensures.first kinds text opened)
    (sym c.head.ensures ∙ c.in_default.is)

pub returns-in-None-clause-first : goal.returns-in-None-clause-first
returns-in-None-clause-first c = λ kinds text opened.
    early_first kinds text c.args.db.now (option_copied c.args.sought.now.given) c.args.sought.now.wanted.now c.requires.closed c.args.bound c.in_ok-early.early (c.in_ok-early.ensures.first kinds text opened)
    c.in-Some.label (sym c.head.ensures ∙ c.in-Some.is) c.below-bound.result c.below-bound.ensures c.in_ok-first_at.field-0 c.in-None.is (c.in_ok-first_at.ensures.first kinds text opened)

pub returns-in-Some-2-clause-first : goal.returns-in-Some-2-clause-first
returns-in-Some-2-clause-first c = λ kinds text opened.
    late_first kinds text c.args.db.now (option_copied c.args.sought.now.given) c.args.sought.now.wanted.now c.requires.closed c.args.bound c.in_ok-early.early (c.in_ok-early.ensures.first kinds text opened)
    c.in-Some.label (sym c.head.ensures ∙ c.in-Some.is) c.below-bound.result c.below-bound.ensures c.in_ok-first_at.field-0 c.in-Some-2.late c.in-Some-2.is
    (c.in_ok-first_at.ensures.first kinds text opened)
