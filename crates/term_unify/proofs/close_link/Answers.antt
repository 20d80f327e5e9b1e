use Rattle.std.proofs.Common.{sym, ◌∙◌}
use Rattle.std.proofs.lemmas.Bool.{OnTrue_at, OnTrue_from, OnFalse_at, OnFalse_from}
use Rattle.term_unify.proofs.StepLaws.{closing_children, closing_none}
use Rattle.term_unify.proofs.close_link.Goals as goal

pub returns-in-Some-clause-kept : goal.returns-in-Some-clause-kept
returns-in-Some-clause-kept c =
    let link = c.link.ensures in
    let same =
    closing_children c.args.arena.now c.args.k c.link.result.0.0 c.link.result.1.0 c.look-first.result c.look-second.result c.requires.k link.from
    link.to link.from_below link.to_below c.look-first.ensures c.look-second.ensures c.in-Some.count
    (sym c.pairs.ensures ∙ c.in-Some.is) in
    OnTrue_from c.merge_children.result _ (λ e trees sol. OnTrue_at e c.merge_children.ensures.forced trees sol (same trees sol))

pub returns-in-Some-clause-none : goal.returns-in-Some-clause-none
returns-in-Some-clause-none c =
    let link = c.link.ensures in
    let same =
    closing_children c.args.arena.now c.args.k c.link.result.0.0 c.link.result.1.0 c.look-first.result c.look-second.result c.requires.k link.from
    link.to link.from_below link.to_below c.look-first.ensures c.look-second.ensures c.in-Some.count
    (sym c.pairs.ensures ∙ c.in-Some.is) in
    OnFalse_from c.merge_children.result _ (λ e trees sol. OnFalse_at e c.merge_children.ensures.none trees sol (same trees sol))

pub returns-in-None-clause-none : goal.returns-in-None-clause-none
returns-in-None-clause-none c =
    let link = c.link.ensures in
    closing_none c.args.arena.now c.args.k c.link.result.0.0 c.link.result.1.0 c.look-first.result c.look-second.result c.requires.k link.from link.to
    link.from_below link.to_below c.look-first.ensures c.look-second.ensures
    (sym c.pairs.ensures ∙ c.in-None.is) (sym c.is_free.ensures ∙ c.if-is_free.false) c.requires.oriented
