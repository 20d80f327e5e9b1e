use Rattle.std.proofs.Common.{true, false, refl, sym, ap, subst, ◌∙◌, Some, None, [], ◌∷◌}
use Rattle.std.specs.Option.{option_copied}
use Rattle.ref_search.specs.Matching.{AllBecome}
use Rattle.ref_search.specs.Placing.{trees_at, IsFirstFit}
use Rattle.ref_search.proofs.FitLaws.{as_listed, listed_fails, listed_none, listed_some, end_of}
use Rattle.ref_search.proofs.PlaceLaws.{matched_from}
use Rattle.ref_search.proofs.placing.listed.Goals as goal

pub returns-then-not-branch-clause-first : goal.returns-then-not-branch-clause-first
returns-then-not-branch-clause-first c a rule bound =
    listed_fails a (option_copied c.args.conditions.now.given) c.args.conditions.now.frame.now c.args.conditions.now.vars.now rule c.args.bindings.now.items c.match_all.new.bindings.items c.args.hyps.now c.args.wanted.now c.args.places.now
    (ap (trees_at c.args.wanted.now) c.requires.places ∙ as_listed c.args.wanted.now)
    (matched_from c.args.conditions.now.vars.now c.as_slice.result.now (AllBecome c.args.hyps.now c.args.wanted.now) c.args.bindings.now.items c.args.bindings.now.items c.match_all.new.bindings.items
    c.in_ok-match_all.field-0 false c.as_slice.ensures refl c.if-not-branch.true c.in_ok-match_all.ensures)

pub returns-in-None-clause-first : goal.returns-in-None-clause-first
returns-in-None-clause-first c a rule bound =
    let matched =
    matched_from c.args.conditions.now.vars.now c.as_slice.result.now (AllBecome c.args.hyps.now c.args.wanted.now) c.args.bindings.now.items c.args.bindings.now.items c.match_all.new.bindings.items
    c.in_ok-match_all.field-0 true c.as_slice.ensures refl c.if-not-branch.false c.in_ok-match_all.ensures in
    listed_none a (option_copied c.args.conditions.now.given) c.args.conditions.now.frame.now c.args.conditions.now.vars.now rule c.args.bindings.now.items c.match_all.new.bindings.items c.args.hyps.now c.args.wanted.now c.args.places.now
    (ap (trees_at c.args.wanted.now) c.requires.places ∙ as_listed c.args.wanted.now) matched
    (end_of a
    (option_copied
    c.args.conditions.now.given) c.args.conditions.now.vars.now c.as_slice-2.result.now c.match_all.new.bindings.items c.in_ok-complete.field-0 None c.as_slice-2.ensures.value c.in-None.is
    (matched.bound bound) (c.in_ok-complete.ensures.end a rule))

pub returns-in-Some-clause-first : goal.returns-in-Some-clause-first
returns-in-Some-clause-first c a rule bound =
    let matched =
    matched_from c.args.conditions.now.vars.now c.as_slice.result.now (AllBecome c.args.hyps.now c.args.wanted.now) c.args.bindings.now.items c.args.bindings.now.items c.match_all.new.bindings.items
    c.in_ok-match_all.field-0 true c.as_slice.ensures refl c.if-not-branch.false c.in_ok-match_all.ensures in
    let end =
    end_of a (option_copied c.args.conditions.now.given) c.args.conditions.now.vars.now c.as_slice-2.result.now c.match_all.new.bindings.items c.in_ok-complete.field-0
    (Some c.in-Some.trees) c.as_slice-2.ensures.value c.in-Some.is (matched.bound bound) (c.in_ok-complete.ensures.end a rule) in
    subst
    (λ order. IsFirstFit a (option_copied c.args.conditions.now.given) c.args.bindings.now.items c.args.hyps.now c.args.wanted.now (c.args.places.now ∷ [])
    (Some (record { order = order; trees = c.in-Some.trees })))
    (sym c.in_ok-order.ensures)
    (listed_some a (option_copied c.args.conditions.now.given) c.args.conditions.now.frame.now c.args.conditions.now.vars.now rule c.args.bindings.now.items c.match_all.new.bindings.items c.args.hyps.now c.args.wanted.now c.args.places.now
    (ap (trees_at c.args.wanted.now) c.requires.places ∙ as_listed c.args.wanted.now) matched c.in-Some.trees end)
