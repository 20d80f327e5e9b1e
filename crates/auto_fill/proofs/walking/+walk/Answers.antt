use Rattle.std.proofs.Common.{suc, ◌∷◌, length, get_or, Some, None, refl, sym, ap, subst, ◌∙◌, arith, true, false}
use Rattle.std.specs.Option.{option_copied}
use Rattle.auto_model.specs.AutoFilled.{tuples}
use Rattle.ref_search.specs.Matching.{Becomes}
use Rattle.ref_search.proofs.MatchLaws.{longer_twice}
use Rattle.ref_search.proofs.PlaceLaws.{cut_back, matched_from, tree_there}
use Rattle.auto_fill.specs.Walking.{IsFirstFit}
use Rattle.auto_fill.proofs.WalkLaws.{place_there, ground_at, end_placed, refused_whole, of_whole, of_answer, place_differs, place_passed, place_found, place_none}
use Rattle.auto_fill.proofs.walking.+walk.Goals as goal

pub returns-in_default-clause-first : goal.returns-in_default-clause-first
returns-in_default-clause-first t c =
    end_placed c.args.conditions.now.frame.now c.args.conditions.now.vars.now (option_copied c.args.conditions.now.given) c.args.bindings.now.items c.as_slice.result.now c.args.hyps.now c.args.wanted.now c.args.places.now c.end.result
    c.in_default.ensures.cases c.as_slice.ensures.value c.end.ensures.first

pub returns-then-not-branch-clause-first : goal.returns-then-not-branch-clause-first
returns-then-not-branch-clause-first t c a rule bound =
    refused_whole a (option_copied c.args.conditions.now.given) c.args.conditions.now.frame.now c.args.conditions.now.vars.now c.as_slice-2.result.now c.args.bindings.now.items c.args.hyps.now c.in-Some.first.now c.in-Some.others.now
    c.args.wanted.now c.args.places.now rule c.as_slice-2.ensures c.in-Some.ensures.cases.0 (c.in_ok-may_place.ensures.none c.if-not-branch.true)

pub loop-i-preserved-then-not-branch-2 : goal.loop-i-preserved-then-not-branch-2
loop-i-preserved-then-not-branch-2 t c =
    let k = get_or c.args.places.now c.loop-i.i 0 in
    let there = place_there c.args.wanted.now c.args.places.now c.requires c.loop-i.i c.loop-i-test.true in
    let tree = tree_there c.args.wanted.now k c.index-wanted-at.result there.within c.index-wanted-at.is in
    let matched =
    matched_from c.args.conditions.now.vars.now c.as_slice-in-loop-i.result.now (Becomes c.in-Some.first.now c.index-wanted-at.result) c.args.bindings.now.items c.loop-i.bindings.items
    c.matches.new.bindings.items c.in_ok-matches.field-0 false c.as_slice-in-loop-i.ensures c.loop-i.invariant.same c.if-not-branch-2.true
    (c.in_ok-matches.ensures (ground_at c.args.wanted.now k c.index-wanted-at.result tree there)) in
    place_differs c.args.conditions.now.frame.now c.args.conditions.now.vars.now c.args.bindings.now.items c.loop-i.bindings.items c.in-Some.first.now c.in-Some.others.now c.args.wanted.now c.args.places.now
    (option_copied c.args.conditions.now.given) c.loop-i.i k c.index-wanted-at.result c.loop-i-test.true refl tree c.loop-i.invariant c.matches.new.bindings.items
    c.truncate.new.self.items matched (c.truncate.ensures.items ∙ cut_back c.args.bindings.now.items c.matches.new.bindings.items c.len-mark.result (omega (arith, ap length c.in_ok-may_place.ensures.same)) matched.longer)

pub returns-in-Some-2-clause-longer : goal.returns-in-Some-2-clause-longer
returns-in-Some-2-clause-longer t c =
    let k = get_or c.args.places.now c.loop-i.i 0 in
    let there = place_there c.args.wanted.now c.args.places.now c.requires c.loop-i.i c.loop-i-test.true in
    let tree = tree_there c.args.wanted.now k c.index-wanted-at.result there.within c.index-wanted-at.is in
    let matched =
    matched_from c.args.conditions.now.vars.now c.as_slice-in-loop-i.result.now (Becomes c.in-Some.first.now c.index-wanted-at.result) c.args.bindings.now.items c.loop-i.bindings.items
    c.matches.new.bindings.items c.in_ok-matches.field-0 true c.as_slice-in-loop-i.ensures c.loop-i.invariant.same c.if-not-branch-2.false
    (c.in_ok-matches.ensures (ground_at c.args.wanted.now k c.index-wanted-at.result tree there)) in
    longer_twice c.args.bindings.now.items c.matches.new.bindings.items c.walk.new.bindings.items matched.longer c.in_ok-walk.ensures.longer

pub returns-in-Some-2-clause-first : goal.returns-in-Some-2-clause-first
returns-in-Some-2-clause-first t c a rule bound =
    let k = get_or c.args.places.now c.loop-i.i 0 in
    let there = place_there c.args.wanted.now c.args.places.now c.requires c.loop-i.i c.loop-i-test.true in
    let tree = tree_there c.args.wanted.now k c.index-wanted-at.result there.within c.index-wanted-at.is in
    let matched =
    matched_from c.args.conditions.now.vars.now c.as_slice-in-loop-i.result.now (Becomes c.in-Some.first.now c.index-wanted-at.result) c.args.bindings.now.items c.loop-i.bindings.items
    c.matches.new.bindings.items c.in_ok-matches.field-0 true c.as_slice-in-loop-i.ensures c.loop-i.invariant.same c.if-not-branch-2.false
    (c.in_ok-matches.ensures (ground_at c.args.wanted.now k c.index-wanted-at.result tree there)) in
    of_whole a (option_copied c.args.conditions.now.given) c.args.bindings.now.items c.args.hyps.now c.in-Some.first.now c.in-Some.others.now c.args.wanted.now c.args.places.now
    (Some c.in_ok-preceded-in-Some-2.field-0) c.in-Some.ensures.cases.0
    (subst (λ fit. IsFirstFit a (option_copied c.args.conditions.now.given) c.args.bindings.now.items (c.in-Some.first.now ∷ c.in-Some.others.now) c.args.wanted.now
    (tuples (suc (length c.in-Some.others.now)) c.args.places.now) (Some fit)) (sym c.in_ok-preceded-in-Some-2.ensures)
    (place_found c.args.conditions.now.frame.now c.args.conditions.now.vars.now c.args.bindings.now.items c.loop-i.bindings.items c.in-Some.first.now c.in-Some.others.now c.args.wanted.now c.args.places.now
    (option_copied c.args.conditions.now.given) c.loop-i.i k c.index-wanted-at.result c.loop-i-test.true refl tree c.loop-i.invariant c.matches.new.bindings.items
    c.in-Some-2.fit matched a rule bound
    (of_answer a (option_copied c.args.conditions.now.given) c.matches.new.bindings.items c.in-Some.others.now c.args.wanted.now c.args.places.now c.in_ok-walk.field-0
    (Some c.in-Some-2.fit) c.in-Some-2.is (c.in_ok-walk.ensures.first a rule (matched.bound bound)))))

pub loop-i-preserved : goal.loop-i-preserved
loop-i-preserved t c =
    let k = get_or c.args.places.now c.loop-i.i 0 in
    let there = place_there c.args.wanted.now c.args.places.now c.requires c.loop-i.i c.loop-i-test.true in
    let tree = tree_there c.args.wanted.now k c.index-wanted-at.result there.within c.index-wanted-at.is in
    let matched =
    matched_from c.args.conditions.now.vars.now c.as_slice-in-loop-i.result.now (Becomes c.in-Some.first.now c.index-wanted-at.result) c.args.bindings.now.items c.loop-i.bindings.items
    c.matches.new.bindings.items c.in_ok-matches.field-0 true c.as_slice-in-loop-i.ensures c.loop-i.invariant.same c.if-not-branch-2.false
    (c.in_ok-matches.ensures (ground_at c.args.wanted.now k c.index-wanted-at.result tree there)) in
    place_passed c.args.conditions.now.frame.now c.args.conditions.now.vars.now c.args.bindings.now.items c.loop-i.bindings.items c.in-Some.first.now c.in-Some.others.now c.args.wanted.now c.args.places.now
    (option_copied c.args.conditions.now.given) c.loop-i.i k c.index-wanted-at.result c.loop-i-test.true refl tree c.loop-i.invariant c.matches.new.bindings.items
    c.truncate-in-None.new.self.items matched
    (c.truncate-in-None.ensures.items ∙ cut_back c.args.bindings.now.items c.walk.new.bindings.items c.len-mark.result (omega (arith, ap length c.in_ok-may_place.ensures.same))
    (longer_twice c.args.bindings.now.items c.matches.new.bindings.items c.walk.new.bindings.items matched.longer c.in_ok-walk.ensures.longer))
    (λ a rule bound.
    of_answer a (option_copied c.args.conditions.now.given) c.matches.new.bindings.items c.in-Some.others.now c.args.wanted.now c.args.places.now c.in_ok-walk.field-0 None
    c.in-None.is (c.in_ok-walk.ensures.first a rule bound))

pub returns-clause-first : goal.returns-clause-first
returns-clause-first t c a rule bound =
    of_whole a (option_copied c.args.conditions.now.given) c.args.bindings.now.items c.args.hyps.now c.in-Some.first.now c.in-Some.others.now c.args.wanted.now c.args.places.now None
    c.in-Some.ensures.cases.0
    (place_none c.args.conditions.now.frame.now c.args.conditions.now.vars.now c.args.bindings.now.items c.loop-i.bindings.items c.in-Some.first.now c.in-Some.others.now c.args.wanted.now c.args.places.now
    (option_copied c.args.conditions.now.given) c.loop-i.i c.loop-i-test.false c.loop-i.invariant a rule bound)
