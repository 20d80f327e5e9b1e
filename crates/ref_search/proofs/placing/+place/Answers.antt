use Rattle.std.proofs.Common.{◌<◌, suc, ◌∷◌, length, get_or, Some, None, refl, sym, subst, ◌∙◌, arith, true, false}
use Rattle.std.specs.Option.{option_copied}
use Rattle.solve_model.specs.Firsts.{orders}
use Rattle.ref_search.specs.Matching.{Becomes}
use Rattle.ref_search.specs.Placing.{IsFirstFit}
use Rattle.ref_search.proofs.Lists.{all_at}
use Rattle.ref_search.proofs.MatchLaws.{longer_twice}
use Rattle.ref_search.proofs.PlaceLaws.{cut_back, matched_from, of_whole, of_parts, end_placed, tree_there, ground_there, place_differs, place_passed, place_found, place_none}
use Rattle.ref_search.proofs.placing.+place.Goals as goal

pub returns-in_default-clause-first : goal.returns-in_default-clause-first
returns-in_default-clause-first t c =
    end_placed c.args.conditions.now.frame.now c.args.conditions.now.vars.now (option_copied c.args.conditions.now.given) c.args.bindings.now.items c.as_slice.result.now c.args.hyps.now c.args.wanted.now c.args.places.now c.end.result
    c.in_default.ensures.cases c.as_slice.ensures.value c.end.ensures.first

pub loop-i-preserved-then-not-branch : goal.loop-i-preserved-then-not-branch
loop-i-preserved-then-not-branch t c =
    let below = all_at (λ k. k < length c.args.wanted.now) c.args.places.now c.loop-i.i 0 c.requires.inside c.loop-i-test.true in
    let matched =
    matched_from c.args.conditions.now.vars.now c.as_slice-in-loop-i.result.now (Becomes c.in-Some.first.now c.index-wanted-at.result) c.args.bindings.now.items c.loop-i.bindings.items
    c.matches.new.bindings.items c.in_ok-matches.field-0 false c.as_slice-in-loop-i.ensures c.loop-i.invariant.same c.if-not-branch.true
    (c.in_ok-matches.ensures (ground_there c.args.wanted.now (get_or c.args.places.now c.loop-i.i 0) c.index-wanted-at.result c.requires.closed below c.index-wanted-at.is)) in
    place_differs c.args.conditions.now.frame.now c.args.conditions.now.vars.now c.args.bindings.now.items c.loop-i.bindings.items c.in-Some.first.now c.in-Some.others.now c.args.wanted.now c.args.places.now
    (option_copied c.args.conditions.now.given) c.loop-i.i (get_or c.args.places.now c.loop-i.i 0) c.index-wanted-at.result c.loop-i-test.true refl
    (tree_there c.args.wanted.now (get_or c.args.places.now c.loop-i.i 0) c.index-wanted-at.result below c.index-wanted-at.is) c.loop-i.invariant c.matches.new.bindings.items
    c.truncate.new.self.items matched (c.truncate.ensures.items ∙ cut_back c.args.bindings.now.items c.matches.new.bindings.items c.len-mark.result (omega arith) matched.longer)

pub returns-in-Some-2-clause-longer : goal.returns-in-Some-2-clause-longer
returns-in-Some-2-clause-longer t c =
    let below = all_at (λ k. k < length c.args.wanted.now) c.args.places.now c.loop-i.i 0 c.requires.inside c.loop-i-test.true in
    let matched =
    matched_from c.args.conditions.now.vars.now c.as_slice-in-loop-i.result.now (Becomes c.in-Some.first.now c.index-wanted-at.result) c.args.bindings.now.items c.loop-i.bindings.items
    c.matches.new.bindings.items c.in_ok-matches.field-0 true c.as_slice-in-loop-i.ensures c.loop-i.invariant.same c.if-not-branch.false
    (c.in_ok-matches.ensures (ground_there c.args.wanted.now (get_or c.args.places.now c.loop-i.i 0) c.index-wanted-at.result c.requires.closed below c.index-wanted-at.is)) in
    longer_twice c.args.bindings.now.items c.matches.new.bindings.items c.place.new.bindings.items matched.longer c.in_ok-place.ensures.longer

pub returns-in-Some-2-clause-first : goal.returns-in-Some-2-clause-first
returns-in-Some-2-clause-first t c a rule bound =
    let below = all_at (λ k. k < length c.args.wanted.now) c.args.places.now c.loop-i.i 0 c.requires.inside c.loop-i-test.true in
    let matched =
    matched_from c.args.conditions.now.vars.now c.as_slice-in-loop-i.result.now (Becomes c.in-Some.first.now c.index-wanted-at.result) c.args.bindings.now.items c.loop-i.bindings.items
    c.matches.new.bindings.items c.in_ok-matches.field-0 true c.as_slice-in-loop-i.ensures c.loop-i.invariant.same c.if-not-branch.false
    (c.in_ok-matches.ensures (ground_there c.args.wanted.now (get_or c.args.places.now c.loop-i.i 0) c.index-wanted-at.result c.requires.closed below c.index-wanted-at.is)) in
    of_whole a (option_copied c.args.conditions.now.given) c.args.bindings.now.items c.args.hyps.now c.in-Some.first.now c.in-Some.others.now c.args.wanted.now c.args.places.now
    (Some c.in_ok-preceded-in-Some-2.field-0) c.in-Some.ensures.cases.0
    (subst (λ fit. IsFirstFit a (option_copied c.args.conditions.now.given) c.args.bindings.now.items (c.in-Some.first.now ∷ c.in-Some.others.now) c.args.wanted.now
    (orders (suc (length c.in-Some.others.now)) c.args.places.now) (Some fit)) (sym c.in_ok-preceded-in-Some-2.ensures)
    (place_found c.args.conditions.now.frame.now c.args.conditions.now.vars.now c.args.bindings.now.items c.loop-i.bindings.items c.in-Some.first.now c.in-Some.others.now c.args.wanted.now c.args.places.now
    (option_copied c.args.conditions.now.given) c.loop-i.i (get_or c.args.places.now c.loop-i.i 0) c.index-wanted-at.result c.loop-i-test.true refl
    (tree_there c.args.wanted.now (get_or c.args.places.now c.loop-i.i 0) c.index-wanted-at.result below c.index-wanted-at.is) c.loop-i.invariant c.matches.new.bindings.items
    c.in-Some-2.fit matched a rule bound
    (of_parts a (option_copied c.args.conditions.now.given) c.matches.new.bindings.items c.in-Some.others.now c.args.wanted.now c.as_slice-in-loop-i-2.result.now _ c.in_ok-place.field-0
    (Some c.in-Some-2.fit) (c.as_slice-in-loop-i-2.ensures.value ∙ c.in_ok-left.ensures) c.in-Some-2.is (c.in_ok-place.ensures.first a rule (matched.bound bound)))))

pub loop-i-preserved : goal.loop-i-preserved
loop-i-preserved t c =
    let below = all_at (λ k. k < length c.args.wanted.now) c.args.places.now c.loop-i.i 0 c.requires.inside c.loop-i-test.true in
    let matched =
    matched_from c.args.conditions.now.vars.now c.as_slice-in-loop-i.result.now (Becomes c.in-Some.first.now c.index-wanted-at.result) c.args.bindings.now.items c.loop-i.bindings.items
    c.matches.new.bindings.items c.in_ok-matches.field-0 true c.as_slice-in-loop-i.ensures c.loop-i.invariant.same c.if-not-branch.false
    (c.in_ok-matches.ensures (ground_there c.args.wanted.now (get_or c.args.places.now c.loop-i.i 0) c.index-wanted-at.result c.requires.closed below c.index-wanted-at.is)) in
    place_passed c.args.conditions.now.frame.now c.args.conditions.now.vars.now c.args.bindings.now.items c.loop-i.bindings.items c.in-Some.first.now c.in-Some.others.now c.args.wanted.now c.args.places.now
    (option_copied c.args.conditions.now.given) c.loop-i.i (get_or c.args.places.now c.loop-i.i 0) c.index-wanted-at.result c.loop-i-test.true refl
    (tree_there c.args.wanted.now (get_or c.args.places.now c.loop-i.i 0) c.index-wanted-at.result below c.index-wanted-at.is) c.loop-i.invariant c.matches.new.bindings.items
    c.truncate-in-None.new.self.items matched
    (c.truncate-in-None.ensures.items ∙ cut_back c.args.bindings.now.items c.place.new.bindings.items c.len-mark.result (omega arith)
    (longer_twice c.args.bindings.now.items c.matches.new.bindings.items c.place.new.bindings.items matched.longer c.in_ok-place.ensures.longer))
    (λ a rule bound.
    of_parts a (option_copied c.args.conditions.now.given) c.matches.new.bindings.items c.in-Some.others.now c.args.wanted.now c.as_slice-in-loop-i-2.result.now _ c.in_ok-place.field-0 None
    (c.as_slice-in-loop-i-2.ensures.value ∙ c.in_ok-left.ensures) c.in-None.is (c.in_ok-place.ensures.first a rule bound))

pub returns-clause-first : goal.returns-clause-first
returns-clause-first t c a rule bound =
    of_whole a (option_copied c.args.conditions.now.given) c.args.bindings.now.items c.args.hyps.now c.in-Some.first.now c.in-Some.others.now c.args.wanted.now c.args.places.now None
    c.in-Some.ensures.cases.0
    (place_none c.args.conditions.now.frame.now c.args.conditions.now.vars.now c.args.bindings.now.items c.loop-i.bindings.items c.in-Some.first.now c.in-Some.others.now c.args.wanted.now c.args.places.now
    (option_copied c.args.conditions.now.given) c.loop-i.i c.loop-i-test.false c.loop-i.invariant a rule bound)
