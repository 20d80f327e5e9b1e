use Rattle.std.proofs.Common.{◌≡◌, ◌<◌, [], ◌∷◌, length, sym, ap, subst, ◌∙◌, arith}
use Rattle.std.specs.List.{AllByRecursion, range_with_len}
use Rattle.std.specs.Option.{option_copied}
use Rattle.std.proofs.lemmas.Bool.{OnFalse_at}
use Rattle.solve_model.specs.Firsts.{orders}
use Rattle.ref_search.specs.Matching.{NeverBecomes}
use Rattle.ref_search.proofs.FitLaws.{other_shape, refused_fit, taken_fit, in_range, few_orders, many_orders, range_count}
use Rattle.ref_search.proofs.placing.fit_to.Goals as goal

pub returns-then-not-may_become-clause-fit : goal.returns-then-not-may_become-clause-fit
returns-then-not-may_become-clause-fit c a rule tree hyps =
    other_shape a (option_copied c.args.sought.now.given) c.args.sought.now.wanted.now
    (subst (λ t. NeverBecomes t c.args.sought.now.wanted.now.formula) (sym tree) (OnFalse_at c.if-not-may_become.true c.may_become.ensures))

pub returns-then-not-branch-clause-fit : goal.returns-then-not-branch-clause-fit
returns-then-not-branch-clause-fit c a rule tree hyps =
    refused_fit (option_copied c.args.sought.now.given) c.args.frame.now c.args.vars.now c.as_slice.result.now c.new-bindings.result.items c.matches.new.bindings.items c.args.tree.now c.args.hyps.now
    c.args.sought.now.wanted.now c.in_ok-matches.field-0 c.new-bindings.ensures.items c.as_slice.ensures (c.in_ok-matches.ensures c.requires.closed.formula) c.if-not-branch.true a rule tree

pub place-requires-clause-inside : goal.place-requires-clause-inside
place-requires-clause-inside c =
    subst (λ ps. AllByRecursion (λ k. k < length c.as_slice-trees.result.now) ps) (sym c.args.sought.now.listed)
    (subst (λ ts. AllByRecursion (λ k. k < length ts) (range_with_len 0 (length c.args.sought.now.wanted.now.hyps))) (sym c.as_slice-trees.ensures)
    (subst (λ n. AllByRecursion (λ k. k < n) (range_with_len 0 (length c.args.sought.now.wanted.now.hyps))) (omega arith) (in_range 0 (length c.args.sought.now.wanted.now.hyps))))

pub returns-then-places-le-MOST_ORDERED_PLACES-clause-fit : goal.returns-then-places-le-MOST_ORDERED_PLACES-clause-fit
returns-then-places-le-MOST_ORDERED_PLACES-clause-fit c =
    let n = length c.args.sought.now.wanted.now.hyps in
    let count : length c.args.sought.now.places.now ≡ n = ap length c.args.sought.now.listed ∙ range_count 0 n in
    let many : length c.as_slice-patterns.result.now ≡ n = ap length c.as_slice-patterns.ensures ∙ c.requires.count in
    taken_fit (option_copied c.args.sought.now.given) c.args.frame.now c.args.vars.now c.as_slice.result.now c.new-bindings.result.items c.matches.new.bindings.items c.args.tree.now c.args.hyps.now
    c.args.sought.now.wanted.now c.in_ok-matches.field-0 c.new-bindings.ensures.items c.as_slice.ensures (c.in_ok-matches.ensures c.requires.closed.formula) c.if-not-branch.false
    c.as_slice-patterns.result.now c.as_slice-trees.result.now c.args.sought.now.places.now (orders (length c.as_slice-patterns.result.now) c.args.sought.now.places.now) c.as_slice-patterns.ensures
    c.as_slice-trees.ensures
    (ap (λ k. orders k c.args.sought.now.places.now) many ∙ ap (orders n) c.args.sought.now.listed ∙ sym (few_orders n (omega (arith, count, c.if-places-le-MOST_ORDERED_PLACES.true)))) c.place.result
    c.place.ensures.first

pub returns-clause-fit : goal.returns-clause-fit
returns-clause-fit c =
    let n = length c.args.sought.now.wanted.now.hyps in
    let count : length c.args.sought.now.places.now ≡ n = ap length c.args.sought.now.listed ∙ range_count 0 n in
    taken_fit (option_copied c.args.sought.now.given) c.args.frame.now c.args.vars.now c.as_slice.result.now c.new-bindings.result.items c.matches.new.bindings.items c.args.tree.now c.args.hyps.now
    c.args.sought.now.wanted.now c.in_ok-matches.field-0 c.new-bindings.ensures.items c.as_slice.ensures (c.in_ok-matches.ensures c.requires.closed.formula) c.if-not-branch.false
    c.as_slice-patterns.result.now c.as_slice-trees.result.now c.args.sought.now.places.now (c.args.sought.now.places.now ∷ []) c.as_slice-patterns.ensures c.as_slice-trees.ensures
    (ap (λ ps. ps ∷ []) c.args.sought.now.listed ∙ sym (many_orders n (omega (arith, count, c.if-places-le-MOST_ORDERED_PLACES.false)))) c.listed.result c.listed.ensures.first
