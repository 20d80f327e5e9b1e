use Rattle.std.specs.Option.{option_copied}
use Rattle.ref_search.proofs.PlaceLaws.{tree_there}
use Rattle.auto_fill.specs.Walking.{wanted_of}
use Rattle.auto_fill.proofs.WalkLaws.{ground_at}
use Rattle.auto_fill.proofs.FitLaws.{refused_fit, taken_fit}
use Rattle.auto_fill.proofs.walking.fit_to.Goals as goal

pub returns-then-not-branch-clause-fit : goal.returns-then-not-branch-clause-fit
returns-then-not-branch-clause-fit c a rule tree hyps =
    let step = c.args.sought.now.ready.step in
    let there = tree_there c.args.sought.now.trees.now c.args.sought.now.number c.index-trees-sought.result step.within c.index-trees-sought.is in
    refused_fit (option_copied c.args.sought.now.given) c.args.frame.now c.args.vars.now c.as_slice.result.now c.new-bindings.result.items c.matches.new.bindings.items c.args.tree.now c.args.hyps.now
    (wanted_of c.args.sought.now.trees.now c.args.sought.now.number) c.args.sought.now.places.now c.index-trees-sought.result c.in_ok-matches.field-0 c.new-bindings.ensures.items c.as_slice.ensures there
    (c.in_ok-matches.ensures (ground_at c.args.sought.now.trees.now c.args.sought.now.number c.index-trees-sought.result there step))
    c.if-not-branch.true a rule tree

pub returns-clause-fit : goal.returns-clause-fit
returns-clause-fit c =
    let step = c.args.sought.now.ready.step in
    let there = tree_there c.args.sought.now.trees.now c.args.sought.now.number c.index-trees-sought.result step.within c.index-trees-sought.is in
    taken_fit (option_copied c.args.sought.now.given) c.args.frame.now c.args.vars.now c.as_slice.result.now c.new-bindings.result.items c.matches.new.bindings.items c.args.tree.now c.args.hyps.now
    (wanted_of c.args.sought.now.trees.now c.args.sought.now.number) c.args.sought.now.places.now c.index-trees-sought.result c.in_ok-matches.field-0 c.new-bindings.ensures.items c.as_slice.ensures there
    (c.in_ok-matches.ensures (ground_at c.args.sought.now.trees.now c.args.sought.now.number c.index-trees-sought.result there step))
    c.if-not-branch.false c.as_slice-2.result.now c.as_slice-2.ensures c.walk.result c.walk.ensures.first
