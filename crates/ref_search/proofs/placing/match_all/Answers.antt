use Rattle.std.proofs.Common.{subst, arith}
use Rattle.ref_search.specs.Matching.{IsMatched, Becomes}
use Rattle.ref_search.proofs.MatchLaws.{list_differs, list_matched, part_matched}
use Rattle.ref_search.proofs.PlaceLaws.{ground_there}
use Rattle.ref_search.proofs.placing.match_all.Goals as goal

pub returns-then-not-branch : goal.returns-then-not-branch
returns-then-not-branch c =
    list_differs c.args.vars.now c.args.patterns.now c.args.trees.now c.args.bindings.now.items c.loop-i.bindings.items c.matches.new.bindings.items c.loop-i.i c.index-patterns-i.result
    c.index-trees-i.result c.loop-i-test.true c.requires.count c.index-patterns-i.is c.index-trees-i.is c.loop-i.invariant
    (subst (λ b. IsMatched c.args.vars.now (Becomes c.index-patterns-i.result c.index-trees-i.result) c.loop-i.bindings.items c.matches.new.bindings.items b) c.if-not-branch.true
    (c.in_ok-matches.ensures (ground_there c.args.trees.now c.loop-i.i c.index-trees-i.result c.requires.closed (omega (arith, c.requires.count, c.loop-i-test.true)) c.index-trees-i.is)))

pub loop-i-preserved : goal.loop-i-preserved
loop-i-preserved c =
    part_matched c.args.vars.now c.args.patterns.now c.args.trees.now c.args.bindings.now.items c.loop-i.bindings.items c.matches.new.bindings.items c.loop-i.i c.index-patterns-i.result
    c.index-trees-i.result c.loop-i-test.true c.requires.count c.index-patterns-i.is c.index-trees-i.is c.loop-i.invariant
    (subst (λ b. IsMatched c.args.vars.now (Becomes c.index-patterns-i.result c.index-trees-i.result) c.loop-i.bindings.items c.matches.new.bindings.items b) c.if-not-branch.false
    (c.in_ok-matches.ensures (ground_there c.args.trees.now c.loop-i.i c.index-trees-i.result c.requires.closed (omega (arith, c.requires.count, c.loop-i-test.true)) c.index-trees-i.is)))

pub returns : goal.returns
returns c = list_matched c.args.vars.now c.args.patterns.now c.args.trees.now c.args.bindings.now.items c.loop-i.bindings.items c.loop-i.i c.loop-i-test.false c.requires.count c.loop-i.invariant
