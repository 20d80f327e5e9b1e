use Rattle.std.proofs.Common.{get_or, false, refl, ◌∙◌, arith}
use Rattle.ref_search.specs.Matching.{Becomes}
use Rattle.ref_search.proofs.PlaceLaws.{cut_back, matched_from, tree_there}
use Rattle.auto_fill.proofs.WalkLaws.{place_there, ground_at, one_differs}
use Rattle.auto_fill.proofs.walking.becomes_one.Goals as goal

pub loop-i-preserved : goal.loop-i-preserved
loop-i-preserved c =
    let there = place_there c.args.wanted.now c.args.places.now c.requires c.loop-i.i c.loop-i-test.true in
    let tree = tree_there c.args.wanted.now (get_or c.args.places.now c.loop-i.i 0) c.index-wanted-at.result there.within c.index-wanted-at.is in
    let matched =
    matched_from c.args.vars.now c.args.vars.now (Becomes c.args.hyp.now c.index-wanted-at.result) c.args.bindings.now.items c.loop-i.bindings.items c.matches.new.bindings.items c.in_ok-fits.fits false
    refl c.loop-i.invariant.0 c.if-fits.false (c.in_ok-fits.ensures (ground_at c.args.wanted.now (get_or c.args.places.now c.loop-i.i 0) c.index-wanted-at.result tree there)) in (
      c.truncate.ensures.items ∙ cut_back c.args.bindings.now.items c.matches.new.bindings.items c.len-mark.result (omega arith) matched.longer,
      one_differs c.args.vars.now c.args.bindings.now.items c.matches.new.bindings.items c.args.hyp.now c.args.wanted.now c.args.places.now c.loop-i.i c.index-wanted-at.result
          c.loop-i-test.true tree c.loop-i.invariant.1 matched,
    )
