use Rattle.step_chain.proofs.ReadingLaws.{names_more}
use Rattle.step_chain.proofs.reading.names.Goals as goal

pub loop-work-preserved : goal.loop-work-preserved
loop-work-preserved c =
    names_more c.args.arena.now.links c.args.works.now _ c.loop-work.work-index _ c.loop-work.names.items c.follow-end.result.0 c.index.result.now c.lesser.result
    c.loop-work-test.true c.follow-end.ensures.end c.follow-end.ensures.below c.index.ensures c.lesser.ensures c.loop-work.invariant
