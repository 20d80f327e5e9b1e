use Rattle.term_model.proofs.RankLaws.{numbered}
use Rattle.term_unify.proofs.reading.read_off.Goals as goal

pub read-requires-clause-deep : goal.read-requires-clause-deep
read-requires-clause-deep c =
    let arena = c.args.arena.now in
    rw c.count.ensures.count (numbered arena.nodes arena.links c.count.ensures.store c.requires.solved.solution c.args.id.0 c.requires.id)
