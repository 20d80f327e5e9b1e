use Rattle.step_chain.proofs.JoinLaws.{kept_below}
use Rattle.step_chain.proofs.joining.join_all.Goals as goal

pub undo_to-requires-clause-kept : goal.undo_to-requires-clause-kept
undo_to-requires-clause-kept c =
    kept_below c.args.arena.now.nodes c.args.arena.now.links c.join_each.new.arena.links c.join_each.ensures.kept.more c.mark-mark.result.nodes c.mark-mark.result.trail
    c.mark-mark.ensures.nodes c.mark-mark.ensures.trail c.join_each.ensures.kept.links c.mark-mark.ensures.store
