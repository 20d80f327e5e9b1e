use Rattle.std.proofs.Common.{◌∙◌}
use Rattle.step_chain.proofs.OrderLaws.{reorder_by}
use Rattle.std.proofs.Common.{length}
use Rattle.step_chain.proofs.orders.is_free.Goals as goal

pub returns : goal.returns
returns c = c.all_steps.ensures ∙ reorder_by (length c.args.places.now) c.args.hyps _ c.if-count-hyps.false c.if-count-lt2.false c.if-count-gt-MOST_ORDERED_PLACES.false
