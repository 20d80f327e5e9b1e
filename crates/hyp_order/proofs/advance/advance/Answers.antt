use Rattle.std.proofs.Common.{refl}
use Rattle.hyp_order.proofs.NextLaws.{is_last, is_next}
use Rattle.hyp_order.proofs.advance.advance.Goals as goal

pub returns-in_default : goal.returns-in_default
returns-in_default c = (refl, is_last c.args.order.now c.in_default.ensures)

pub returns : goal.returns
returns c =
    is_next c.args.order.now c.swap.new.self c.reverse_from.new.order c.in-Some.place c.last_above-above.result c.last_above-above.ensures.later
    c.last_above-above.ensures.inside c.last_above-above.ensures.above c.last_above-above.ensures.last c.in-Some.ensures.2 c.swap.ensures.after
    c.swap.ensures.permutation c.reverse_from.ensures
