use Rattle.std.proofs.Common.{length, sym, subst, ◌∙◌, ap}
use Rattle.step_chain.specs.Joined.{ArePairsIn}
use Rattle.step_chain.specs.Ordered.{id_pairs}
use Rattle.step_chain.proofs.OrderLaws.{pairs_inside, reordered_inside}
use Rattle.step_chain.proofs.orders.fits.Goals as goal

pub join_all-requires-clause-inside : goal.join_all-requires-clause-inside
join_all-requires-clause-inside c =
    subst (ArePairsIn (length c.args.arena.now.nodes))
    (sym (c.deref-2.ensures.value ∙ c.in_ok-pairs.ensures ∙ ap (λ gs. id_pairs c.args.formulas.now gs c.args.hyps.now) (c.deref.ensures.value ∙ c.in_ok-ordered.ensures)))
    (pairs_inside c.args.formulas.now (length c.args.arena.now.nodes) _ c.args.hyps.now c.requires.formulas c.requires.hyps
    (reordered_inside (length c.args.formulas.now) c.args.places.now c.args.order.now c.requires.places))
