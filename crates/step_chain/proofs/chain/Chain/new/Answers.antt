use Rattle.std.proofs.Common.{sym, subst, ap, ◌∙◌, length, [], List}
use Rattle.term_model.specs.declared.shape.Id.{Id}
use Rattle.chain_laws.specs.declared.leaves.WorkNode.{WorkNode}
use Rattle.step_chain.specs.Levels.{IsFront}
use Rattle.step_chain.proofs.HeldLaws.{begun_held}
use Rattle.step_chain.proofs.chain.Chain.new.Goals as goal

pub invariant_of-result : goal.invariant_of-result
invariant_of-result c =
    let d = c.args.db.now in
    let logic = c.logic_code-logic.result in
    let bound = c.args.bound.now in
    let nodes = c.begin.new.arena.nodes in
    let links = c.begin.new.arena.links in
    begun_held d logic bound c.from_vec.result c.from_vec-2.result nodes links c.new-2.result.items c.requires.placed c.requires.few
    (ap length c.from_vec-2.ensures ∙ c.in_ok-nodes.ensures.count) c.new-2.ensures.items (c.begin.ensures.grows.links ∙ c.in_ok-arena.ensures.links)
    (subst (λ (ids : List Id). IsFront d logic bound c.from_vec.result ids [] nodes links) (sym c.from_vec-2.ensures)
    (subst (λ (ws : List WorkNode). IsFront d logic bound ws c.in_ok-nodes.nodes.formulas.items [] nodes links) (sym c.from_vec.ensures) c.in_ok-nodes.ensures.front))
