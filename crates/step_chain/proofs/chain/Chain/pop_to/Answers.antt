use Rattle.step_chain.proofs.ChainLaws.{mark_nodes, mark_links, mark_kept, cut_held, cut_front, cut_judgements, front_all, judgements_all}
use Rattle.std.proofs.Common.{refl, subst, ap, length, ◌∙◌, ◌<◌, ◌≤◌, ℕ}
use Rattle.step_chain.proofs.chain.Chain.pop_to.Goals as goal

pub undo_to-requires-clause-nodes : goal.undo_to-requires-clause-nodes
undo_to-requires-clause-nodes c =
    mark_nodes _ c.self.invariant c.args.k
    (subst (λ (n : ℕ). c.args.k < n) (c.count.ensures ∙ ap length c.as_slice.ensures.value) c.if-k-count.true) c.index.result.now c.index.ensures

pub undo_to-requires-clause-trail : goal.undo_to-requires-clause-trail
undo_to-requires-clause-trail c =
    mark_links _ c.self.invariant c.args.k
    (subst (λ (n : ℕ). c.args.k < n) (c.count.ensures ∙ ap length c.as_slice.ensures.value) c.if-k-count.true) c.index.result.now c.index.ensures

pub undo_to-requires-clause-kept : goal.undo_to-requires-clause-kept
undo_to-requires-clause-kept c =
    mark_kept _ c.self.invariant c.args.k
    (subst (λ (n : ℕ). c.args.k < n) (c.count.ensures ∙ ap length c.as_slice.ensures.value) c.if-k-count.true) c.index.result.now c.index.ensures

pub invariant_of-self : goal.invariant_of-self
invariant_of-self c =
    cut_held _ c.self.invariant c.args.k
    (subst (λ (n : ℕ). c.args.k < n)
    (c.count.ensures
    ∙ ap length
    c.as_slice.ensures.value) c.if-k-count.true) c.index.result.now c.index.ensures c.self.inside.arena c.undo_to.new.self refl refl c.undo_to.ensures c.truncate.new.self.items c.truncate.ensures.items

pub returns-then-k-count-clause-front : goal.returns-then-k-count-clause-front
returns-then-k-count-clause-front c =
    cut_front _ c.self.invariant c.args.k
    (subst (λ (n : ℕ). c.args.k < n)
    (c.count.ensures
    ∙ ap length
    c.as_slice.ensures.value) c.if-k-count.true) c.index.result.now c.index.ensures c.self.inside.arena c.undo_to.new.self refl refl c.undo_to.ensures c.truncate.new.self.items c.truncate.ensures.items c.args.self.now c.self.view_is

pub returns-then-k-count-clause-judgements : goal.returns-then-k-count-clause-judgements
returns-then-k-count-clause-judgements c =
    cut_judgements _ c.self.invariant c.args.k
    (subst (λ (n : ℕ). c.args.k < n)
    (c.count.ensures
    ∙ ap length
    c.as_slice.ensures.value) c.if-k-count.true) c.index.result.now c.index.ensures c.self.inside.arena c.undo_to.new.self refl refl c.undo_to.ensures c.truncate.new.self.items c.truncate.ensures.items c.args.self.now c.self.view_is

pub returns-else-k-count-clause-front : goal.returns-else-k-count-clause-front
returns-else-k-count-clause-front c = front_all _ c.args.self.now c.self.view_is c.args.k (subst (λ (n : ℕ). n ≤ c.args.k) (c.count.ensures ∙ ap length c.as_slice.ensures.value) c.if-k-count.false)

pub returns-else-k-count-clause-judgements : goal.returns-else-k-count-clause-judgements
returns-else-k-count-clause-judgements c =
    judgements_all _ c.args.self.now c.self.view_is c.args.k
    (subst (λ (n : ℕ). n ≤ c.args.k) (c.count.ensures ∙ ap length c.as_slice.ensures.value) c.if-k-count.false)
