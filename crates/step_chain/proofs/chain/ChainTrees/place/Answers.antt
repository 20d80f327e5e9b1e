use Rattle.std.proofs.Common.{ap, sym, ◌∙◌}
use Rattle.step_chain.specs.Held.{Held}
use Rattle.step_chain.specs.Values.{accepted_at}
use Rattle.step_chain.proofs.AnswerLaws.{hyp_inside, hyp_told}
use Rattle.step_chain.proofs.chain.ChainTrees.place.Goals as goal

pub tree-requires : goal.tree-requires
tree-requires c =
    let at = ap (λ (h : Held). accepted_at h c.args.i) (sym c.self.view_is) ∙ c.accepted.ensures in
    hyp_inside c.self.inside.chain.now c.args.self.now c.self.view_is c.self.inside.trees c.self.invariant c.args.i c.accepted.result.now at
    c.as_slice.result.now c.args.k (record { 0 = 0 }) c.as_slice.ensures (c.requires.hyp c.accepted.result.now at)

pub returns : goal.returns
returns c =
    let at = ap (λ (h : Held). accepted_at h c.args.i) (sym c.self.view_is) ∙ c.accepted.ensures in
    hyp_told c.self.inside.chain.now c.args.self.now c.self.view_is c.self.inside.trees c.self.invariant c.args.i c.accepted.result.now at
    c.as_slice.result.now c.args.k (record { 0 = 0 }) c.as_slice.ensures (c.requires.hyp c.accepted.result.now at) c.tree.result c.tree.ensures.read
