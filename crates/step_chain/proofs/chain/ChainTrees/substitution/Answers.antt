use Rattle.std.proofs.Common.{ap, sym, ◌∙◌}
use Rattle.step_chain.specs.Held.{Held}
use Rattle.step_chain.specs.Values.{accepted_at}
use Rattle.step_chain.proofs.AnswerLaws.{variables_inside, values_told}
use Rattle.step_chain.proofs.chain.ChainTrees.substitution.Goals as goal

pub values-requires : goal.values-requires
values-requires c =
    let at = ap (λ (h : Held). accepted_at h c.args.i) (sym c.self.view_is) ∙ c.accepted.ensures in
    variables_inside c.self.inside.chain.now c.args.self.now c.self.view_is c.self.inside.trees c.self.invariant c.args.i c.accepted.result.now at c.as_slice.result.now c.as_slice.ensures

pub returns-clause-read : goal.returns-clause-read
returns-clause-read c =
    let at = ap (λ (h : Held). accepted_at h c.args.i) (sym c.self.view_is) ∙ c.accepted.ensures in
    values_told c.self.inside.chain.now c.args.self.now c.self.view_is c.self.inside.trees c.self.invariant c.args.i c.accepted.result.now at
    c.as_slice.result.now c.as_slice.ensures c.values.result c.values.ensures.read
