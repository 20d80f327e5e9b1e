use Rattle.std.proofs.Common.{ap, ◌∙◌}
use Rattle.step_chain.specs.Held.{Held}
use Rattle.step_chain.specs.Ordered.{formula_at}
use Rattle.step_chain.proofs.AnswerLaws.{formula_told}
use Rattle.step_chain.proofs.chain.ChainTrees.formula.Goals as goal

pub returns : goal.returns
returns c =
    formula_told c.self.inside.chain.now c.args.self.now c.self.view_is c.self.inside.trees c.self.invariant c.args.i c.requires c.node.result
    (c.node.ensures.node ∙ ap (λ (h : Held). formula_at h.formulas c.args.i) c.self.view_is) c.tree.result c.tree.ensures.read
