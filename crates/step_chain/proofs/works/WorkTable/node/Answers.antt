use Rattle.std.proofs.Common.{ap, ◌∙◌, List}
use Rattle.chain_laws.specs.declared.leaves.WorkNode.{WorkNode}
use Rattle.chain_laws.specs.Adding.{work_at}
use Rattle.step_chain.proofs.WorkLaws.{found_is}
use Rattle.step_chain.proofs.works.WorkTable.node.Goals as goal

pub returns : goal.returns
returns c = c.copied.ensures ∙ c.get.ensures.value ∙ found_is c.self.inside.nodes.entries c.args.code c.args.number ∙ ap (λ (ws : List WorkNode). work_at ws c.args.code c.args.number) c.self.view_is
