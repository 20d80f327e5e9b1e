use Rattle.std.proofs.Common.{ap, ◌∙◌, List}
use Rattle.chain_laws.specs.declared.leaves.WorkNode.{WorkNode}
use Rattle.chain_laws.specs.Adding.{work_at}
use Rattle.indexmap.proofs.CallerLemmas.{insert_entry-new}
use Rattle.step_chain.proofs.WorkLaws.{same_name, name_of, found_is, one_more}
use Rattle.step_chain.proofs.works.WorkTable.add.Goals as goal

pub returns : goal.returns
returns c =
    let absent = found_is c.self.inside.nodes.entries c.args.code c.args.number ∙ ap (λ (ws : List WorkNode). work_at ws c.args.code c.args.number) c.self.view_is ∙ c.requires in
    one_more c.self.inside.nodes.entries c.insert.new.self.entries c.args.self.now c.args.code c.args.number c.args.node
    (c.in_ok-insert.ensures.entries ∙ insert_entry-new same_name c.self.inside.nodes (name_of c.args.code c.args.number) c.args.node absent) c.self.view_is
