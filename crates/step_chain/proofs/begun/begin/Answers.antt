use Rattle.step_chain.proofs.ConstantLaws.{begun_have}
use Rattle.step_chain.proofs.BegunLaws.{first_front}
use Rattle.step_chain.proofs.begun.begin.Goals as goal

pub returns-clause-front : goal.returns-clause-front
returns-clause-front c =
    first_front c.args.db.now c.args.bound.now c.bound_is_ready.ensures c.args.logic
    c.grammar.result.now c.as_slice.result.now c.add_all-nodes.result c.args.arena.now c.add_all-nodes.new.arena c.grammar.ensures c.as_slice.ensures
    c.requires.links c.requires.solved c.add_all-nodes.ensures.grows c.count-count.ensures.store
    c.add_all-nodes.ensures.formulas c.add_all-nodes.ensures.within c.add_all-nodes.ensures.works_in
    (begun_have c.args.db.now.rows c.grammar.result.now c.args.logic c.as_slice.result.now c.add_all-nodes.result c.add_all-nodes.new.arena.nodes c.grammar.ensures c.add_all-nodes.ensures.formulas)

pub returns-clause-constants : goal.returns-clause-constants
returns-clause-constants c =
    begun_have c.args.db.now.rows c.grammar.result.now c.args.logic c.as_slice.result.now c.add_all-nodes.result c.add_all-nodes.new.arena.nodes
    c.grammar.ensures c.add_all-nodes.ensures.formulas
