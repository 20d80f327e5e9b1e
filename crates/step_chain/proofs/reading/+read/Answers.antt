use Rattle.std.proofs.Common.{sym, ◌∙◌, arith}
use Rattle.step_chain.proofs.ReadingLaws.{read_Var, read_Free, read_Node, child_more}
use Rattle.step_chain.proofs.reading.+read.Goals as goal

pub loop-k-preserved : goal.loop-k-preserved
loop-k-preserved t c =
    child_more c.args.arena.now.nodes c.args.arena.now.links c.args.works.now c.args.id.0 c.follow-end.result.0 c.args.depth c.follow-end.ensures.end c.requires.deep
    c.loop-k.k c.child-child.result c.loop-k.trees.items c.push.new.self.items c.in_ok-tree-in-Node.tree c.child-child.ensures.child
    c.in_ok-tree-in-Node.ensures c.in_ok-push-in-Node.ensures.items c.loop-k.invariant

pub returns-in-Var : goal.returns-in-Var
returns-in-Var t c =
    read_Var c.args.arena.now.nodes c.args.arena.now.links c.args.works.now c.args.id.0 c.follow-end.result.0 c.args.depth c.follow-end.ensures.end
    c.requires.deep c.in-Var.sym c.in-Var.code
    (sym c.look.ensures ∙ c.in-Var.is)

pub returns-in-Free : goal.returns-in-Free
returns-in-Free t c =
    read_Free c.args.arena.now.nodes c.args.arena.now.links c.args.works.now c.args.id.0 c.follow-end.result.0 c.args.depth c.follow-end.ensures.end
    c.requires.deep c.in-Free.code c.args.names.now c.leaf.result
    (sym c.look.ensures ∙ c.in-Free.is) c.requires.names c.follow-end.ensures.below c.leaf.ensures

pub returns-after-loop-k : goal.returns-after-loop-k
returns-after-loop-k t c =
    read_Node c.args.arena.now.nodes c.args.arena.now.links c.args.works.now c.args.id.0 c.follow-end.result.0 c.args.depth c.follow-end.ensures.end
    c.requires.deep c.in-Node.label c.in-Node.code c.in-Node.count c.loop-k.k
    c.from_vec.result c.loop-k.trees.items (sym c.look.ensures ∙ c.in-Node.is) (omega (arith, c.loop-k-test.false)) c.loop-k.invariant c.from_vec.ensures
