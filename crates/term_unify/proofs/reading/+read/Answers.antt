use Rattle.std.proofs.Common.{sym, ◌∙◌, arith}
use Rattle.term_model.specs.Terms.{term_at, children_of}
use Rattle.term_unify.proofs.ReadLaws.{read_Var, read_Fresh, read_Node, read_more, shape_count, fresh_Var, fresh_Fresh, fresh_Node, fresh_more}
use Rattle.term_unify.proofs.reading.+read.Goals as goal

pub loop-k-preserved : goal.loop-k-preserved
loop-k-preserved t c =
    let arena = c.args.arena.now in
    let kids = children_of (term_at arena.nodes c.follow-end.result.0) in
    let count = shape_count (term_at arena.nodes c.follow-end.result.0) c.in-Node.label c.in-Node.code c.in-Node.count (sym c.look.ensures ∙ c.in-Node.is) in
    record {
      reads = λ trees sol.
          read_more trees kids c.loop-k.k c.child-child.result c.loop-k.trees.items c.push.new.self.items c.in_ok-tree-in-Node.tree
          c.in_ok-push-in-Node.ensures.items c.child-child.ensures.child (omega (arith, count)) (c.in_ok-tree-in-Node.ensures.reads trees sol) (c.loop-k.invariant.reads trees sol);
      fresh = rw c.in_ok-push-in-Node.ensures.items (fresh_more arena.nodes arena.links c.loop-k.trees.items c.in_ok-tree-in-Node.tree c.loop-k.invariant.fresh c.in_ok-tree-in-Node.ensures.fresh);
    }

pub returns-in-Var-clause-reads : goal.returns-in-Var-clause-reads
returns-in-Var-clause-reads t c = λ trees sol.
    read_Var c.args.arena.now.nodes c.args.arena.now.links c.args.id.0 c.follow-end.result.0 c.follow-end.ensures.end c.follow-end.ensures.below trees
    sol c.in-Var.sym c.in-Var.code
    (sym c.look.ensures ∙ c.in-Var.is)

pub returns-in-Var-clause-fresh : goal.returns-in-Var-clause-fresh
returns-in-Var-clause-fresh t c = fresh_Var c.args.arena.now.nodes c.args.arena.now.links c.in-Var.sym c.in-Var.code

pub returns-in-Free-clause-reads : goal.returns-in-Free-clause-reads
returns-in-Free-clause-reads t c = λ trees sol.
    read_Fresh c.args.arena.now.nodes c.args.arena.now.links c.args.id.0 c.follow-end.result.0 c.follow-end.ensures.end c.follow-end.ensures.below trees sol c.in-Free.code

pub returns-in-Free-clause-fresh : goal.returns-in-Free-clause-fresh
returns-in-Free-clause-fresh t c =
    fresh_Fresh c.args.arena.now.nodes c.args.arena.now.links c.in-Free.code c.follow-end.result.0 c.follow-end.ensures.below c.follow-end.ensures.unbound (sym c.look.ensures ∙ c.in-Free.is)

pub returns-after-loop-k-clause-reads : goal.returns-after-loop-k-clause-reads
returns-after-loop-k-clause-reads t c = λ trees sol.
    rw c.from_vec.ensures
    (read_Node c.args.arena.now.nodes c.args.arena.now.links c.args.id.0 c.follow-end.result.0 c.follow-end.ensures.end c.follow-end.ensures.below
    trees sol c.in-Node.label c.in-Node.code c.in-Node.count c.loop-k.k c.loop-k.trees.items
    (sym c.look.ensures ∙ c.in-Node.is) (omega arith) (c.loop-k.invariant.reads trees sol))

pub returns-after-loop-k-clause-fresh : goal.returns-after-loop-k-clause-fresh
returns-after-loop-k-clause-fresh t c =
    rw c.from_vec.ensures (fresh_Node c.args.arena.now.nodes c.args.arena.now.links c.in-Node.label c.in-Node.code c.loop-k.trees.items c.loop-k.invariant.fresh)
