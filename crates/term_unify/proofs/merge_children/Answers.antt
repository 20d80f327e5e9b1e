use Rattle.std.proofs.Common.{◌≡◌, Some, arith}
use Rattle.std.specs.Prelude.{slice_get}
use Rattle.term_model.specs.Terms.{term_at, children_of}
use Rattle.term_unify.proofs.StepLaws.{extends_trans, child_trees, ends_more}
use Rattle.term_unify.proofs.merge_children.Goals as goal

pub returns-then-not-merge-clause-none : goal.returns-then-not-merge-clause-none
returns-then-not-merge-clause-none c =
    let inv = c.loop-k.invariant in
    let nodes = inv.extends.nodes in
    let xs = children_of (term_at c.args.arena.now.nodes c.args.from.0) in
    let ys = children_of (term_at c.args.arena.now.nodes c.args.to.0) in
    let at_x : slice_get xs c.loop-k.k ≡ Some c.child-x.result = rw nodes at c.child-x.ensures.child in
    let at_y : slice_get ys c.loop-k.k ≡ Some c.child-y.result = rw nodes at c.child-y.ensures.child in
    λ trees sol same. c.if-not-merge.ensures.none trees (inv.forced trees sol same)
    (child_trees trees xs ys c.loop-k.k c.child-x.result c.child-y.result same at_x at_y)

pub loop-k-preserved : goal.loop-k-preserved
loop-k-preserved c =
    let inv = c.loop-k.invariant in
    let nodes = inv.extends.nodes in
    let s = c.args.arena.now in
    let xs = children_of (term_at s.nodes c.args.from.0) in
    let ys = children_of (term_at s.nodes c.args.to.0) in
    let at_x : slice_get xs c.loop-k.k ≡ Some c.child-x.result = rw nodes at c.child-x.ensures.child in
    let at_y : slice_get ys c.loop-k.k ≡ Some c.child-y.result = rw nodes at c.child-y.ensures.child in
    record {
      extends = extends_trans s c.loop-k.arena c.merge.new.arena inv.extends c.merge.ensures.extends;
      joined =
          ends_more c.loop-k.arena c.merge.new.arena xs ys c.loop-k.k c.child-x.result c.child-y.result c.merge.ensures.extends inv.joined at_x at_y
          (omega arith) (omega arith) c.if-not-merge.ensures.joined;
      forced = λ trees sol same. c.if-not-merge.ensures.forced trees (inv.forced trees sol same)
          (child_trees trees xs ys c.loop-k.k c.child-x.result c.child-y.result same at_x at_y);
    }
