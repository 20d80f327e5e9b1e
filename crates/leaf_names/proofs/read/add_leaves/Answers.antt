use Rattle.std.proofs.Common.{ap, ◌∙◌}
use Rattle.std.specs.HashSet.{keys}
use Rattle.written_model.specs.Named.{work_leaf}
use Rattle.leaf_names.proofs.ReadLaws.{other_leaf, work_on}
use Rattle.leaf_names.proofs.read.add_leaves.Goals as goal
use Rattle.leaf_names.proofs.read.add_leaves.Goals.{in-Const, in-Var, in-Work+in_ok-insert-in-Work}

pub loop-leaf-preserved : goal.loop-leaf-preserved
loop-leaf-preserved c =
    let ls = c.args.leaves.now in
    let i = c.loop-leaf.leaf-index in
    let old = c.args.read.now.keys in
    let cur = c.loop-leaf.read.keys in
    let low = c.loop-leaf-test.true in
    let before = c.loop-leaf.invariant in
    elim c.match-leaf.branch [
      | in-Const w ↦ other_leaf ls i _ low old cur _ before (ap work_leaf w.in-Const.is) (ap keys w.read-is)
      | in-Var w ↦ other_leaf ls i _ low old cur _ before (ap work_leaf w.in-Var.is) (ap keys w.read-is)
      | in-Work+in_ok-insert-in-Work w ↦ work_on ls i _ low old cur _ before w.in-Work.code w.in-Work.number w.in-Work.is (ap keys w.read-is ∙ w.in_ok-insert-in-Work.ensures.keys)
    ]
