use Rattle.std.proofs.Common.{arith, ap, sym, ◌∙◌, length, length-append}
use Rattle.compressed_proof.proofs.Labelling.{same_put, same_there}
use Rattle.compressed_proof.proofs.labels.names_of.Goals as goal
use Rattle.compressed_proof.proofs.labels.names_of.Goals.{then-not-contains+in_ok-add, else-not-contains}

pub loop-name-preserved : goal.loop-name-preserved
loop-name-preserved c =
    elim c.if-not-contains.branch [
      | then-not-contains+in_ok-add w ↦
          let put = w.names-is ∙ w.in_ok-add.ensures.added in
          record {
            count = omega (arith, simp length-append at (ap length put));
            same = same_put c.loop-name.names c.if-not-contains.names c.args.list.now c.loop-name.name-index c.name-item.result w.as_slice-then-not-contains.result.now
                c.loop-name-test.true put w.as_slice-then-not-contains.ensures c.name-item.is c.loop-name.invariant.same;
          }
      | else-not-contains w ↦
          record {
            count = omega (arith, ap length w.names-is);
            same = same_there c.loop-name.names c.if-not-contains.names c.args.list.now c.loop-name.name-index c.name-item.result c.as_slice.result.now
                c.loop-name-test.true w.names-is c.as_slice.ensures c.name-item.is (sym c.contains.ensures ∙ w.if-not-contains.false) c.loop-name.invariant.same;
          }
    ]
