use Rattle.std.proofs.Common.{◌≡◌, length, subst, arith}
use Rattle.std.proofs.lemmas.Result.{err_from_is_err_and}
use Rattle.compressed_proof.proofs.Labelling.{AreFine, all_fine, before_put, fine_put, fault_put}
use Rattle.compressed_proof.proofs.labels.check_each.Goals as goal

pub returns-in_err-check_label-clause-fault : goal.returns-in_err-check_label-clause-fault
returns-in_err-check_label-clause-fault c = λ mandatory same.
    let p = err_from_is_err_and c.from_residual.result c.from_residual.ensures.1 in
    rw (p.1, p.2) (
    fault_put mandatory c.args.listed.now c.args.labels.now c.loop-place.before c.loop-place.place c.index-labels-place.result c.as_slice-label.result.now c.in_err-check_label.field-0.0
    c.loop-place-test.true (record { same = same }) c.loop-place.invariant.before c.as_slice-label.ensures c.index-labels-place.is
    (c.loop-place.invariant.fine mandatory same) c.in_err-check_label.ensures.fault)

pub loop-place-preserved : goal.loop-place-preserved
loop-place-preserved c = record {
  before = before_put c.loop-place.before c.add.new.self c.args.labels.now c.loop-place.place c.index-labels-place.result c.as_slice-label.result.now
      c.loop-place-test.true c.in_ok-add.ensures.added c.loop-place.invariant.before c.as_slice-label.ensures c.index-labels-place.is;
  fine = λ mandatory same.
      fine_put mandatory c.args.listed.now c.args.labels.now c.loop-place.before c.loop-place.place c.index-labels-place.result c.as_slice-label.result.now
      c.loop-place-test.true
      (record { same = same }) c.loop-place.invariant.before c.as_slice-label.ensures c.index-labels-place.is c.in_ok-check_label.ensures.fresh
      (c.loop-place.invariant.fine mandatory same);
}

pub returns-clause-sound : goal.returns-clause-sound
returns-clause-sound c = λ mandatory same.
    let labels = c.args.labels.now in
    let stop : c.loop-place.place ≡ length labels = omega (arith, c.loop-place-test.false, c.loop-place.auto.place-end) in
    all_fine mandatory labels (subst (AreFine mandatory labels) stop (c.loop-place.invariant.fine mandatory same))
