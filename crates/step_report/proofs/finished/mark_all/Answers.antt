use Rattle.std.proofs.Common.{◌≡◌, ◌-◌, suc, sym, subst, arith}
use Rattle.step_report.proofs.MarkLaws.{IsMarking, marking_starts, marking_goes, marking_ends}
use Rattle.step_report.proofs.finished.mark_all.Goals as goal

pub loop-left-init : goal.loop-left-init
loop-left-init c = marking_starts c.args.steps.now c.args.marks.now c.requires

pub loop-left-preserved : goal.loop-left-preserved
loop-left-preserved c =
    let test = c.loop-left-test.true in
    let next : c.loop-left.left ≡ suc (c.loop-left.left - 1) = omega (arith, test) in
    marking_goes c.args.steps.now c.loop-left.left (c.loop-left.left - 1) c.loop-left.marks c.mark_step.new.marks c.index-steps-left.result c.loop-left.invariant next (sym c.index-steps-left.is)
    c.mark_step.ensures c.mark_step.auto.marks

pub returns : goal.returns
returns c = λ d earlier.
    let end = c.loop-left-test.false in
    let none : c.loop-left.left ≡ 0 = omega (arith, end) in
    marking_ends c.args.steps.now c.loop-left.marks d (subst (λ n. IsMarking c.args.steps.now n c.loop-left.marks) none c.loop-left.invariant) earlier
