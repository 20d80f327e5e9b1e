use Rattle.std.proofs.Common.{arith, ◌≤◌, ◌<◌, ℕ, sym, refl}
use Rattle.sheet_print.proofs.Marks.{step_counted, comment_counted, marked, steps_before}
use Rattle.sheet_print.proofs.index.mark_steps.Goals as goal
use Rattle.sheet_print.proofs.index.mark_steps.Goals.{in-Comment, in-Step, then-number-stride-eq0, else-number-stride-eq0}

below : {n m : ℕ} → n < m → n ≤ m
below h = omega arith

pub overflow_add-number : goal.overflow_add-number
overflow_add-number c = omega (arith, steps_before c.args.items.now c.loop-place.place, c.loop-place.invariant.0, c.loop-place.auto.place-end, c.loop-place-test.true)

pub loop-place-preserved : goal.loop-place-preserved
loop-place-preserved c = elim c.match-item.branch [
  | in-Comment w ↦ rw (w.number-is, w.marks-is) (
    comment_counted c.args.items.now c.loop-place.place c.index-items-place.result _ c.loop-place.number c.loop-place-test.true
        c.index-items-place.is w.in-Comment.is c.loop-place.invariant.0,
    c.loop-place.invariant.1,
  )
  | in-Step w ↦ let count =
      step_counted c.args.items.now c.loop-place.place c.index-items-place.result _ c.loop-place.number c.loop-place-test.true c.index-items-place.is
      w.in-Step.is c.loop-place.invariant.0 in
      elim w.if-number-stride-eq0.branch [
        | then-number-stride-eq0 v ↦ rw (w.number-is, w.marks-is, v.marks-is) (
          count,
          marked c.args.items.now c.loop-place.marks _ _ _ c.loop-place.invariant.1
              (below c.loop-place-test.true, sym c.loop-place.invariant.0) v.note.ensures,
        )
        | else-number-stride-eq0 v ↦ rw (w.number-is, w.marks-is, v.marks-is) (count, c.loop-place.invariant.1)
      ]
]

pub loop-place-init : goal.loop-place-init
loop-place-init c = (refl, c.clear.ensures c.args.items.now)
