use Rattle.std.proofs.Common.{length, ap, arith}
use Rattle.work_vars.proofs.FreeLaws.{low_bounded, window_bounded, window_passed}
use Rattle.work_vars.proofs.free.least_free.Goals as goal

pub first_in_window-requires : goal.first_in_window-requires
first_in_window-requires c =
    let most = low_bounded c.as_slice-used.result.now c.loop-number.low c.loop-number.invariant.0 c.loop-number.invariant.1 in
    omega (arith, most, ap length c.as_slice-used.ensures)

pub overflow_cast-result : goal.overflow_cast-result
overflow_cast-result c =
    let most = window_bounded c.as_slice-used.result.now c.loop-number.low c.in-Some.number c.loop-number.invariant.0 c.loop-number.invariant.1 c.in-Some.ensures in
    omega (arith, most, ap length c.as_slice-used.ensures)

pub overflow_add-low : goal.overflow_add-low
overflow_add-low c =
    let most = low_bounded c.as_slice-used.result.now c.loop-number.low c.loop-number.invariant.0 c.loop-number.invariant.1 in
    omega (arith, most, ap length c.as_slice-used.ensures)

pub loop-number-smaller : goal.loop-number-smaller
loop-number-smaller c =
    let most = low_bounded c.as_slice-used.result.now c.loop-number.low c.loop-number.invariant.0 c.loop-number.invariant.1 in
    omega (arith, most)

pub loop-number-preserved : goal.loop-number-preserved
loop-number-preserved c =
    (omega arith, window_passed c.as_slice-used.result.now c.loop-number.low 65536 c.loop-number.invariant.1 (λ n from to. c.in_default.ensures n from (omega arith)))
