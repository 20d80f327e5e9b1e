use Rattle.std.proofs.Common.{◌≡◌, ◌+◌, length, arith}
use Rattle.work_vars.proofs.FreeLaws.{low_bounded}
use Rattle.work_vars.proofs.free.least_unused.Goals as goal

pub unreachable-requires : goal.unreachable-requires
unreachable-requires c =
    let long : length c.as_mut_slice.result.now ≡ length c.args.used.now + 1 = omega (arith, c.in_ok-marks.ensures.len, c.as_mut_slice.ensures.len) in
    let most = low_bounded c.args.used.now (length c.args.used.now + 2) (omega arith) (λ n from to. c.in-None.ensures n from (omega (arith, long))) in
    omega (arith, most)

pub returns-clause-bounded : goal.returns-clause-bounded
returns-clause-bounded c = omega (arith, c.in-Some.ensures.1, c.in_ok-marks.ensures.len, c.as_mut_slice.ensures.len)
