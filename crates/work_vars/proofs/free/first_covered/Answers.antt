use Rattle.std.proofs.Common.{arith}
use Rattle.work_vars.proofs.FreeLaws.{no_window, least_in}
use Rattle.work_vars.proofs.free.first_covered.Goals as goal

pub returns-in-Some : goal.returns-in-Some
returns-in-Some c = (
  least_in c.args.used.now c.args.marks.now c.mark_long.new.marks c.mark_long.ensures c.in-Some.place
      (omega (arith, c.in-Some.ensures.0, c.mark_long.auto.marks)) c.in-Some.ensures.1 c.in-Some.ensures.2,
  omega (arith, c.in-Some.ensures.0, c.mark_long.auto.marks),
)

pub returns-in-None : goal.returns-in-None
returns-in-None c =
    no_window c.args.used.now c.args.marks.now c.mark_long.new.marks 1 c.mark_long.ensures (λ k h. c.in-None.ensures k (omega (arith, h, c.mark_long.auto.marks)))
