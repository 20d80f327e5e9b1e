use Rattle.std.proofs.Common.{arith}
use Rattle.work_vars.proofs.FreeLaws.{in_window, no_window}
use Rattle.work_vars.proofs.free.first_in_window.Goals as goal

pub returns-in-Some : goal.returns-in-Some
returns-in-Some c =
    in_window c.args.used.now c.args.marks.now c.mark.new.marks c.args.low c.mark.ensures c.in-Some.place
    (omega (arith, c.in-Some.ensures.0, c.mark.auto.marks)) c.in-Some.ensures.1 c.in-Some.ensures.2

pub returns-in-None : goal.returns-in-None
returns-in-None c =
    no_window c.args.used.now c.args.marks.now c.mark.new.marks c.args.low c.mark.ensures (λ k h. c.in-None.ensures k (omega (arith, h, c.mark.auto.marks)))
