use Rattle.std.proofs.Common.{subst, ap, length}
use Rattle.step_chain.specs.Held.{IsHeld}
use Rattle.step_chain.proofs.AnswerLaws.{hyps_kept, hyps_told}
use Rattle.step_chain.proofs.chain.Chain.hyps.Goals as goal

pub returns-clause-kept : goal.returns-clause-kept
returns-clause-kept c =
    hyps_kept c.args.self.now (subst IsHeld c.self.view_is c.self.invariant) c.args.i c.accepted.result.now c.accepted.ensures
    (length c.as_slice.result.now) (ap length c.as_slice.ensures)

pub returns-clause-count : goal.returns-clause-count
returns-clause-count c =
    hyps_told c.args.self.now (subst IsHeld c.self.view_is c.self.invariant) c.args.i c.accepted.result.now c.accepted.ensures
    (length c.as_slice.result.now) (ap length c.as_slice.ensures)
