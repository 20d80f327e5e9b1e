use Rattle.std.proofs.Common.{sym, ap, ◌∙◌, refl}
use Rattle.step_chain.specs.Standings.{standing_in}
use Rattle.step_chain.proofs.NextLaws.{next_settled}
use Rattle.step_chain.proofs.judging.judge.Goals as goal

pub returns-in-Settled-clause-next : goal.returns-in-Settled-clause-next
returns-in-Settled-clause-next c =
    let d = c.args.db.now in
    let bound = c.args.bound.now in
    next_settled d bound c.args.formulas.now c.args.i c.args.arena.now c.args.arena.now c.mark-mark.ensures.store c.requires.solved (record { nodes = refl; links = refl }) c.in-Settled.verdict
    (ap (standing_in d bound.place) (sym c.step_at.ensures) ∙ sym c.standing_of.ensures.kept ∙ c.in-Settled.is) c.requires.step
