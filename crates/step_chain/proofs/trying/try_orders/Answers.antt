use Rattle.step_chain.proofs.JoinLaws.{keeps_more}
use Rattle.step_chain.proofs.trying.try_orders.Goals as goal

pub returns-in-Ok-clause-kept : goal.returns-in-Ok-clause-kept
returns-in-Ok-clause-kept c = keeps_more c.args.arena.now c.join_all.new.arena c.first_fit.new.arena c.join_all.ensures.kept c.first_fit.ensures.kept
