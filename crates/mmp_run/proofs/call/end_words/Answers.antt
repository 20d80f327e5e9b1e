use Rattle.std.proofs.lemmas.Result.{IfOk-weaker}
use Rattle.mmp_run.proofs.call.end_words.Goals as goal

pub returns-in-None-clause-answer : goal.returns-in-None-clause-answer
returns-in-None-clause-answer g c = rw c.in-None.is (IfOk-weaker c.refuse.result _ _ (λ end is. record { by_words = is }) c.refuse.ensures)
