use Rattle.std.proofs.Common.{ℕ, List, subst}
use Rattle.call_answers.specs.Verified.{IsVerdict}
use Rattle.mmp_run.specs.Verdicts.{told_refusal}
use Rattle.mmp_run.proofs.Exported.{refusal_exports}
use Rattle.mmp_run.proofs.export.end_proof.Goals as goal

pub returns-in-Refused-clause-answer : goal.returns-in-Refused-clause-answer
returns-in-Refused-clause-answer c =
    refusal_exports c.args.options.now c.args.text.now c.args.name.now c.in-Refused.refusal c.end_refusal.result
    (subst (λ (n : List ℕ). IsVerdict c.args.text.now n (told_refusal c.in-Refused.refusal)) c.as_bytes.ensures.value (rw c.in-Refused.is at c.in_ok-proof.ensures.verdict))
    c.end_refusal.ensures
