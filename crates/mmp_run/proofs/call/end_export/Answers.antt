use Rattle.std.proofs.Common.{refl}
use Rattle.mmp_run.proofs.MayEnd.{may_refuse, may_export}
use Rattle.mmp_run.proofs.call.end_export.Goals as goal

pub returns-in-Database-clause-answer : goal.returns-in-Database-clause-answer
returns-in-Database-clause-answer g c =
    let listed = rw c.in-Database.is at c.in_ok-text.ensures.opened in
    may_export _ _ _ _ _ c.in-Database.text c.end_proof.result listed.is_open (rw (c.as_slice.ensures, c.in_ok-options.ensures) at c.end_proof.ensures.answer) c.end_proof.ensures.ending

pub returns-clause-answer : goal.returns-clause-answer
returns-clause-answer g c = may_refuse _ _ _ _ _ c.in-Refused.end refl refl (rw c.in-Refused.is at c.in_ok-text.ensures.opened)
