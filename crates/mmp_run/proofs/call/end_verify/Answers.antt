use Rattle.std.proofs.Common.{◌∙◌, sym, ap, refl}
use Rattle.mm_frames.specs.Contents.{contents_of}
use Rattle.mm_model.specs.Statements.{database_fault}
use Rattle.mmp_run.proofs.MayEnd.{may_refuse, may_verify}
use Rattle.mmp_run.proofs.call.end_verify.Goals as goal

pub end_theorem-requires-clause-contents : goal.end_theorem-requires-clause-contents
end_theorem-requires-clause-contents g c =
    let listed = rw c.in-Database.is at c.in_ok-text.ensures.opened in listed.contents_are ∙ ap contents_of (sym c.as_slice.ensures)

pub end_theorem-requires-clause-no_fault : goal.end_theorem-requires-clause-no_fault
end_theorem-requires-clause-no_fault g c =
    let listed = rw c.in-Database.is at c.in_ok-text.ensures.opened in ap database_fault c.as_slice.ensures ∙ listed.is_open.accepted.no_fault

pub returns-in-Refused-clause-answer : goal.returns-in-Refused-clause-answer
returns-in-Refused-clause-answer g c = may_refuse _ _ _ _ _ c.in-Refused.end refl refl (rw c.in-Refused.is at c.in_ok-text.ensures.opened)

pub returns-in-Database-clause-answer : goal.returns-in-Database-clause-answer
returns-in-Database-clause-answer g c =
    let listed = rw c.in-Database.is at c.in_ok-text.ensures.opened in
    may_verify _ _ _ _ c.in-Database.text c.end_theorem.result listed.is_open (rw c.as_slice.ensures at c.end_theorem.ensures)
