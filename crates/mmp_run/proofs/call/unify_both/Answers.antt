use Rattle.std.proofs.Common.{ℕ, List, IfOk, subst, sym}
use Rattle.call_answers.specs.CommandLine.{sheet_command}
use Rattle.mmp_run.specs.Refused.{IsUnified}
use Rattle.mmp_run.specs.Shown.{options_shown, unify_command}
use Rattle.mmp_run.proofs.MayEnd.{may_refuse_file, may_unify, unify_reads}
use Rattle.written_model.specs.declared.options.Options.{Options}
use Rattle.mmp_run.proofs.call.unify_both.Goals as goal

pub returns-in-Both : goal.returns-in-Both
returns-in-Both c = λ told before now choice database sheet same is.
    let opened = rw c.in-Both.is at is in
    may_unify (sheet_command (options_shown choice) database sheet) c.in-Both.text choice.in_place told before now c.in-Both.sheet c.end_sheet.result opened.listed.is_open opened.is_sheet
    (λ text says. subst (λ (o : Options). IfOk c.end_sheet.result (IsUnified o c.in-Both.text text)) (sym same)
    (subst (λ (t : List ℕ). IfOk c.end_sheet.result (IsUnified c.args.options.now t text)) c.as_slice.ensures (c.end_sheet.ensures.answer text says))) c.end_sheet.ensures.ending

pub returns-in-Refused : goal.returns-in-Refused
returns-in-Refused c = λ told before now choice database sheet same is.
    may_refuse_file (unify_command choice database sheet) database sheet (unify_reads (sheet_command (options_shown choice) database sheet) choice.in_place) told before now c.in-Refused.end (rw c.in-Refused.is at is)
