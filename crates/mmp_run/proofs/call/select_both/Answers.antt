use Rattle.std.proofs.Common.{ℕ, List, IfOk, subst, sym}
use Rattle.call_answers.specs.CommandLine.{sheet_command}
use Rattle.mmp_run.specs.Asked.{IsAsked}
use Rattle.mmp_run.specs.Shown.{options_shown, select_command}
use Rattle.mmp_run.proofs.MayEnd.{may_refuse_file, may_select, select_reads}
use Rattle.written_model.specs.declared.options.Options.{Options}
use Rattle.mmp_run.proofs.call.select_both.Goals as goal

pub returns-in-Both : goal.returns-in-Both
returns-in-Both c = λ told before now choice database sheet same is.
    let opened = rw c.in-Both.is at is in
    let step = c.args.step.now in
    may_select (sheet_command (options_shown choice) database sheet) c.in-Both.text step told before now c.in-Both.sheet c.end_step.result opened.listed.is_open opened.is_sheet
    (λ text says. subst (λ (o : Options). IfOk c.end_step.result (IsAsked o c.in-Both.text text step)) (sym same)
    (subst (λ (t : List ℕ). IfOk c.end_step.result (IsAsked c.args.options.now t text step)) c.as_slice.ensures (c.end_step.ensures.answer text says))) c.end_step.ensures.ending

pub returns-in-Refused : goal.returns-in-Refused
returns-in-Refused c = λ told before now choice database sheet same is.
    may_refuse_file (select_command choice database sheet c.args.step.now) database sheet (select_reads (sheet_command (options_shown choice) database sheet) c.args.step.now) told before now
    c.in-Refused.end (rw c.in-Refused.is at is)
