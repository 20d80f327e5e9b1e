use Rattle.std.proofs.Common.{ℕ, List, IfOk, subst, sym}
use Rattle.call_answers.specs.CommandLine.{sheet_command}
use Rattle.mmp_run.specs.Filled.{IsFilled}
use Rattle.mmp_run.specs.Shown.{options_shown, auto_command}
use Rattle.mmp_run.proofs.MayEnd.{may_refuse_file, may_fill, auto_reads}
use Rattle.written_model.specs.declared.options.Options.{Options}
use Rattle.mmp_run.proofs.call.auto_both.Goals as goal

pub returns-in-Both : goal.returns-in-Both
returns-in-Both c = λ told before now choice database sheet same is.
    let opened = rw c.in-Both.is at is in
    may_fill (sheet_command (options_shown choice) database sheet) c.in-Both.text told before now c.in-Both.sheet c.end_auto.result opened.listed.is_open opened.is_sheet
    (λ text says. subst (λ (o : Options). IfOk c.end_auto.result (IsFilled o c.in-Both.text text)) (sym same)
    (subst (λ (t : List ℕ). IfOk c.end_auto.result (IsFilled c.args.options.now t text)) c.as_slice.ensures (c.end_auto.ensures.answer text says))) c.end_auto.ensures.ending

pub returns-in-Refused : goal.returns-in-Refused
returns-in-Refused c = λ told before now choice database sheet same is.
    may_refuse_file (auto_command choice database sheet) database sheet (auto_reads (sheet_command (options_shown choice) database sheet)) told before now c.in-Refused.end (rw c.in-Refused.is at is)
