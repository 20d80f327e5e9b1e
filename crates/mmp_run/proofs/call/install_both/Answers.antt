use Rattle.std.proofs.Common.{ℕ, List, IfOk, subst, sym}
use Rattle.call_answers.specs.CommandLine.{sheet_command}
use Rattle.mmp_run.specs.Installed.{IsInstalled}
use Rattle.mmp_run.specs.Shown.{options_shown, install_command}
use Rattle.mmp_run.proofs.MayEnd.{may_refuse_file, may_install, install_reads}
use Rattle.written_model.specs.declared.options.Options.{Options}
use Rattle.mmp_run.proofs.call.install_both.Goals as goal

pub returns-in-Both : goal.returns-in-Both
returns-in-Both c = λ told before now choice database sheet same is.
    let opened = rw c.in-Both.is at is in
    may_install (sheet_command (options_shown choice) database sheet) c.in-Both.text told before now c.in-Both.sheet c.end_put_in.result opened.listed.is_open opened.is_sheet
    (λ text says. subst (λ (o : Options). IfOk c.end_put_in.result (IsInstalled o c.in-Both.text text)) (sym same)
    (subst (λ (t : List ℕ). IfOk c.end_put_in.result (IsInstalled c.args.options.now t text)) c.as_slice.ensures (c.end_put_in.ensures.answer text says))) c.end_put_in.ensures.ending

pub returns-in-Refused : goal.returns-in-Refused
returns-in-Refused c = λ told before now choice database sheet same is.
    may_refuse_file (install_command choice database sheet) database sheet (install_reads (sheet_command (options_shown choice) database sheet)) told before now c.in-Refused.end (rw c.in-Refused.is at is)
