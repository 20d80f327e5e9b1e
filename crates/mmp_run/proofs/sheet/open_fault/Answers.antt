use Rattle.std.proofs.Common.{inl}
use Rattle.mm_model.specs.Faults.{fault}
use Rattle.sheet_read.specs.Faults.{code_of}
use Rattle.mmp_run.proofs.Refusals.{sheet_refused}
use Rattle.mmp_run.proofs.sheet.open_fault.Goals as goal

pub returns : goal.returns
returns c = λ told before now name has.
    inl (sheet_refused told name c.args.text.now c.in_ok-end.end (fault c.args.line (code_of c.args.code)) c.requires.short has c.requires.first c.in_ok-end.ensures)
