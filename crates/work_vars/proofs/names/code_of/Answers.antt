use Rattle.std.proofs.Common.{sym}
use Rattle.work_vars.proofs.NameLaws.{code_parted}
use Rattle.work_vars.proofs.names.code_of.Goals as goal

pub returns-else-is_short : goal.returns-else-is_short
returns-else-is_short c =
    code_parted c.args.prefix.now c.in_ok-strip_prefix.field-0.now c.in_ok-code.code.now c.as_slice-4.result.now c.as_slice-5.result.now c.as_slice-4.ensures
    c.as_slice-5.ensures (sym c.if-is_short.ensures) c.in_ok-strip_prefix.ensures.cases.0 c.in_ok-strip_prefix.ensures.cases.1 c.in_ok-code.ensures.cases.0
    c.in_ok-code.ensures.cases.1
