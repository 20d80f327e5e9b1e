use Rattle.std.proofs.Common.{◌∙◌, sym, arith}
use Rattle.sheet_read.proofs.Mapped.{bad-any}
use Rattle.sheet_read.proofs.statements.is_bad_distinct.Goals as goal

pub returns : goal.returns
returns c = bad-any c.args.symbols.now c.has_end.result (omega arith) (sym c.if-branch.false ∙ c.in_ok-has_twice.ensures) c.has_end.ensures
