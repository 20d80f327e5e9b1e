use Rattle.std.proofs.Common.{◌∙◌, sym, arith, length, ◌-◌}
use Rattle.sheet_read.proofs.Mapped.{end-cut, end-kept}
use Rattle.sheet_read.proofs.statements.without_end.Goals as goal

pub returns-then-is_end : goal.returns-then-is_end
returns-then-is_end c = end-cut c.args.tokens.now (length c.args.tokens.now - 1) _ (omega arith) (sym c.is_end.ensures ∙ c.if-is_end.true)

pub returns-else-is_end : goal.returns-else-is_end
returns-else-is_end c = end-kept c.args.tokens.now (length c.args.tokens.now - 1) _ (omega arith) (sym c.is_end.ensures ∙ c.if-is_end.false)
