use Rattle.sheet_print.proofs.Counts.{three_counts, line_len}
use Rattle.sheet_print.proofs.length.add_step.Goals as goal

pub returns : goal.returns
returns c = three_counts _ _ _ _ _ _ _ _ c.add_step_token-total.ensures (rw c.as_slice.ensures at c.add_tokens-total.ensures) c.add.ensures (line_len _ c.args.step.now.formula)
