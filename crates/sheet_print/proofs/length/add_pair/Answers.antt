use Rattle.std.proofs.Common.{codes}
use Rattle.sheet_print.proofs.Counts.{three_counts, line_len}
use Rattle.sheet_print.proofs.length.add_pair.Goals as goal

pub returns : goal.returns
returns c = three_counts _ _ _ _ _ _ _ _ c.add-total.ensures (rw c.as_slice.ensures at c.add_tokens-total.ensures) c.add.ensures (line_len (codes "$d") c.args.pair.now.names)
