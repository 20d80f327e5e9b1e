use Rattle.sheet_print.proofs.Pieces.{line_parts}
use Rattle.sheet_print.proofs.text.put_pair.Goals as goal

pub returns : goal.returns
returns c = line_parts _ _ _ _ _ _ c.in_ok-put.ensures (rw c.as_slice.ensures at c.in_ok-put_tokens.ensures) c.in_ok-put-2.ensures
