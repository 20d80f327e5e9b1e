use Rattle.std.specs.Option.{option_copied}
use Rattle.sheet_print.proofs.Counts.{layout_count}
use Rattle.sheet_print.proofs.length.layout_len.Goals as goal

pub returns : goal.returns
returns c =
    layout_count c.args.sheet.now (option_copied c.args.proof) _ _ _ _ _ c.header_len-total.ensures
    (rw (c.new.ensures, c.as_slice-items.ensures) at c.add_items-total.ensures) c.add_proof-total.ensures
    (rw c.as_slice.ensures at c.add_pairs-total.ensures) c.add.ensures
