use Rattle.std.specs.Option.{option_copied}
use Rattle.sheet_unify.proofs.EndLaws.{large_text, fits_out}
use Rattle.sheet_unify.proofs.ending.laid_out.Goals as goal

pub returns-then-length-gt-MOST_SHEET_BYTES-clause-fault : goal.returns-then-length-gt-MOST_SHEET_BYTES-clause-fault
returns-then-length-gt-MOST_SHEET_BYTES-clause-fault c =
    large_text c.args.written.now (option_copied c.args.proof) c.layout_len-length.result c.layout_len-length.ensures c.if-length-gt-MOST_SHEET_BYTES.true

pub returns-in-Ok-clause-text : goal.returns-in-Ok-clause-text
returns-in-Ok-clause-text c =
    fits_out c.args.written.now (option_copied c.args.proof) c.layout_len-length.result c.in-Ok.text c.layout_len-length.ensures c.if-length-gt-MOST_SHEET_BYTES.false c.in-Ok.ensures.text
