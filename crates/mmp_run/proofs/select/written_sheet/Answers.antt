use Rattle.std.proofs.Common.{refl}
use Rattle.mmp_run.proofs.Asked.{is_of_writing}
use Rattle.mmp_run.proofs.select.written_sheet.Goals as goal

pub returns : goal.returns
returns c = λ db options w mode written. is_of_writing db options w c.args.outcome.now _ written refl mode refl c.as_slice.ensures c.as_slice-2.ensures
