use Rattle.sheet_laws.proofs.ReadAgainLaws.{laid_out_reads_only_as}
use Rattle.sheet_laws.proofs.ReadBackLaws.{laid_out_reads_back}
use Rattle.sheet_laws.proofs.laid_out_reads_back.Goals as goal

pub returns : goal.returns
returns c = record { back = laid_out_reads_back; only = laid_out_reads_only_as }
