use Rattle.proof_laws.proofs.UniqueLaws.{spells_one}
use Rattle.proof_laws.proofs.WrittenLaw.{written_spells, written_sound}
use Rattle.proof_laws.proofs.written_code_is_read.Goals as goal

pub returns : goal.returns
returns c = record { spells = written_spells; sound = written_sound; one = spells_one }
