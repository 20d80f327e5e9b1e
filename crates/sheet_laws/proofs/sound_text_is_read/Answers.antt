use Rattle.sheet_laws.proofs.ReadAgainLaws.{reads_as_one}
use Rattle.sheet_laws.proofs.SpellableLaws.{sound_is_read}
use Rattle.sheet_laws.proofs.sound_text_is_read.Goals as goal

pub returns : goal.returns
returns c = record { read = sound_is_read; one = reads_as_one }
