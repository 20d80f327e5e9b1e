use Rattle.proof_laws.proofs.ReadLaws.{sound_spells}
use Rattle.proof_laws.proofs.sound_text_is_a_code.Goals as goal

pub returns : goal.returns
returns c = sound_spells
