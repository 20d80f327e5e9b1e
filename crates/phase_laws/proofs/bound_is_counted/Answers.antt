use Rattle.phase_laws.proofs.Placed.{bound_is_counted, sound_is_short}
use Rattle.phase_laws.proofs.bound_is_counted.Goals as goal

pub returns : goal.returns
returns c = record { counted = bound_is_counted; short = sound_is_short }
