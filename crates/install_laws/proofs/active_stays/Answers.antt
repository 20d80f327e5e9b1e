use Rattle.install_laws.proofs.ActiveLaw.{active_stays_before, active_stays_behind}
use Rattle.install_laws.proofs.active_stays.Goals as goal

pub returns : goal.returns
returns c = record { before = active_stays_before; behind = active_stays_behind }
