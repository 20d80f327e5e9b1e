use Rattle.installed_laws.proofs.NoFaultLaw.{installed_text_has_no_fault}
use Rattle.installed_laws.proofs.installed_text_has_no_fault.Goals as goal

pub returns : goal.returns
returns c = installed_text_has_no_fault
