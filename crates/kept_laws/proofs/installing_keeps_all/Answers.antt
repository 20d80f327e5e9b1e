use Rattle.kept_laws.proofs.Installing.{keeps_all}
use Rattle.kept_laws.proofs.installing_keeps_all.Goals as goal

pub returns : goal.returns
returns c = keeps_all c.finished_can_be_put_in.ensures c.installed_text_has_no_fault.ensures
