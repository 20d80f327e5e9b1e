use Rattle.headline_laws.proofs.Exported.{answer_is_exported}
use Rattle.headline_laws.proofs.answer_is_exported.Goals as goal

pub returns : goal.returns
returns c = answer_is_exported c.written_proof_is_accepted.ensures c.answer_is_fixed.ensures c.export_is_finished.ensures
