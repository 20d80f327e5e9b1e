use Rattle.headline_laws.proofs.Unified.{answer_is_unified}
use Rattle.headline_laws.proofs.answer_is_unified.Goals as goal

pub returns : goal.returns
returns c = answer_is_unified c.written_proof_is_accepted.ensures c.written_without_proof.ensures c.answer_is_fixed.ensures
