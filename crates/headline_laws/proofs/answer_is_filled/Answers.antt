use Rattle.headline_laws.proofs.Filled.{answer_is_filled}
use Rattle.headline_laws.proofs.answer_is_filled.Goals as goal

pub returns : goal.returns
returns c =
    answer_is_filled c.filled_answer_is_unified.ensures.accepted c.filled_answer_is_unified.ensures.no_proof c.filled_answer_is_unified.ensures.fixed
    c.filling_again_changes_nothing.ensures
