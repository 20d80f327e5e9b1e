use Rattle.step_filling.proofs.ChainCountLaws as laws
use Rattle.step_filling.proofs.laws.chain_is_counted.Goals as goal

pub returns : goal.returns
returns c = laws.chain_is_counted c.typed_is_counted.ensures.counted c.bound_is_ready.ensures c.candidates_are_ready.ensures
