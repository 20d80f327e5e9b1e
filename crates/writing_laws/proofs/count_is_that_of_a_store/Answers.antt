use Rattle.writing_laws.proofs.StoreCounts.{count_is_tokens}
use Rattle.writing_laws.proofs.count_is_that_of_a_store.Goals as goal

pub returns : goal.returns
returns c = count_is_tokens
