use Rattle.mm_model.proofs.KeptLaws.{kept_is_grammar}
use Rattle.model_laws.proofs.chains.kept_rows_are_a_grammar.Goals as goal

pub returns : goal.returns
returns c = kept_is_grammar
