use Rattle.model_laws.proofs.StatementFacts.{sound_statements}
use Rattle.model_laws.proofs.databases.statements_are_sound.Goals as goal

pub returns : goal.returns
returns c = sound_statements
