use Rattle.model_laws.proofs.PlaceFacts.{have_places}
use Rattle.model_laws.proofs.databases.databases_have_places.Goals as goal

pub returns : goal.returns
returns c = have_places
