use Rattle.sheet_theorem.proofs.OutcomeLaws.{outcome_within}
use Rattle.sheet_theorem.proofs.place.outcomes_have_places.Goals as goal

pub returns : goal.returns
returns c = λ d outcome over. outcome_within d outcome c.frames_have_own_expressions.ensures over
