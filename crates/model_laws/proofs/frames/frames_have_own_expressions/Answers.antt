use Rattle.model_laws.proofs.FrameForms.{own_expressions}
use Rattle.model_laws.proofs.frames.frames_have_own_expressions.Goals as goal

pub returns : goal.returns
returns c = own_expressions
