use Rattle.mm_model.proofs.SubstitutionLaws.{text-substitute}
use Rattle.model_laws.proofs.trees.text_of_substituted.Goals as goal

pub returns : goal.returns
returns c = λ rows s t keeps. text-substitute rows s keeps t
