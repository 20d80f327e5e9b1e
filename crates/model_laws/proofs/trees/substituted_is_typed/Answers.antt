use Rattle.mm_model.proofs.SubstitutionTypes.{substitute_typed}
use Rattle.model_laws.proofs.trees.substituted_is_typed.Goals as goal

pub returns : goal.returns
returns c = λ rows before s t is p. let kept = substitute_typed rows before s is t p in (kept.code, kept.typed)
