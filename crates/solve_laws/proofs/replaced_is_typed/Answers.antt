use Rattle.solve_laws.proofs.ReplacedTypes.{replaced_typed}
use Rattle.solve_laws.proofs.replaced_is_typed.Goals as goal

pub returns : goal.returns
returns c = λ rows before at_var at_open t keeps h. replaced_typed rows before at_var at_open keeps t h
