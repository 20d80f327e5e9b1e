-- What it means that a proof is accepted.
use Rattle.std.specs.Prelude.{◌≡◌, ◌↔◌, [], ◌∷◌, Ok}
use Rattle.proof_model.specs.declared.code.Code.{Code}
use Rattle.proof_model.specs.declared.theorem.Theorem.{Theorem}
use Rattle.proof_model.specs.Machine.{Frames, Accepts, stack_after}

-- a proof is accepted exactly where it ends with the theorem's formula alone on the stack
abbrev pub EndsWithTheorem : Frames → Theorem → Type 0
EndsWithTheorem frames theorem = (code : Code) → Accepts frames theorem code ↔ (stack_after frames theorem code ≡ Ok (theorem.formula ∷ []))
