-- Numbers and steps in letters.
use Rattle.std.specs.Prelude.{◌≡◌, ◌<◌, ℕ, List}
use Rattle.proof_model.specs.declared.code.Step.{Step}
use Rattle.proof_model.specs.ProofCode.{SpellsNumber, SpellsSteps, number_letters, steps_letters}

-- a number has no other spelling than the one that is written
abbrev pub NumberIsSpelledOnce : Type 0
NumberIsSpelledOnce = (letters : List ℕ) (n : ℕ) → SpellsNumber letters n → letters ≡ number_letters n

-- and that is a spelling
abbrev pub NumberIsSpelled : Type 0
NumberIsSpelled = (n : ℕ) → 0 < n → SpellsNumber (number_letters n) n

-- the same of steps, with m mandatory hypotheses and n labels
abbrev pub StepsAreSpelledOnce : Type 0
StepsAreSpelledOnce = (m n : ℕ) (letters : List ℕ) (steps : List Step) → SpellsSteps m n letters steps → letters ≡ steps_letters m n steps

abbrev pub StepsAreSpelled : Type 0
StepsAreSpelled = (m n : ℕ) (steps : List Step) → SpellsSteps m n (steps_letters m n steps) steps
