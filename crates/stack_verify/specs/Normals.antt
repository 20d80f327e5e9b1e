-- The code of a normal proof, label by label. This is part of the proof, and not of the claim.
use Rattle.std.specs.Prelude.{◌≡◌, ℕ, List, [], ◌∷◌, ◌++◌, map, codes, if◌then◌else◌}
use Rattle.mm_model.specs.Names.{contains}
use Rattle.proof_model.specs.declared.code.Step.{Step}
use Rattle.proof_model.specs.Codes.{normal_step, other_labels}

-- a name is put in, if it is not there
abbrev pub with_name : List (List ℕ) → List ℕ → List (List ℕ)
with_name names name = if contains names name then names else names ++ name ∷ []

-- a label is put in, if it is no hypothesis and not there
abbrev pub with_other : List (List ℕ) → List (List ℕ) → List ℕ → List (List ℕ)
with_other mandatory others name = if contains (codes "?" ∷ mandatory) name then others else with_name others name

-- the other labels of these, and the steps of these
pub record StepsSoFar (mandatory labels others : List (List ℕ)) (steps : List Step) : Type 0 where
  pub listed : others ≡ other_labels mandatory labels
  pub taken : steps ≡ map (normal_step mandatory others) labels
