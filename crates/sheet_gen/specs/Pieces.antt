-- Lines, piece by piece. This is part of the proof, and not of the claim.
use Rattle.std.specs.Prelude.{ℕ, List, [], ◌∷◌, ◌++◌, flat_map, codes}
use Rattle.mm_model.specs.Names.{Name}
use Rattle.sheet_text.specs.Layout.{ended}
use Rattle.trial_texts.specs.TrialTexts.{step_line, in_block, implies, provable}

-- tokens, each behind a space
abbrev pub behind : List Name → List ℕ
behind tokens = flat_map (λ t. 32 ∷ t) tokens

-- `:PLACE,PLACE:ax-mp`
abbrev pub joined : Name → Name → List ℕ
joined first second = codes ":" ++ first ++ codes "," ++ second ++ codes ":ax-mp"

-- behind a step's name, its line
abbrev pub behind_name : Name → Name → List Name → List ℕ
behind_name first second formula = joined first second ++ behind formula ++ codes "\n"

-- the lines before that of `( F -> F )`
abbrev pub first_lines : ℕ → List Name → List (List ℕ)
first_lines k f =
    step_line (in_block (codes "a") k) [] (codes "ax-1") (provable (implies f (implies f f)))
    ∷ step_line (in_block (codes "b") k) [] (codes "ax-1") []
    ∷ step_line (in_block (codes "c") k) [] (codes "ax-2") []
    ∷ step_line (in_block (codes "e") k) (in_block (codes "b") k ∷ in_block (codes "c") k ∷ []) (codes "ax-mp") [] ∷ []
