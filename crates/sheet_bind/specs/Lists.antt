-- Lists that are made element by element. This is part of the proof, and not of the claim.
use Rattle.std.specs.Prelude.{List, [], ◌∷◌, ◌++◌, Option, Some, None}

-- one element more, where there is one
abbrev pub put_some : {X : Type 0} → List X → Option X → List X
put_some xs None = xs
put_some xs (Some x) = xs ++ x ∷ []
