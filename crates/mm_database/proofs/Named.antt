-- Symbols by name, and the rows of frames.
use Rattle.std.specs.Prelude.{◌≡◌, List, [], ◌∷◌, map, Option, Some, None, option_and_then, refl}
use Rattle.std.specs.List.{filter_map, cons_option}
use Rattle.std.proofs.Common.{ap}

one_row : {A B : Type 0} (h : A → Option B) (o : Option A) (rest : List B) (all : List A) → rest ≡ filter_map h all → cons_option (option_and_then h o) rest ≡ filter_map h (cons_option o all)
one_row h None rest all e = e
one_row h (Some a) rest all e = ap (cons_option (h a)) e

-- what is made of each frame that is there
pub rows_of_frames : {X A B : Type 0} (h : A → Option B) (g : X → Option A) (xs : List X) → filter_map (option_and_then h) (map g xs) ≡ filter_map h (filter_map g xs)
rows_of_frames h g [] = refl
rows_of_frames h g (x ∷ xs) = one_row h (g x) (filter_map (option_and_then h) (map g xs)) (filter_map g xs) (rows_of_frames h g xs)
