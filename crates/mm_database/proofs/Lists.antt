-- Lists that are made element by element.
use Rattle.std.specs.Prelude.{◌≡◌, ◌<◌, ◌≤◌, ◌+◌, ◌++◌, ℕ, suc, List, [], ◌∷◌, length, take, map, Option, Some, None, refl}
use Rattle.std.specs.List.{filter_map, cons_option}
use Rattle.std.proofs.Common.{arith, ap, ◌∙◌, append-nil, get_or}
use Rattle.std.proofs.lemmas.List.{take_more}
use Rattle.std.proofs.lemmas.List.Elements.{filter_map-append}

module _ {X Y : Type 0} (h : X → Option Y) (xs : List X) (k : ℕ) (d : X) (l : k < length xs) where
  next : filter_map h (take (k + 1) xs) ≡ filter_map h (take k xs) ++ cons_option (h (get_or xs k d)) []
  next = ap (filter_map h) (take_more xs k d l) ∙ filter_map-append h (take k xs) (get_or xs k d ∷ [])

  pub filter_map_found : (y : Y) → h (get_or xs k d) ≡ Some y → filter_map h (take (k + 1) xs) ≡ filter_map h (take k xs) ++ y ∷ []
  filter_map_found y e = next ∙ ap (λ o. filter_map h (take k xs) ++ cons_option o []) e

  pub filter_map_none : h (get_or xs k d) ≡ None → filter_map h (take (k + 1) xs) ≡ filter_map h (take k xs)
  filter_map_none e = next ∙ ap (λ o. filter_map h (take k xs) ++ cons_option o []) e ∙ append-nil (filter_map h (take k xs))

-- what is left out makes a list no longer
longer : {Y : Type 0} (o : Option Y) (ys : List Y) → length (cons_option o ys) ≤ suc (length ys)
longer None ys = omega arith
longer (Some y) ys = omega arith

pub length-filter_map : {X Y : Type 0} (h : X → Option Y) (xs : List X) → length (filter_map h xs) ≤ length xs
length-filter_map h [] = omega arith
length-filter_map h (x ∷ xs) = let more = length-filter_map h xs in let one = longer (h x) (filter_map h xs) in omega (arith, more, one)

map-append : {X Y : Type 0} (f : X → Y) (xs ys : List X) → map f (xs ++ ys) ≡ map f xs ++ map f ys
map-append f [] ys = refl
map-append f (x ∷ xs) ys = ap (λ l. f x ∷ l) (map-append f xs ys)

pub map_more : {X Y : Type 0} (f : X → Y) (xs : List X) (k : ℕ) (d : X) → k < length xs → map f (take (k + 1) xs) ≡ map f (take k xs) ++ f (get_or xs k d) ∷ []
map_more f xs k d l = ap (map f) (take_more xs k d l) ∙ map-append f (take k xs) (get_or xs k d ∷ [])
