-- Lists that are made element by element.
use Rattle.std.specs.Prelude.{◌≡◌, ◌<◌, ◌+◌, ℕ, Bool, true, false, List, [], ◌∷◌, ◌++◌, not, length, take, fold, filter, Option, Some, None, refl}
use Rattle.std.specs.List.{filter_map, cons_option}
use Rattle.std.proofs.Common.{sym, ap, ◌∙◌, append-nil, get_or, cond}
use Rattle.std.proofs.lemmas.List.{take_more}
use Rattle.std.proofs.lemmas.List.Elements.{filter_map-append}
use Rattle.sheet_bind.specs.Lists.{put_some}

put_consed : {Y : Type 0} (ys : List Y) (o : Option Y) → ys ++ cons_option o [] ≡ put_some ys o
put_consed ys None = append-nil ys
put_consed ys (Some y) = refl

pub filter_map_more : {X Y : Type 0} (h : X → Option Y) (xs : List X) (i : ℕ) (d : X) → i < length xs → filter_map h (take (i + 1) xs) ≡ put_some (filter_map h (take i xs)) (h (get_or xs i d))
filter_map_more h xs i d l =
    ap (filter_map h) (take_more xs i d l) ∙ filter_map-append h (take i xs) (get_or xs i d ∷ []) ∙ put_consed (filter_map h (take i xs)) (h (get_or xs i d))

joined : {X : Type 0} (acc : List X) (x : X) (rest : List X) → (acc ++ x ∷ []) ++ rest ≡ acc ++ x ∷ rest
joined [] x rest = refl
joined (y ∷ ys) x rest = ap (λ l. y ∷ l) (joined ys x rest)

left_or : {X : Type 0} (acc : List X) (x : X) (b : Bool) (rest : List X) → cond b acc (acc ++ x ∷ []) ++ rest ≡ acc ++ cond (not b) (x ∷ rest) rest
left_or acc x true rest = refl
left_or acc x false rest = joined acc x rest

left_from : {X : Type 0} (p : X → Bool) (acc xs : List X) → fold (λ a x. cond (p x) a (a ++ x ∷ [])) acc xs ≡ acc ++ filter (λ x. not (p x)) xs
left_from p acc [] = sym (append-nil acc)
left_from p acc (x ∷ xs) = left_from p (cond (p x) acc (acc ++ x ∷ [])) xs ∙ left_or acc x (p x) (filter (λ x. not (p x)) xs)

-- a fold that leaves out what passes
pub fold_left_out : {X : Type 0} (p : X → Bool) (xs : List X) → fold (λ a x. cond (p x) a (a ++ x ∷ [])) [] xs ≡ filter (λ x. not (p x)) xs
fold_left_out p xs = left_from p [] xs
