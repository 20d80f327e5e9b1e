-- A list that is kept the nearest first.
use Rattle.std.proofs.Common.{◌≡◌, ℕ, ◌<◌, suc, Bool, true, false, ◌||◌, List, [], ◌∷◌, ◌++◌, length, take, get_or, refl, sym, ap, ◌∙◌, append_assoc}
use mathlib.Core.List.{reverse_aux}
use Rattle.std.specs.Prelude.{reverse}
use Rattle.std.specs.List.{list_any}
use Rattle.std.proofs.lemmas.List.{length-reverse, reverse-append}
use Rattle.std.proofs.Math.Seq.{take-append_seam, get_or-append_seam, take-suc}

onto : {A : Type 0} (xs acc : List A) → reverse_aux xs acc ≡ reverse xs ++ acc
onto [] acc = refl
onto {A} (x ∷ xs) acc = onto xs (x ∷ acc) ∙ sym (append_assoc (reverse xs) (x ∷ []) acc) ∙ ap (λ (l : List A). l ++ acc) (sym (onto xs (x ∷ [])))

twice : {A : Type 0} (xs acc : List A) → reverse_aux (reverse_aux xs acc) [] ≡ reverse_aux acc xs
twice [] acc = refl
twice (x ∷ xs) acc = twice xs (x ∷ acc)

-- of a list, the items before and the items from one on
pub item_there : (before : List ℕ) (b : ℕ) (bs : List ℕ) → get_or (reverse_aux before (b ∷ bs)) (length before) 0 ≡ b
item_there before b bs =
    ap (λ (l : List ℕ). get_or l (length before) 0) (onto before (b ∷ bs))
    ∙ ap (λ (n : ℕ). get_or (reverse before ++ b ∷ bs) n 0) (sym (length-reverse before)) ∙ get_or-append_seam (reverse before) b bs 0

pub items_before : (before rest : List ℕ) → reverse (take (length before) (reverse_aux before rest)) ≡ before
items_before before rest =
    ap (λ (l : List ℕ). reverse (take (length before) l)) (onto before rest) ∙ ap (λ (n : ℕ). reverse (take n (reverse before ++ rest))) (sym (length-reverse before))
    ∙ ap (λ (l : List ℕ). reverse l) (take-append_seam (reverse before) rest) ∙ twice before []

-- one more item behind those before
pub reverse_more : {A : Type 0} (xs : List A) (i : ℕ) (d : A) → i < length xs → reverse (take (suc i) xs) ≡ get_or xs i d ∷ reverse (take i xs)
reverse_more {A} xs i d h = ap (λ (l : List A). reverse l) (take-suc xs i d h) ∙ reverse-append (take i xs) (get_or xs i d ∷ [])

or_moved : (a b c : Bool) → (a || (b || c)) ≡ ((b || a) || c)
or_moved true true c = refl
or_moved true false c = refl
or_moved false true c = refl
or_moved false false c = refl

any_onto : {A : Type 0} (p : A → Bool) (xs acc : List A) → list_any p (reverse_aux xs acc) ≡ (list_any p xs || list_any p acc)
any_onto p [] acc = refl
any_onto p (x ∷ xs) acc = any_onto p xs (x ∷ acc) ∙ or_moved (list_any p xs) (p x) (list_any p acc)

or_none : (a : Bool) → (a || false) ≡ a
or_none true = refl
or_none false = refl

pub any_reversed : {A : Type 0} (p : A → Bool) (xs : List A) → list_any p (reverse xs) ≡ list_any p xs
any_reversed p xs = any_onto p xs [] ∙ or_none (list_any p xs)
