-- Tests and lists.
use Rattle.std.specs.Prelude.{◌≡◌, ◌<◌, ◌&&◌, ◌==◌, ℕ, zero, suc, ◌+◌, Bool, true, false, List, [], ◌∷◌, ◌++◌, length, filter_map, slice_get, take, get_or, Contains, Some, refl}
use Rattle.std.specs.Option.{option_to_list}
use Rattle.std.proofs.Common.{sym, ap, ◌∙◌, arith}
use Rattle.std.proofs.lemmas.List.Elements.{filter_map-append}
use Rattle.std.proofs.lemmas.Bool.Decides.{nat_tests}
use Rattle.proof_tree.proofs.GraphLaws.{take_more}
use Rattle.sheet_text.specs.declared.sheet.Given.{Given}
use Rattle.sheet_text.specs.declared.sheet.Given.TheVariants as place
use Rattle.sheet_proof.specs.Steps.{number_of, step_numbers}

pub both : (a b : Bool) → (a && b) ≡ true → (a ≡ true) × (b ≡ true)
both true b h = (refl, h)
both false b h = absurd (cc)

pub both_true : (a b : Bool) → a ≡ true → b ≡ true → (a && b) ≡ true
both_true a b e h = ap (λ x. x && b) e ∙ h

pub eq_of : (a b : ℕ) → (a == b) ≡ true → a ≡ b
eq_of a b h = grind (arith, nat_tests, h)

pub true_or_false : (b : Bool) → b ≡ true → b ≡ false → ⊥
true_or_false b e h = let impossible : true ≡ false = sym e ∙ h in cc

one_more : (g : Given) → filter_map number_of (g ∷ []) ≡ option_to_list (number_of g)
one_more place.Gap = refl
one_more (place.Step k) = refl

-- the number of one more place
pub numbers_more : (ks : List Given) (i : ℕ) (d : Given) (ns now : List ℕ) → i < length ks → ns ≡ step_numbers (take i ks)
    → now ≡ ns ++ option_to_list (number_of (get_or ks i d)) → now ≡ step_numbers (take (i + 1) ks)
numbers_more ks i d ns now inside e is =
    is ∙ ap (λ l. l ++ option_to_list (number_of (get_or ks i d))) e ∙ ap (λ l. step_numbers (take i ks) ++ l) (sym (one_more (get_or ks i d)))
    ∙ sym (filter_map-append number_of (take i ks) (get_or ks i d ∷ [])) ∙ ap step_numbers (sym (take_more ks i d inside))

-- ---- items by number

pub get_left : {X : Type 0} (xs ys : List X) (k : ℕ) → k < length xs → slice_get (xs ++ ys) k ≡ slice_get xs k
get_left [] ys k h = absurd (omega (arith, h))
get_left (x ∷ xs) ys zero h = refl
get_left (x ∷ xs) ys (suc k) h = get_left xs ys k (omega (arith, h))

pub get_mid : {X : Type 0} (xs : List X) (y : X) (ys : List X) → slice_get (xs ++ y ∷ ys) (length xs) ≡ Some y
get_mid [] y ys = refl
get_mid (x ∷ xs) y ys = get_mid xs y ys

pub first : {X : Type 0} (x : X) (ys : List X) → Contains (x ∷ ys) x
first x ys = (0, omega arith, refl)

pub later : {X : Type 0} (x y : X) (ys : List X) → Contains ys x → Contains (y ∷ ys) x
later x y ys (k, l, e) = (suc k, omega (arith, l), e)
