-- Tests and what they say.
use Rattle.std.proofs.Common.{◌≡◌, ℕ, Bool, true, false, cond, not, ◌&&◌, ◌||◌, eqb, List, [], ◌∷◌, ◌++◌, length, refl, ap, arith, inl, inr}
use Rattle.std.proofs.lemmas.Bool.{cases_Bool}
use Rattle.std.proofs.lemmas.Bool.Decides.{nat_tests}
use Rattle.std.specs.List.{list_all, list_any}
use Rattle.std.specs.Str.{bytes_eq}
use Rattle.mm_model.specs.Words.{is_white}
use Rattle.mm_model.specs.Labels.{is_label_byte}

pub and_left : (a b : Bool) → (a && b) ≡ true → a ≡ true
and_left true b e = refl
and_left false b e = absurd (cc)

pub and_right : (a b : Bool) → (a && b) ≡ true → b ≡ true
and_right true b e = e
and_right false b e = absurd (cc)

pub both_true : (a b : Bool) → a ≡ true → b ≡ true → (a && b) ≡ true
both_true true b e f = f
both_true false b e f = absurd (cc)

pub or_left : (a b : Bool) → (a || b) ≡ false → a ≡ false
or_left true b e = absurd (cc)
or_left false b e = refl

pub or_right : (a b : Bool) → (a || b) ≡ false → b ≡ false
or_right true b e = absurd (cc)
or_right false b e = e

pub both_false : (a b : Bool) → a ≡ false → b ≡ false → (a || b) ≡ false
both_false true b e f = absurd (cc)
both_false false b e f = f

pub true_not : (b : Bool) → not b ≡ true → b ≡ false
true_not true e = absurd (cc)
true_not false e = refl

pub false_not : (b : Bool) → not b ≡ false → b ≡ true
false_not true e = refl
false_not false e = absurd (cc)

pub not_true : (b : Bool) → b ≡ false → not b ≡ true
not_true true e = absurd (cc)
not_true false e = refl

pub cond_then : {A : Type 0} (b : Bool) (x y : A) → b ≡ true → cond b x y ≡ x
cond_then true x y e = refl
cond_then false x y e = absurd (cc)

pub cond_else : {A : Type 0} (b : Bool) (x y : A) → b ≡ false → cond b x y ≡ y
cond_else true x y e = absurd (cc)
cond_else false x y e = refl

pub same_number : (a b : ℕ) → eqb a b ≡ true → a ≡ b
same_number a b e = grind (arith, nat_tests, e)

-- one passes the test and the other does not
pub differs : (p : ℕ → Bool) (b c : ℕ) → p b ≡ true → p c ≡ false → eqb b c ≡ false
differs p b c h k =
    elim (cases_Bool (eqb b c)) [
      | inl e ↦ let f : p b ≡ p c = ap p (same_number b c e) in absurd (cc)
      | inr e ↦ e
    ]

-- a byte that passes a test which white space does not is no white space
pub no_white : (p : ℕ → Bool) (b : ℕ) → p b ≡ true → p 32 ≡ false → p 9 ≡ false → p 13 ≡ false → p 10 ≡ false → p 12 ≡ false → is_white b ≡ false
no_white p b h s t r n f = both_false _ _ (both_false _ _ (both_false _ _ (both_false _ _ (differs p b 32 h s) (differs p b 9 h t)) (differs p b 13 h r)) (differs p b 10 h n)) (differs p b 12 h f)

pub label_byte_no_white : (b : ℕ) → is_label_byte b ≡ true → is_white b ≡ false
label_byte_no_white b h = no_white is_label_byte b h refl refl refl refl refl

-- ---- tests of all elements

pub all_more : {A : Type 0} (p q : A → Bool) → ((x : A) → p x ≡ true → q x ≡ true) → (xs : List A) → list_all p xs ≡ true → list_all q xs ≡ true
all_more p q f [] e = refl
all_more p q f (x ∷ xs) e = both_true _ _ (f x (and_left _ _ e)) (all_more p q f xs (and_right _ _ e))

pub all_append : {A : Type 0} (p : A → Bool) (xs ys : List A) → list_all p xs ≡ true → list_all p ys ≡ true → list_all p (xs ++ ys) ≡ true
all_append p [] ys e f = f
all_append p (x ∷ xs) ys e f = both_true _ _ (and_left _ _ e) (all_append p xs ys (and_right _ _ e) f)

pub all_none : {A : Type 0} (p : A → Bool) (xs : List A) → list_all (λ x. not (p x)) xs ≡ true → list_any p xs ≡ false
all_none p [] e = refl
all_none p (x ∷ xs) e = both_false _ _ (true_not _ (and_left _ _ e)) (all_none p xs (and_right _ _ e))

pub none_all : {A : Type 0} (p : A → Bool) (xs : List A) → list_any p xs ≡ false → list_all (λ x. not (p x)) xs ≡ true
none_all p [] e = refl
none_all p (x ∷ xs) e = both_true _ _ (not_true _ (or_left _ _ e)) (none_all p xs (or_right _ _ e))

-- ---- texts

pub not_empty : (b : ℕ) (bs : List ℕ) → eqb (length (b ∷ bs)) 0 ≡ false
not_empty b bs = grind (arith, nat_tests)

pub bytes_eq_same : (xs : List ℕ) → bytes_eq xs xs ≡ true
bytes_eq_same [] = refl
bytes_eq_same (x ∷ xs) = both_true _ _ (grind (arith, nat_tests)) (bytes_eq_same xs)

pub same_bytes : (xs ys : List ℕ) → bytes_eq xs ys ≡ true → xs ≡ ys
same_bytes [] [] e = refl
same_bytes [] (y ∷ ys) e = absurd (cc)
same_bytes (x ∷ xs) [] e = absurd (cc)
same_bytes (x ∷ xs) (y ∷ ys) e = let f = same_number x y (and_left _ _ e) in let g = same_bytes xs ys (and_right _ _ e) in cc
