-- Lists of which each element has a fact, and tests.
use Rattle.std.proofs.Common.{◌≡◌, ℕ, zero, suc, ◌<◌, ◌==◌, Bool, true, false, not, List, [], ◌∷◌, ◌++◌, length, get_or, take, refl, sym, ap, ◌∙◌, arith}
use Rattle.std.proofs.lemmas.Bool.Decides.{nat_tests}
use Rattle.std.specs.List.{AllByRecursion}
use Rattle.mm_base.specs.declared.symbols.Sym.{Sym}
use Rattle.mm_base.specs.declared.symbols.Label.{Label}
use Rattle.mm_base.specs.declared.symbols.Typecode.{Typecode}
use Rattle.mm_model.specs.Chains.{same_code}

pub same_number : (n m : ℕ) → (n == m) ≡ true → n ≡ m
same_number n m e = grind (arith, nat_tests, e)

pub self_number : (n : ℕ) → (n == n) ≡ true
self_number n = grind (arith, nat_tests)

pub numbers_differ : (n m : ℕ) → (n == m) ≡ false → n ≡ m → ⊥
numbers_differ n m e is = let f : true ≡ false = sym (self_number n) ∙ ap (λ k. n == k) is ∙ e in cc

sym_of : ℕ → Sym
sym_of n = record { 0 = n }

pub same_sym : (s r : Sym) → (s.0 == r.0) ≡ true → s ≡ r
unfolding sym_of
same_sym s r e = ap sym_of (same_number s.0 r.0 e)

pub symbols_differ : (s r : Sym) → (s.0 == r.0) ≡ false → s ≡ r → ⊥
symbols_differ s r e is = let e2 : true ≡ false = sym (self_number s.0) ∙ ap (λ (x : Sym). s.0 == x.0) is ∙ e in cc

label_of : ℕ → Label
label_of n = record { 0 = n }

pub same_label : (l k : Label) → (l.0 == k.0) ≡ true → l ≡ k
unfolding label_of
same_label l k e = ap label_of (same_number l.0 k.0 e)

code_with : ℕ → Typecode
code_with n = record { 0 = record { 0 = n } }

pub codes_same : (c d : Typecode) → same_code c d ≡ true → c ≡ d
unfolding code_with
codes_same c d e = ap code_with (same_number c.0.0 d.0.0 e)

pub labels_differ : (l k : Label) → true ≡ not (l.0 == k.0) → l ≡ k → ⊥
labels_differ l k e is = by (l.0 == k.0) e (sym (ap (λ (x : Label). l.0 == x.0) is) ∙ refl)
  where
    by : (b : Bool) → true ≡ not b → b ≡ (l.0 == l.0) → ⊥
    by true e f = cc
    by false e f = let g : false ≡ true = f ∙ self_number l.0 in cc

pub labels_part : (l k : Label) → (l.0 == k.0) ≡ false → l ≡ k → ⊥
labels_part l k e is = let f : true ≡ false = sym (self_number l.0) ∙ ap (λ (x : Label). l.0 == x.0) is ∙ e in cc

pub codes_differ : (c d : Typecode) → true ≡ not (same_code c d) → c ≡ d → ⊥
codes_differ c d e is = by (same_code c d) e (sym (ap (λ (x : Typecode). same_code c x) is) ∙ refl)
  where
    by : (b : Bool) → true ≡ not b → b ≡ same_code c c → ⊥
    by true e f = cc
    by false e f = let g : false ≡ true = f ∙ self_number c.0.0 in cc

module _ {X : Type 0} where
  pub all_append : (P : X → Type 0) (xs : List X) (y : X) → AllByRecursion P xs → P y → AllByRecursion P (xs ++ y ∷ [])
  all_append P [] y h p = (p, tt)
  all_append P (x ∷ xs) y h p = (h.0, all_append P xs y h.1 p)

  pub all_front : (P : X → Type 0) (xs ys : List X) → AllByRecursion P (xs ++ ys) → AllByRecursion P xs
  all_front P [] ys h = tt
  all_front P (x ∷ xs) ys h = (h.0, all_front P xs ys h.1)

  pub all_last : (P : X → Type 0) (xs : List X) (y : X) → AllByRecursion P (xs ++ y ∷ []) → P y
  all_last P [] y h = h.0
  all_last P (x ∷ xs) y h = all_last P xs y h.1

  pub all_weaker : (P Q : X → Type 0) → ((x : X) → P x → Q x) → (xs : List X) → AllByRecursion P xs → AllByRecursion Q xs
  all_weaker P Q f [] h = tt
  all_weaker P Q f (x ∷ xs) h = (f x h.0, all_weaker P Q f xs h.1)

  pub all_at : (P : X → Type 0) (xs : List X) (i : ℕ) (d : X) → AllByRecursion P xs → i < length xs → P (get_or xs i d)
  all_at P [] i d h l = absurd (omega arith)
  all_at P (x ∷ xs) zero d h l = h.0
  all_at P (x ∷ xs) (suc i) d h l = all_at P xs i d h.1 (omega arith)

  pub front_again : (xs ys : List X) → take (length xs) (xs ++ ys) ≡ xs
  front_again [] ys = refl
  front_again (x ∷ xs) ys = ap (λ zs. x ∷ zs) (front_again xs ys)

pub from_not : (b : Bool) → false ≡ not b → true ≡ b
from_not true e = refl
from_not false e = absurd (cc)

pub all_both : {X : Type 0} (P Q R : X → Type 0) → ((x : X) → P x → Q x → R x) → (xs : List X) → AllByRecursion P xs → AllByRecursion Q xs → AllByRecursion R xs
all_both P Q R f [] h k = tt
all_both P Q R f (x ∷ xs) h k = (f x h.0 k.0, all_both P Q R f xs h.1 k.1)
