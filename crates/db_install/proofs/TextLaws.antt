-- Texts that are put together piece by piece.
use Rattle.std.proofs.Common.{◌≡◌, ℕ, List, ◌++◌, Result, Ok, Err, OnOk, ap, ◌∙◌, append_assoc}

module _ {E : Type 0} (r : Result (Unit {0}) E) where
  whole_by : (now was old piece whole : List ℕ) → OnOk r (now ≡ was ++ piece) → was ++ piece ≡ old ++ whole → OnOk r (now ≡ old ++ whole)
  whole_by now was old piece whole h e = by r h
    where
      by : (s : Result (Unit {0}) E) → OnOk s (now ≡ was ++ piece) → OnOk s (now ≡ old ++ whole)
      by (Ok u) h = h ∙ e
      by (Err x) h = tt

  -- the last of four pieces makes a text whole
  pub four : (old a b c d t u v x whole : List ℕ) → t ≡ old ++ a → u ≡ t ++ b → v ≡ u ++ c → OnOk r (x ≡ v ++ d) → a ++ b ++ c ++ d ≡ whole → OnOk r (x ≡ old ++ whole)
  four old a b c d t u v x whole e f g h is =
      whole_by x v old d whole h
      (ap (λ y. y ++ d) (g ∙ ap (λ y. y ++ c) (f ∙ ap (λ y. y ++ b) e)) ∙ (simp append_assoc) ∙ ap (λ y. old ++ y) is)

  -- the last of six
  pub six : (old a b c d e z t u v w y x whole : List ℕ) → t ≡ old ++ a → u ≡ t ++ b → v ≡ u ++ c → w ≡ v ++ d → y ≡ w ++ e
      → OnOk r (x ≡ y ++ z) → a ++ b ++ c ++ d ++ e ++ z ≡ whole
      → OnOk r (x ≡ old ++ whole)
  six old a b c d e z t u v w y x whole f g h i j k is =
      whole_by x y old z whole k
      (ap (λ s. s ++ z) (j ∙ ap (λ s. s ++ e) (i ∙ ap (λ s. s ++ d) (h ∙ ap (λ s. s ++ c) (g ∙ ap (λ s. s ++ b) f)))) ∙ (simp append_assoc) ∙ ap (λ s. old ++ s) is)

-- five pieces from nothing
pub all_five : (a b c d e t u v w x : List ℕ) → t ≡ a → u ≡ t ++ b → v ≡ u ++ c → w ≡ v ++ d → x ≡ w ++ e → x ≡ a ++ b ++ c ++ d ++ e
all_five a b c d e t u v w x f g h i j = j ∙ ap (λ y. y ++ e) (i ∙ ap (λ y. y ++ d) (h ∙ ap (λ y. y ++ c) (g ∙ ap (λ y. y ++ b) f)))
