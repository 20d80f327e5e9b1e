-- Texts that grow piece by piece.
use Rattle.std.proofs.Common.{◌≡◌, ℕ, List, [], ◌∷◌, ◌++◌, Result, Ok, Err, OnOk, refl, sym, ◌∙◌, ap, append_assoc, IfOk}
use Rattle.std.proofs.lemmas.List.{append-nil}

module _ {E : Type 0} (r : Result (Unit {0}) E) where
  -- the last piece makes the text whole
  pub whole_by : (now was old piece whole : List ℕ) → OnOk r (now ≡ was ++ piece) → was ++ piece ≡ old ++ whole → OnOk r (now ≡ old ++ whole)
  whole_by now was old piece whole h e = by_result r h
    where
      by_result : (s : Result (Unit {0}) E) → OnOk s (now ≡ was ++ piece) → OnOk s (now ≡ old ++ whole)
      by_result (Ok u) h = h ∙ e
      by_result (Err x) h = tt

  pub two : (old t1 t2 a b : List ℕ) → t1 ≡ old ++ a → OnOk r (t2 ≡ t1 ++ b) → OnOk r (t2 ≡ old ++ (a ++ b))
  two old t1 t2 a b e h = whole_by t2 t1 old b (a ++ b) h (ap (λ (t : List ℕ). t ++ b) e ∙ append_assoc old a b)

  pub three : (old t1 t2 t3 a b c : List ℕ) → t1 ≡ old ++ a → t2 ≡ t1 ++ b → OnOk r (t3 ≡ t2 ++ c) → OnOk r (t3 ≡ old ++ (a ++ (b ++ c)))
  three old t1 t2 t3 a b c e f h = whole_by t3 t2 old c (a ++ (b ++ c)) h (ap (λ (t : List ℕ). t ++ c) (f ∙ ap (λ (t : List ℕ). t ++ b) e) ∙ append_assoc (old ++ a) b c ∙ append_assoc old a (b ++ c))

  pub four : (old t1 t2 t3 t4 a b c d : List ℕ) → t1 ≡ old ++ a → t2 ≡ t1 ++ b → t3 ≡ t2 ++ c → OnOk r (t4 ≡ t3 ++ d) → OnOk r (t4 ≡ old ++ (a ++ (b ++ (c ++ d))))
  four old t1 t2 t3 t4 a b c d e f g h =
      whole_by t4 t3 old d (a ++ (b ++ (c ++ d))) h
      (ap (λ (t : List ℕ). t ++ d) (g ∙ ap (λ (t : List ℕ). t ++ c) (f ∙ ap (λ (t : List ℕ). t ++ b) e))
      ∙ append_assoc ((old ++ a) ++ b) c d ∙ append_assoc (old ++ a) b (c ++ d) ∙ append_assoc old a (b ++ (c ++ d)))

  -- the same by what the pieces make
  pub make : (now old piece whole : List ℕ) → OnOk r (now ≡ old ++ piece) → piece ≡ whole → OnOk r (now ≡ old ++ whole)
  make now old piece whole h e = whole_by now old old piece whole h (ap (λ (p : List ℕ). old ++ p) e)
