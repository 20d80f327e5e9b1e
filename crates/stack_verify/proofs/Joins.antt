-- Words joined by spaces, one after the other.
use Rattle.std.proofs.Common.{◌≡◌, ◌<◌, ℕ, suc, ◌+◌, List, [], ◌∷◌, ◌++◌, length, take, get_or, refl, sym, ap, ◌∙◌, arith, append_assoc}
use Rattle.std.specs.List.{join_with_byte}
use Rattle.std.proofs.lemmas.List.{map-append}
use Rattle.std.proofs.Math.Seq.{take-suc}
use Rattle.stack_verify.specs.declared.formula.Span.{Span}
use Rattle.stack_verify.specs.Proofs.{name_in, names_in}

join_more : (t : List ℕ) (ts : List (List ℕ)) (u : List ℕ) → join_with_byte 32 (t ∷ (ts ++ u ∷ [])) ≡ join_with_byte 32 (t ∷ ts) ++ 32 ∷ u
join_more t [] u = refl
join_more t (v ∷ ts) u = ap (λ (r : List ℕ). t ++ 32 ∷ r) (join_more v ts u) ∙ sym (append_assoc t (32 ∷ join_with_byte 32 (v ∷ ts)) (32 ∷ u))

pub word_joined : (text t old mid new : List ℕ) (spans : List Span) (i : ℕ) (d : Span) → i < length spans
    → old ≡ join_with_byte 32 (t ∷ names_in text (take i spans)) → mid ≡ old ++ 32 ∷ [] → new ≡ mid ++ name_in text (get_or spans i d)
    → new ≡ join_with_byte 32 (t ∷ names_in text (take (i + 1) spans))
word_joined text t old mid new spans i d low eo em en =
    let u = name_in text (get_or spans i d) in
    let one : suc i ≡ i + 1 = omega arith in
    en ∙ ap (λ (x : List ℕ). x ++ u) em ∙ append_assoc old (32 ∷ []) u ∙ ap (λ (x : List ℕ). x ++ 32 ∷ u) eo ∙ sym (join_more t (names_in text (take i spans)) u)
    ∙ ap (λ (l : List (List ℕ)). join_with_byte 32 (t ∷ l))
    (sym (map-append (name_in text) (take i spans) (get_or spans i d ∷ []))
    ∙ ap (names_in text) (sym (take-suc spans i d low) ∙ ap (λ (j : ℕ). take j spans) one))
