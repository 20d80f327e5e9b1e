-- Bytes that are taken from the front of what is left.
use Rattle.std.proofs.Common.{◌≡◌, ℕ, ◌+◌, ◌-◌, List, ◌++◌, length, take, drop, sym, ap, subst, ◌∙◌, arith}
use Rattle.std.proofs.Math.Seq.{take-append_seam}
use Rattle.std.proofs.lemmas.List.{take-append-drop, drop-drop}

pub front_taken : (bytes new rest : List ℕ) (place count : ℕ) → new ≡ take count (drop place bytes) → length new ≡ count
    → drop place bytes ≡ take count (new ++ rest) ++ drop (place + count) bytes
front_taken bytes new rest place count is long =
    let front : take count (new ++ rest) ≡ new = subst (λ n. take n (new ++ rest) ≡ new) long (take-append_seam new rest) in
    sym (ap (λ xs. xs ++ drop (place + count) bytes) (front ∙ is) ∙ ap (λ xs. take count (drop place bytes) ++ xs) (sym (drop-drop count place bytes)) ∙ take-append-drop count (drop place bytes))
