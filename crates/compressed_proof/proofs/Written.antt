-- The whole text, from its parts.
use Rattle.std.proofs.Common.{◌≡◌, ℕ, List, [], ◌∷◌, ◌++◌, length, sym, ap, ◌∙◌, append_assoc, append-nil}
use Rattle.std.specs.Prelude.{flat_map}
use Rattle.std.specs.List.{join_with_byte}
use Rattle.std.proofs.lemmas.Grind.{flat_map-append}
use Rattle.proof_model.specs.declared.code.Step.{Step}
use Rattle.proof_model.specs.ProofCode.{steps_letters}

abbrev spaced : List (List ℕ) → List ℕ
spaced ls = flat_map (λ l. 32 ∷ l) ls

join_all : (t : List ℕ) (ts : List (List ℕ)) → join_with_byte 32 (t ∷ ts) ≡ t ++ spaced ts
join_all t [] = sym (append-nil t)
join_all t (u ∷ ts) = ap (λ (r : List ℕ). t ++ 32 ∷ r) (join_all u ts)

whole : (labels : List (List ℕ)) (letters : List ℕ) → ((40 ∷ spaced labels) ++ 32 ∷ 41 ∷ 32 ∷ []) ++ letters ≡ join_with_byte 32 ((40 ∷ []) ∷ (labels ++ (41 ∷ []) ∷ letters ∷ []))
whole labels letters =
    append_assoc (40 ∷ spaced labels) (32 ∷ 41 ∷ 32 ∷ []) letters
    ∙ ap (λ (r : List ℕ). (40 ∷ spaced labels) ++ 32 ∷ 41 ∷ 32 ∷ r) (sym (append-nil letters))
    ∙ ap (λ (r : List ℕ). 40 ∷ r) (sym (flat_map-append (λ l. 32 ∷ l) labels ((41 ∷ []) ∷ letters ∷ [])))
    ∙ sym (join_all (40 ∷ []) (labels ++ (41 ∷ []) ∷ letters ∷ []))

-- the parts are put behind one another
pub whole_written : (m : ℕ) (labels ls : List (List ℕ)) (steps ss : List Step) (o a b c d r : List ℕ) → ls ≡ labels → ss ≡ steps → o ≡ [] → a ≡ o ++ 40 ∷ [] → b ≡ a ++ spaced ls
    → c ≡ b ++ 32 ∷ 41 ∷ 32 ∷ [] → d ≡ c ++ steps_letters m (length ls) ss → r ≡ d → r ≡ join_with_byte 32 ((40 ∷ []) ∷ (labels ++ (41 ∷ []) ∷ steps_letters m (length labels) steps ∷ []))
whole_written m labels ls steps ss o a b c d r el es eo ea eb ec ed er =
    er ∙ ed
    ∙ ap (λ (x : List ℕ). x ++ steps_letters m (length ls) ss)
    (ec ∙ ap (λ (x : List ℕ). x ++ 32 ∷ 41 ∷ 32 ∷ []) (eb ∙ ap (λ (x : List ℕ). x ++ spaced ls) (ea ∙ ap (λ (x : List ℕ). x ++ 40 ∷ []) eo)))
    ∙ ap (λ (x : List (List ℕ)). ((40 ∷ spaced x) ++ 32 ∷ 41 ∷ 32 ∷ []) ++ steps_letters m (length x) ss) el
    ∙ ap (λ (x : List Step). ((40 ∷ spaced labels) ++ 32 ∷ 41 ∷ 32 ∷ []) ++ steps_letters m (length labels) x) es
    ∙ whole labels (steps_letters m (length labels) steps)
