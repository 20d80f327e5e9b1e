-- The lines of a new theorem, piece by piece.
use Rattle.std.proofs.Common.{◌≡◌, ℕ, List, [], ◌∷◌, ◌++◌, sym, ap, ◌∙◌, append_assoc, append-nil, codes, map, flat_map}
use Rattle.std.proofs.lemmas.Grind.{flat_map-append}
use Rattle.std.proofs.lemmas.List.Folds.{flat_map-map}
use Rattle.mm_model.specs.Names.{Name}
use Rattle.sheet_text.specs.Layout.{ended, spaced}
use Rattle.install_model.specs.declared.install.NewTheorem.{NewTheorem}
use Rattle.install_model.specs.Installed.{pair_line, hyp_line, theorem_line, block}

-- tokens, each behind a space
abbrev pub behind : List Name → List ℕ
behind tokens = flat_map (λ t. 32 ∷ t) tokens

-- tokens parted by spaces are the first, and the others behind a space
pub spaced_is : (x : Name) (xs : List Name) → spaced (x ∷ xs) ≡ x ++ behind xs
spaced_is x [] = sym (append-nil x)
spaced_is x (y ∷ ys) = ap (λ t. x ++ (32 ∷ t)) (spaced_is y ys)

pub pair_is : (p : Name × Name) → ended (pair_line p) ≡ codes "$d " ++ p.0 ++ codes " " ++ p.1 ++ 32 ∷ 36 ∷ 46 ∷ 10 ∷ []
pair_is p = simp append_assoc

pub hyp_is : (h : Name × List Name) → ended (hyp_line h) ≡ h.0 ++ codes " $e" ++ behind h.1 ++ 32 ∷ 36 ∷ 46 ∷ 10 ∷ []
hyp_is h =
    ap ended (spaced_is h.0 (codes "$e" ∷ h.1 ++ codes "$." ∷ []) ∙ ap (λ t. h.0 ++ (32 ∷ 36 ∷ 101 ∷ t)) (flat_map-append (λ t. 32 ∷ t) h.1 (codes "$." ∷ [])))
    ∙ simp append_assoc

pub theorem_is : (t : NewTheorem) → ended (theorem_line t) ≡ t.name ++ codes " $p" ++ behind t.formula ++ codes " $= " ++ t.proof ++ 32 ∷ 36 ∷ 46 ∷ 10 ∷ []
theorem_is t =
    ap ended (spaced_is t.name (codes "$p" ∷ t.formula ++ codes "$=" ∷ t.proof ∷ codes "$." ∷ [])
    ∙ ap (λ s. t.name ++ (32 ∷ 36 ∷ 112 ∷ s)) (flat_map-append (λ t. 32 ∷ t) t.formula (codes "$=" ∷ t.proof ∷ codes "$." ∷ [])))
    ∙ simp append_assoc

pub block_is : (t : NewTheorem)
    → block t
    ≡ 10 ∷ 36 ∷ 123 ∷ 10 ∷ flat_map (λ p. ended (pair_line p)) t.pairs ++ flat_map (λ h. ended (hyp_line h)) t.hyps ++ ended (theorem_line t) ++ 36 ∷ 125 ∷ 10 ∷ []
block_is t =
    ap (λ s. 10 ∷ s)
    (flat_map-append ended ((codes "${" ∷ map pair_line t.pairs) ++ map hyp_line t.hyps) (theorem_line t ∷ codes "$}" ∷ [])
    ∙ ap (λ s. s ++ flat_map ended (theorem_line t ∷ codes "$}" ∷ [])) (flat_map-append ended (codes "${" ∷ map pair_line t.pairs) (map hyp_line t.hyps)
    ∙ ap (λ s. (36 ∷ 123 ∷ 10 ∷ s) ++ flat_map ended (map hyp_line t.hyps)) (flat_map-map ended pair_line t.pairs)
    ∙ ap (λ s. (36 ∷ 123 ∷ 10 ∷ flat_map (λ p. ended (pair_line p)) t.pairs) ++ s) (flat_map-map ended hyp_line t.hyps)))
    ∙ sym
    (append_assoc (10 ∷ 36 ∷ 123 ∷ 10 ∷ flat_map (λ p. ended (pair_line p)) t.pairs ++ flat_map (λ h. ended (hyp_line h)) t.hyps)
    (ended (theorem_line t)) (36 ∷ 125 ∷ 10 ∷ []))
