-- Counts that stand still at a greatest number.
use Rattle.std.proofs.Common.{◌≡◌, ℕ, ◌+◌, ◌<◌, List, [], ◌∷◌, ◌++◌, refl, ap, sym, ◌∙◌, length, take, get_or, length-append, arith, map, Option, zero-add}
use Rattle.std.specs.Prelude.{flat_map}
use Rattle.std.proofs.lemmas.Grind.{flat_map-append}
use Rattle.std.proofs.lemmas.List.{take_more}
use Rattle.std.specs.List.{join_with_byte}
use Rattle.sheet_text.specs.declared.sheet.Sheet.{Sheet}
use Rattle.sheet_text.specs.Layout.{ended, spaced, header_line, proof_lines, step_names, layout}
use Rattle.sheet_print.specs.Pieces.{counted, behind_spaces, behind_commas, names_of, item_text, pair_text}
use Rattle.sheet_print.proofs.Pieces.{joined, layout_parts}

-- two counts, one after the other
pub both : (o a b t u : ℕ) → t ≡ counted (o + a) → u ≡ counted (t + b) → u ≡ counted (o + (a + b))
both o a b t u e f = omega arith

-- the count of one item more
pub more : {X : Type 0} (f : X → List ℕ) (xs : List X) (i : ℕ) (x : X) (o t m : ℕ) → i < length xs → x ≡ get_or xs i x
    → t ≡ counted (o + length (flat_map f (take i xs))) → m ≡ counted (t + length (f x)) → m ≡ counted (o + length (flat_map f (take (i + 1) xs)))
more f xs i x o t m h e g k =
    both o (length (flat_map f (take i xs))) (length (f x)) t m g k
    ∙ ap (λ n. counted (o + n)) (sym (ap (λ y. length (flat_map f y)) (take_more xs i x h) ∙ ap length (flat_map-append f (take i xs) (get_or xs i x ∷ []))
    ∙ length-append (flat_map f (take i xs)) (f (get_or xs i x) ++ [])
    ∙ ap (λ n. length (flat_map f (take i xs)) + n) (length-append (f (get_or xs i x)) [] ∙ omega (arith, ap (λ y. length (f y)) e))))

pub three_counts : (o a b d n t u v : ℕ) → t ≡ counted (o + a) → u ≡ counted (t + b) → v ≡ counted (u + d) → n ≡ a + b + d → v ≡ counted (o + n)
three_counts o a b d n t u v e f g h = both o (a + b) d u v (both o a b t u e f) g ∙ ap (λ k. counted (o + k)) (sym h)

pub five_counts : (o a b d e f n t u v w x : ℕ) → t ≡ counted (o + a) → u ≡ counted (t + b) → v ≡ counted (u + d) → w ≡ counted (v + e) → x ≡ counted (w + f)
    → n ≡ a + b + d + e + f → x ≡ counted (o + n)
five_counts o a b d e f n t u v w x g h i j k l = both o (a + b + d + e) f w x (both o (a + b + d) e v w (three_counts o a b d (a + b + d) t u v g h i refl) j) k ∙ ap (λ m. counted (o + m)) (sym l)

-- the parts of a line
pub line_len : (token : List ℕ) (tokens : List (List ℕ)) → length (ended (spaced (token ∷ tokens))) ≡ length token + length (behind_spaces tokens) + 1
line_len token tokens = length-append (spaced (token ∷ tokens)) (10 ∷ []) ∙ ap (λ n. n + 1) (ap length (joined 32 token tokens) ∙ length-append token (behind_spaces tokens))

-- the parts of a step's first token
pub token_len : (mark name places reference : List ℕ) → length (((mark ++ name) ++ 58 ∷ places) ++ 58 ∷ reference) ≡ length mark + (length name + 1) + length places + 1 + length reference
token_len mark name places reference = simp length-append (omega arith)

-- the places, where there is a first
pub places_len : {X : Type 0} (f : X → List ℕ) (first : X) (more_places places : List X) → places ≡ first ∷ more_places
    → length (join_with_byte 44 (map f places)) ≡ length (f first) + length (behind_commas (map f more_places))
places_len f first more_places places e =
    ap (λ t. length (join_with_byte 44 (map f t))) e ∙ ap length (joined 44 (f first) (map f more_places))
    ∙ length-append (f first) (behind_commas (map f more_places))

-- the parts of a layout
pub layout_count : (s : Sheet) (proof : Option (List ℕ)) (t u v w x : ℕ) → t ≡ counted (length (ended (header_line s))) → u ≡ counted (t + length (flat_map (item_text (names_of s.items)) s.items))
    → v ≡ counted (u + length (flat_map ended (proof_lines proof))) → w ≡ counted (v + length (flat_map pair_text s.pairs)) → x ≡ counted (w + 3) → x ≡ counted (length (layout s proof))
layout_count s proof t u v w x g h i j k =
    five_counts 0 (length (ended (header_line s))) (length (flat_map (item_text (names_of s.items)) s.items)) (length (flat_map ended (proof_lines proof))) (length (flat_map pair_text s.pairs)) 3
    (length (layout s proof)) t u v w x (g ∙ ap counted (sym (zero-add _))) h i j k
    (ap length (layout_parts s proof)
    ∙ length-append (((ended (header_line s) ++ flat_map (item_text (step_names s)) s.items) ++ flat_map ended (proof_lines proof)) ++ flat_map pair_text s.pairs) (36 ∷ 41 ∷ 10 ∷ [])
    ∙ ap (λ n. n + 3) (length-append ((ended (header_line s) ++ flat_map (item_text (step_names s)) s.items) ++ flat_map ended (proof_lines proof)) (flat_map pair_text s.pairs)
    ∙ ap (λ n. n + length (flat_map pair_text s.pairs)) (length-append (ended (header_line s) ++ flat_map (item_text (step_names s)) s.items) (flat_map ended (proof_lines proof))
    ∙ ap (λ n. n + length (flat_map ended (proof_lines proof))) (length-append (ended (header_line s)) (flat_map (item_text (step_names s)) s.items)))))
    ∙ ap counted (zero-add _)
