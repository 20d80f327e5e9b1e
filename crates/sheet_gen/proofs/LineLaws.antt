-- The lines of a block, from their pieces.
use Rattle.std.proofs.Common.{◌≡◌, ◌≢◌, ◌==◌, ◌+◌, ◌-◌, ℕ, zero, suc, List, [], ◌∷◌, ◌++◌, cond, Bool, true, false, refl, sym, ◌∙◌, ap, append_assoc}
use Rattle.std.proofs.Common.{codes, arith, add-one, add-zero}
use Rattle.std.proofs.lemmas.Bool.Decides.{nat_tests}
use Rattle.std.proofs.lemmas.List.{append-nil}
use Rattle.std.specs.List.{flat_map, range_with_len}
use Rattle.mm_model.specs.Names.{Name}
use Rattle.sheet_gen.specs.Pieces.{behind, joined, behind_name, first_lines}
use Rattle.sheet_text.specs.Layout.{ended, spaced}
use Rattle.trial_texts.specs.TrialTexts.{step_line, in_block, implies, provable, identity_lines, joining_lines, block_lines, trial_sheet, trial_formula, end_name}

-- tokens parted by spaces are the first, and each other behind a space
pub spaced_is : (t : Name) (ts : List Name) → spaced (t ∷ ts) ≡ t ++ behind ts
spaced_is t [] = sym (append-nil t)
spaced_is t (u ∷ ts) = ap (λ (bs : List ℕ). t ++ 32 ∷ bs) (spaced_is u ts)

-- a line with two places, behind its name
pub two_places : (name first second : Name) (formula : List Name) → ended (step_line name (first ∷ second ∷ []) (codes "ax-mp") formula) ≡ name ++ behind_name first second formula
two_places name first second formula =
    ap ended (spaced_is (name ++ 58 ∷ (first ++ 44 ∷ second) ++ 58 ∷ codes "ax-mp") formula) ∙ simp append_assoc

-- a line without places, behind its name
pub no_places : (name reference : Name) (formula : List Name) → ended (step_line name [] reference formula) ≡ name ++ (codes "::" ++ reference ++ (behind formula ++ codes "\n"))
no_places name reference formula = ap ended (spaced_is (name ++ 58 ∷ [] ++ 58 ∷ reference) formula) ∙ simp append_assoc

flat-append : (xs ys : List (List ℕ)) → flat_map ended (xs ++ ys) ≡ flat_map ended xs ++ flat_map ended ys
flat-append [] ys = refl
flat-append (x ∷ xs) ys = ap (λ (bs : List ℕ). ended x ++ bs) (flat-append xs ys) ∙ sym (append_assoc (ended x) (flat_map ended xs) (flat_map ended ys))

-- the lines of `( F -> F )`: the four first, the last one's name, and what stands behind it
pub identity_is : (k : ℕ) (last : Name) (f : List Name)
    → flat_map ended (first_lines k f) ++ (last ++ behind_name (in_block (codes "a") k) (in_block (codes "e") k) (provable (implies f f)))
    ≡ flat_map ended (identity_lines k last f)
identity_is k last f =
    ap (λ (bs : List ℕ). flat_map ended (first_lines k f) ++ bs) (sym (two_places last (in_block (codes "a") k) (in_block (codes "e") k) (provable (implies f f))) ∙ sym (append-nil _))
    ∙ sym (flat-append (first_lines k f) (step_line last (in_block (codes "a") k ∷ in_block (codes "e") k ∷ []) (codes "ax-mp") (provable (implies f f)) ∷ []))

-- ---- blocks

pub four_lines : (a b c d : List ℕ) → a ++ (b ++ (c ++ d)) ≡ a ++ (b ++ (c ++ (d ++ [])))
four_lines a b c d = ap (λ (x : List ℕ). a ++ (b ++ (c ++ x))) (sym (append-nil d))

pub three_lines : (a b c : List ℕ) → a ++ (b ++ c) ≡ a ++ (b ++ (c ++ []))
three_lines a b c = ap (λ (x : List ℕ). a ++ (b ++ x)) (sym (append-nil c))

pub first_block : (count k : ℕ) → k ≡ 1 → flat_map ended (identity_lines 1 (end_name count 1) (trial_formula 0)) ≡ flat_map ended (block_lines count k)
first_block count k e = rw e refl

later : (k : ℕ) → k ≢ 1 → (k == 1) ≡ false
later k h = grind (arith, nat_tests)

pub later_block : (count k : ℕ) → k ≢ 1
    → flat_map ended (identity_lines k (in_block (codes "f") k) (trial_formula (k - 1))) ++ flat_map ended (joining_lines k (end_name count k))
    ≡ flat_map ended (block_lines count k)
later_block count k h =
    sym (flat-append (identity_lines k (in_block (codes "f") k) (trial_formula (k - 1))) (joining_lines k (end_name count k)))
    ∙ ap
    (λ (b : Bool). flat_map ended
    (cond b (identity_lines k (end_name count k) (trial_formula (k - 1)))
    (identity_lines k (in_block (codes "f") k) (trial_formula (k - 1)) ++ joining_lines k (end_name count k))))
    (sym (later k h))

-- ---- worksheets

-- the lines of so many blocks
abbrev pub blocks_text : ℕ → ℕ → List ℕ
blocks_text count n = flat_map ended (flat_map (block_lines count) (range_with_len 1 n))

one_more : {X : Type 0} (f : ℕ → List X) (a n : ℕ) → flat_map f (range_with_len a (suc n)) ≡ flat_map f (range_with_len a n) ++ f (a + n)
one_more f a zero = append-nil (f a) ∙ ap f (sym (add-zero a))
one_more f a (suc n) =
    ap (λ (xs : List _). f a ++ xs) (one_more f (a + 1) n)
    ∙ sym (append_assoc (f a) (flat_map f (range_with_len (a + 1) n)) (f (a + 1 + n)))
    ∙ ap (λ (m : ℕ). (f a ++ flat_map f (range_with_len (a + 1) n)) ++ f m) (omega arith)

pub next_block : (count n : ℕ) → blocks_text count n ++ flat_map ended (block_lines count (1 + n)) ≡ blocks_text count (n + 1)
next_block count n =
    sym (flat-append (flat_map (block_lines count) (range_with_len 1 n)) (block_lines count (1 + n)))
    ∙ ap (flat_map ended) (sym (one_more (block_lines count) 1 n))
    ∙ ap (blocks_text count) (sym (add-one n))

pub whole_sheet : (count : ℕ) → (codes "$( <MM> <PROOF_ASST> THEOREM=trial LOC_AFTER=?\n" ++ blocks_text count count) ++ codes "$)\n" ≡ trial_sheet count
unfolding trial_sheet
whole_sheet count =
    append_assoc (codes "$( <MM> <PROOF_ASST> THEOREM=trial LOC_AFTER=?\n") (blocks_text count count) (codes "$)\n")
    ∙ ap (λ (bs : List ℕ). codes "$( <MM> <PROOF_ASST> THEOREM=trial LOC_AFTER=?\n" ++ bs) (sym (flat-append (flat_map (block_lines count) (range_with_len 1 count)) (codes "$)" ∷ [])))

abbrev head : List ℕ
head = codes "$( <MM> <PROOF_ASST> THEOREM=trial LOC_AFTER=?\n"

pub one_more_block : (old new : List ℕ) (count k : ℕ) → old ≡ head ++ blocks_text count k → new ≡ old ++ flat_map ended (block_lines count (k + 1)) → new ≡ head ++ blocks_text count (k + 1)
one_more_block old new count k e f =
    let here : k + 1 ≡ 1 + k = omega arith in
    f ∙ ap (λ (t : List ℕ). t ++ flat_map ended (block_lines count (k + 1))) e
    ∙ append_assoc head (blocks_text count k) (flat_map ended (block_lines count (k + 1)))
    ∙ ap (λ (m : ℕ). head ++ (blocks_text count k ++ flat_map ended (block_lines count m))) here
    ∙ ap (λ (t : List ℕ). head ++ t) (next_block count k)

pub all_blocks : (old new : List ℕ) (count k : ℕ) → k ≡ count → old ≡ head ++ blocks_text count k → new ≡ old ++ codes "$)\n" → new ≡ trial_sheet count
all_blocks old new count k h e f = f ∙ ap (λ (t : List ℕ). t ++ codes "$)\n") (e ∙ ap (λ (m : ℕ). head ++ blocks_text count m) h) ∙ whole_sheet count
