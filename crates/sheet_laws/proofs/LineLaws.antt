-- The lines of a text that is made of ended lines.
use Rattle.std.proofs.Common.{◌≡◌, ℕ, suc, ◌+◌, Bool, true, false, not, eqb, List, [], ◌∷◌, ◌++◌, length, refl, ap, ◌∙◌, arith, filter, append_assoc}
use Rattle.std.proofs.lemmas.Bool.Decides.{nat_tests}
use Rattle.std.specs.Prelude.{flat_map}
use Rattle.std.specs.List.{list_all, onto_first}
use Rattle.mm_model.specs.Words.{is_white}
use Rattle.sheet_text.specs.Lines.{Line, line, lines, trim_end, before_trimmed, numbered_from, is_blank, lines_not_blank}
use Rattle.sheet_text.specs.Layout.{ended}
use Rattle.sheet_text.specs.Spellable.{last_is_not_white, is_comment_line}
use Rattle.sheet_text.specs.TextFaults.{lines_from}
use Rattle.sheet_laws.proofs.Tests.{and_left, and_right, both_true, true_not, not_true, not_empty, cond_then, cond_else}

abbrev pub has_no_end : List ℕ → Bool
has_no_end bytes = list_all (λ b. not (eqb b 10)) bytes

lines-ended : (l rest : List ℕ) → has_no_end l ≡ true → lines (l ++ 10 ∷ rest) ≡ l ∷ lines rest
lines-ended [] rest h = refl
lines-ended (b ∷ bs) rest h = cond_else (eqb b 10) _ _ (true_not _ (and_left _ _ h)) ∙ ap (onto_first b) (lines-ended bs rest (and_right _ _ h))

pub lines-all : (ls : List (List ℕ)) → list_all has_no_end ls ≡ true → lines (flat_map ended ls) ≡ ls
lines-all [] h = refl
lines-all (l ∷ ls) h =
    ap lines (append_assoc l (10 ∷ []) (flat_map ended ls)) ∙ lines-ended l (flat_map ended ls) (and_left _ _ h) ∙ ap (λ t. l ∷ t) (lines-all ls (and_right _ _ h))

pub trim-kept : (b : ℕ) (bs : List ℕ) → last_is_not_white (b ∷ bs) ≡ true → trim_end (b ∷ bs) ≡ b ∷ bs
trim-kept b [] h = cond_else (is_white b) _ _ (true_not _ h)
trim-kept b (c ∷ cs) h = ap (before_trimmed b) (trim-kept c cs h)

-- lines with their numbers
abbrev pub plain_from : ℕ → List (List ℕ) → List Line
plain_from n [] = []
plain_from n (l ∷ ls) = line n l ∷ plain_from (suc n) ls

numbered-plain : (n : ℕ) (ls : List (List ℕ)) → list_all is_comment_line ls ≡ true → filter (λ l. not (is_blank l)) (numbered_from n ls) ≡ plain_from n ls
numbered-plain n [] h = refl
numbered-plain n ([] ∷ ls) h = absurd (cc)
numbered-plain n ((b ∷ bs) ∷ ls) h =
    ap (λ t. filter (λ l. not (is_blank l)) (line n t ∷ numbered_from (suc n) ls)) (trim-kept b bs (and_left _ _ (and_left _ _ h)))
    ∙ cond_then (not (is_blank (line n (b ∷ bs)))) _ _ (not_true _ (not_empty b bs)) ∙ ap (λ t. line n (b ∷ bs) ∷ t) (numbered-plain (suc n) ls (and_right _ _ h))

all_ends : (ls : List (List ℕ)) → list_all is_comment_line ls ≡ true → list_all has_no_end ls ≡ true
all_ends [] h = refl
all_ends (l ∷ ls) h = both_true _ _ (and_right _ _ (and_left _ _ h)) (all_ends ls (and_right _ _ h))

-- the lines of ended lines that are neither blank nor end with white space
pub lines-laid : (ls : List (List ℕ)) → list_all is_comment_line ls ≡ true → lines_not_blank (flat_map ended ls) ≡ plain_from 1 ls
lines-laid ls h = ap (λ t. filter (λ l. not (is_blank l)) (numbered_from 1 t)) (lines-all ls (all_ends ls h)) ∙ numbered-plain 1 ls h

pub plain_from-append : (n : ℕ) (xs ys : List (List ℕ)) → plain_from n (xs ++ ys) ≡ plain_from n xs ++ plain_from (n + length xs) ys
plain_from-append n [] ys = let z : n + 0 ≡ n = omega arith in rw z refl
plain_from-append n (x ∷ xs) ys =
    let e : suc n + length xs ≡ n + length (x ∷ xs) = omega arith in
    ap (λ t. line n x ∷ t) (plain_from-append (suc n) xs ys ∙ ap (λ k. plain_from (suc n) xs ++ plain_from k ys) e)

lines_from-here : (n : ℕ) (ys : List (List ℕ)) → lines_from n (plain_from n ys) ≡ plain_from n ys
lines_from-here n [] = refl
lines_from-here n (y ∷ ys) = cond_then (eqb n n) _ _ (grind (arith, nat_tests))

pub lines_from-plain : (n m : ℕ) (xs ys : List (List ℕ)) → m ≡ n + length xs → lines_from m (plain_from n (xs ++ ys)) ≡ plain_from m ys
lines_from-plain n m [] ys e = let f : m ≡ n = omega (arith, e) in rw f (lines_from-here n ys)
lines_from-plain n m (x ∷ xs) ys e =
    let f : eqb n m ≡ false = grind (arith, nat_tests, e) in let g : m ≡ suc n + length xs = omega (arith, e) in
    cond_else (eqb n m) _ _ f ∙ lines_from-plain (suc n) m xs ys g
