-- The first word behind a place of a text.
use Rattle.std.proofs.Common.{◌≡◌, ℕ, ◌+◌, ◌-◌, ◌<◌, List, [], ◌∷◌, length, take, drop, sym, ap, ◌∙◌, arith, subst, slice_range}
use Rattle.std.specs.List.{prefix_len}
use Rattle.std.proofs.lemmas.List.{drop-drop, drop_all, take_all, length-drop}
use Rattle.mm_model.specs.Words.{word, words_from, is_white}
use Rattle.mm_tokens.proofs.WordLaws.{is_inked, words_from-white, words_from-inked, inked_after_white}

-- how the code spells the bytes from a place on
abbrev pub tail : List ℕ → ℕ → List ℕ
tail text at = take (length text - at) (drop at text)

pub tail_is : (text : List ℕ) (at : ℕ) → tail text at ≡ drop at text
tail_is text at = take_all (length text - at) (drop at text) (omega (arith, length-drop at text))

-- white space is passed over
pub words_past : (text : List ℕ) (from n : ℕ) → n ≡ prefix_len is_white (tail text from) → words_from from (drop from text) ≡ words_from (from + n) (drop (from + n) text)
words_past text from n e =
    let e' : n ≡ prefix_len is_white (drop from text) = e ∙ ap (λ (t : List ℕ). prefix_len is_white t) (tail_is text from) in
    let there : words_from from (drop from text) ≡ words_from (from + n) (drop n (drop from text)) =
    subst (λ (k : ℕ). words_from from (drop from text) ≡ words_from (from + k) (drop k (drop from text))) (sym e')
    (words_from-white from (drop from text)) in
    there ∙ ap (λ (t : List ℕ). words_from (from + n) t) (drop-drop n from text)

pub no_words : (text : List ℕ) (from n : ℕ) → n ≡ prefix_len is_white (tail text from) → from + n ≡ length text → words_from from (drop from text) ≡ []
no_words text from n e at_end =
    let nothing : drop (from + n) text ≡ [] = drop_all (from + n) text (omega arith) in
    words_past text from n e ∙ ap (λ (t : List ℕ). words_from (from + n) t) nothing

-- a word stands there, where the text goes on
pub word_there : (text : List ℕ) (from n m : ℕ) → n ≡ prefix_len is_white (tail text from) → from + n < length text → m ≡ prefix_len is_inked (tail text (from + n)) → 0 < m
word_there text from n m e inside em =
    let n' : n ≡ prefix_len is_white (drop from text) = e ∙ ap (λ (t : List ℕ). prefix_len is_white t) (tail_is text from) in
    let short : prefix_len is_white (drop from text) < length (drop from text) = omega (arith, length-drop from text) in
    let inked : 0 < prefix_len is_inked (drop n (drop from text)) = subst (λ (k : ℕ). 0 < prefix_len is_inked (drop k (drop from text))) (sym n') (inked_after_white (drop from text) short) in
    let here : prefix_len is_inked (drop n (drop from text)) ≡ prefix_len is_inked (drop (from + n) text) = ap (λ (t : List ℕ). prefix_len is_inked t) (drop-drop n from text) in
    let m' : m ≡ prefix_len is_inked (drop (from + n) text) = em ∙ ap (λ (t : List ℕ). prefix_len is_inked t) (tail_is text (from + n)) in
    omega arith

pub word_first : (text : List ℕ) (start m : ℕ) → m ≡ prefix_len is_inked (tail text start) → 0 < m
    → words_from start (drop start text) ≡ word start (slice_range text start (start + m)) ∷ words_from (start + m) (drop (start + m) text)
word_first text start m e positive =
    let e' : m ≡ prefix_len is_inked (drop start text) = e ∙ ap (λ (t : List ℕ). prefix_len is_inked t) (tail_is text start) in
    let there = words_from-inked start (drop start text) (omega arith) in
    let at_m : words_from start (drop start text) ≡ word start (take m (drop start text)) ∷ words_from (start + m) (drop m (drop start text)) =
    subst
    (λ (k : ℕ). words_from start (drop start text)
    ≡ word start (take k (drop start text)) ∷ words_from (start + k) (drop k (drop start text)))
    (sym e') there in
    let k : m ≡ start + m - start = omega arith in
    at_m ∙ ap (λ (t : List ℕ). word start (take m (drop start text)) ∷ words_from (start + m) t) (drop-drop m start text)
    ∙ ap (λ (j : ℕ). word start (take j (drop start text)) ∷ words_from (start + m) (drop (start + m) text)) k
