-- The words of tokens that are parted by spaces, and the parts of a written code.
use Rattle.std.proofs.Common.{◌≡◌, ◌<◌, ℕ, suc, ◌+◌, Bool, true, false, cond, not, ◌||◌, ◌&&◌, eqb, List, [], ◌∷◌, ◌++◌, length, take, drop, refl}
use Rattle.std.proofs.Common.{sym, ap, ◌∙◌, arith, subst, append-nil}
use Rattle.std.specs.Prelude.{map, flat_map, codes}
use Rattle.std.specs.List.{list_any, before_first, after_first, join_with_byte, position_or_len, AllByRecursion, take-map, drop-map}
use Rattle.std.specs.Str.{bytes_eq}
use Rattle.std.proofs.Math.Seq.{take-append_seam}
use Rattle.std.proofs.lemmas.Bool.Decides.{nat_tests}
use Rattle.mm_model.specs.Words.{Word, word, words, words_from, put_before, is_white}
use Rattle.mm_model.specs.Statements.{is}
use Rattle.proof_model.specs.ProofCode.{opens_bracket, is_bracketed, labels_of, letters_of}
use Rattle.proof_laws.proofs.LetterLaws.{cond_then, cond_else}

-- the first of these words, if there is one, stands elsewhere
abbrev StandsPast : ℕ → List Word → Type 0
StandsPast at [] = Unit {0}
StandsPast at (w ∷ ws) = at < w.start

put_before-past : (p at b : ℕ) (ws : List Word) → p < at → StandsPast p (put_before at b ws)
put_before-past p at b [] h = h
put_before-past p at b (w ∷ ws) h = elim (eqb w.start (suc at)) as (λ t. StandsPast p (cond t (word at (b ∷ w.bytes) ∷ ws) (word at (b ∷ []) ∷ w ∷ ws))) [ true ↦ h | false ↦ h ]

words_from-past : (p at : ℕ) (bs : List ℕ) → p < at → StandsPast p (words_from at bs)
words_from-past p at [] h = tt
words_from-past p at (b ∷ bs) h =
    let later : p < suc at = omega arith in
    elim (is_white b) as (λ t. StandsPast p (cond t (words_from (suc at) bs) (put_before at b (words_from (suc at) bs)))) [
      | true ↦ words_from-past p (suc at) bs later
      | false ↦ put_before-past p at b (words_from (suc at) bs) h
    ]

put_before-apart : (at b : ℕ) (ws : List Word) → StandsPast (suc at) ws → put_before at b ws ≡ word at (b ∷ []) ∷ ws
put_before-apart at b [] h = refl
put_before-apart at b (w ∷ ws) h = let e : eqb w.start (suc at) ≡ false = grind (arith, nat_tests) in rw e refl

put_before-joined : (at b : ℕ) (bytes : List ℕ) (ws : List Word) → put_before at b (word (suc at) bytes ∷ ws) ≡ word at (b ∷ bytes) ∷ ws
put_before-joined at b bytes ws = let e : eqb (suc at) (suc at) ≡ true = grind (arith, nat_tests) in rw e refl

-- ---- tokens parted by spaces

abbrev pub IsInk : ℕ → Type 0
IsInk b = is_white b ≡ false

-- nothing, or a byte of white space first
abbrev EndsWord : List ℕ → Type 0
EndsWord [] = Unit {0}
EndsWord (c ∷ cs) = is_white c ≡ true

end_past : (at : ℕ) (rest : List ℕ) → EndsWord rest → StandsPast at (words_from at rest)
end_past at [] h = tt
end_past at (c ∷ cs) h =
    subst (StandsPast at) (sym (cond_then (is_white c) (words_from (suc at) cs) (put_before at c (words_from (suc at) cs)) h)) (words_from-past at (suc at) cs (omega arith))

-- a word, and the words of what is behind it
word_first : (at b : ℕ) (bs rest : List ℕ) → AllByRecursion IsInk (b ∷ bs) → EndsWord rest → (next : ℕ) × (words_from at ((b ∷ bs) ++ rest) ≡ word at (b ∷ bs) ∷ words_from next rest)
word_first at b [] rest ink h =
    (suc at, cond_else (is_white b) (words_from (suc at) rest) (put_before at b (words_from (suc at) rest)) ink.0 ∙ put_before-apart at b (words_from (suc at) rest) (end_past (suc at) rest h))
word_first at b (c ∷ bs) rest ink h =
    let later = word_first (suc at) c bs rest ink.1 h in (
      later.0,
      cond_else (is_white b) (words_from (suc at) ((c ∷ bs) ++ rest)) (put_before at b (words_from (suc at) ((c ∷ bs) ++ rest))) ink.0
          ∙ ap (put_before at b) later.1 ∙ put_before-joined at b (c ∷ bs) (words_from later.0 rest),
    )

abbrev pub texts : List Word → List (List ℕ)
texts ws = map (λ (w : Word). w.bytes) ws

-- a token has bytes, and none of white space
abbrev pub IsToken : List ℕ → Type 0
IsToken [] = ⊥
IsToken (b ∷ bs) = AllByRecursion IsInk (b ∷ bs)

-- the word that these bytes are, if there are any
abbrev pub last_word : List ℕ → List (List ℕ)
last_word [] = []
last_word (b ∷ bs) = (b ∷ bs) ∷ []

last_texts : (at : ℕ) (last : List ℕ) → AllByRecursion IsInk last → texts (words_from at last) ≡ last_word last
last_texts at [] ink = refl
last_texts at (b ∷ bs) ink =
    let first = word_first at b bs [] ink tt in
    ap (λ (ls : List ℕ). texts (words_from at ls)) (sym (append-nil (b ∷ bs))) ∙ ap texts first.1

join_more : (t : List ℕ) (ts : List (List ℕ)) (last : List ℕ) → join_with_byte 32 ((t ∷ ts) ++ last ∷ []) ≡ t ++ 32 ∷ join_with_byte 32 (ts ++ last ∷ [])
join_more t [] last = refl
join_more t (u ∷ ts) last = refl

pub joined_texts : (at : ℕ) (ts : List (List ℕ)) (last : List ℕ) → AllByRecursion IsToken ts → AllByRecursion IsInk last
    → texts (words_from at (join_with_byte 32 (ts ++ last ∷ []))) ≡ ts ++ last_word last
joined_texts at [] last h ink = last_texts at last ink
joined_texts at ([] ∷ ts) last h ink = absurd h.0
joined_texts at ((b ∷ bs) ∷ ts) last h ink =
    let rest = join_with_byte 32 (ts ++ last ∷ []) in
    let first = word_first at b bs (32 ∷ rest) h.0 refl in
    ap (λ (ls : List ℕ). texts (words_from at ls)) (join_more (b ∷ bs) ts last) ∙ ap texts first.1 ∙ ap (λ (ws : List (List ℕ)). (b ∷ bs) ∷ ws) (joined_texts (suc first.0) ts last h.1 ink)

-- ---- the parts of a code, by the texts of its words

abbrev pub is_text : List ℕ → List ℕ → Bool
is_text bytes t = bytes_eq t bytes

any_texts : (bytes : List ℕ) (ws : List Word) → list_any (is bytes) ws ≡ list_any (is_text bytes) (texts ws)
any_texts bytes [] = refl
any_texts bytes (w ∷ ws) = ap (λ (b : Bool). bytes_eq w.bytes bytes || b) (any_texts bytes ws)

abbrev opens_texts : List (List ℕ) → Bool
opens_texts [] = false
opens_texts (t ∷ ts) = is_text (codes "(") t && list_any (is_text (codes ")")) ts

opens_are : (ws : List Word) → opens_bracket ws ≡ opens_texts (texts ws)
opens_are [] = refl
opens_are (w ∷ ws) = ap (λ (b : Bool). bytes_eq w.bytes (codes "(") && b) (any_texts (codes ")") ws)

position_texts : (bytes : List ℕ) (ws : List Word) → position_or_len (is bytes) ws ≡ position_or_len (is_text bytes) (texts ws)
position_texts bytes [] = refl
position_texts bytes (w ∷ ws) = ap (λ (n : ℕ). cond (not (bytes_eq w.bytes bytes)) (1 + n) 0) (position_texts bytes ws)

before_texts : (bytes : List ℕ) (ws : List Word) → texts (before_first (is bytes) ws) ≡ before_first (is_text bytes) (texts ws)
before_texts bytes ws = sym (take-map (λ (w : Word). w.bytes) (position_or_len (is bytes) ws) ws) ∙ ap (λ (n : ℕ). take n (texts ws)) (position_texts bytes ws)

joined_are : (ws : List Word) → flat_map (λ (w : Word). w.bytes) ws ≡ flat_map (λ (t : List ℕ). t) (texts ws)
joined_are [] = refl
joined_are (w ∷ ws) = ap (λ (ls : List ℕ). w.bytes ++ ls) (joined_are ws)

after_texts : (bytes : List ℕ) (ws : List Word) → texts (after_first (is bytes) ws) ≡ after_first (is_text bytes) (texts ws)
after_texts bytes ws = sym (drop-map (λ (w : Word). w.bytes) (position_or_len (is bytes) ws + 1) ws) ∙ ap (λ (n : ℕ). drop (n + 1) (texts ws)) (position_texts bytes ws)

-- ---- a text with these words: `(`, labels that are not `)`, `)` and perhaps letters

abbrev pub IsNoClose : List ℕ → Type 0
IsNoClose t = bytes_eq t (codes ")") ≡ false

close_position : (labels : List (List ℕ)) (more : List (List ℕ)) → AllByRecursion IsNoClose labels → position_or_len (is_text (codes ")")) (labels ++ codes ")" ∷ more) ≡ length labels
close_position [] more h = refl
close_position (l ∷ ls) more h =
    let shut : not (bytes_eq l (codes ")")) ≡ true = rw h.0 refl in
    let rest = close_position ls more h.1 in
    let one : 1 + length ls ≡ suc (length ls) = omega arith in
    cond_then (not (bytes_eq l (codes ")"))) (1 + position_or_len (is_text (codes ")")) (ls ++ codes ")" ∷ more)) 0 shut ∙ ap (λ (n : ℕ). 1 + n) rest ∙ one

drop_behind : (labels : List (List ℕ)) (t : List ℕ) (more : List (List ℕ)) → drop (length labels + 1) (labels ++ t ∷ more) ≡ more
drop_behind [] t more = refl
drop_behind (l ∷ ls) t more =
    let one : suc (length ls) + 1 ≡ suc (length ls + 1) = omega arith in
    ap (λ (n : ℕ). drop n ((l ∷ ls) ++ t ∷ more)) one ∙ drop_behind ls t more

close_stands : (labels more : List (List ℕ)) → list_any (is_text (codes ")")) (labels ++ codes ")" ∷ more) ≡ true
close_stands [] more = refl
close_stands (l ∷ ls) more = or_last (bytes_eq l (codes ")")) (list_any (is_text (codes ")")) (ls ++ codes ")" ∷ more)) (close_stands ls more)
  where
    or_last : (a b : Bool) → b ≡ true → (a || b) ≡ true
    or_last true b e = refl
    or_last false b e = e

-- the words of the text
abbrev pub HasWords : List ℕ → List (List ℕ) → List ℕ → Type 0
HasWords text labels letters = texts (words text) ≡ codes "(" ∷ (labels ++ codes ")" ∷ last_word letters)

pub bracketed_is : (text : List ℕ) (labels : List (List ℕ)) (letters : List ℕ) → HasWords text labels letters → is_bracketed text ≡ true
bracketed_is text labels letters h = opens_are (words text) ∙ ap opens_texts h ∙ close_stands labels (last_word letters)

behind_first : (text : List ℕ) (labels : List (List ℕ)) (letters : List ℕ) → HasWords text labels letters → texts (drop 1 (words text)) ≡ labels ++ codes ")" ∷ last_word letters
behind_first text labels letters h = sym (drop-map (λ (w : Word). w.bytes) 1 (words text)) ∙ ap (λ (ws : List (List ℕ)). drop 1 ws) h

pub labels_are : (text : List ℕ) (labels : List (List ℕ)) (letters : List ℕ) → AllByRecursion IsNoClose labels → HasWords text labels letters → labels_of text ≡ labels
labels_are text labels letters shut h =
    before_texts (codes ")") (drop 1 (words text)) ∙ ap (before_first (is_text (codes ")"))) (behind_first text labels letters h)
    ∙ ap (λ (n : ℕ). take n (labels ++ codes ")" ∷ last_word letters)) (close_position labels (last_word letters) shut) ∙ take-append_seam labels (codes ")" ∷ last_word letters)

last_joined : (letters : List ℕ) → flat_map (λ (t : List ℕ). t) (last_word letters) ≡ letters
last_joined [] = refl
last_joined (b ∷ bs) = append-nil (b ∷ bs)

pub letters_are : (text : List ℕ) (labels : List (List ℕ)) (letters : List ℕ) → AllByRecursion IsNoClose labels → HasWords text labels letters → letters_of text ≡ letters
letters_are text labels letters shut h =
    let after : texts (after_first (is (codes ")")) (drop 1 (words text))) ≡ last_word letters =
    after_texts (codes ")") (drop 1 (words text)) ∙ ap (after_first (is_text (codes ")"))) (behind_first text labels letters h)
    ∙ ap (λ (n : ℕ). drop (n + 1) (labels ++ codes ")" ∷ last_word letters)) (close_position labels (last_word letters) shut) ∙ drop_behind labels (codes ")") (last_word letters) in
    joined_are (after_first (is (codes ")")) (drop 1 (words text))) ∙ ap (flat_map (λ (t : List ℕ). t)) after ∙ last_joined letters
