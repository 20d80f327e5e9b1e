-- The words of a text.
use Rattle.std.proofs.Common.{◌≡◌, ℕ, suc, ◌+◌, ◌<◌, true, false, cond, not, eqb, List, [], ◌∷◌, ◌++◌, length, map, refl, ap, ◌∙◌, arith, inl, inr}
use Rattle.std.proofs.lemmas.Bool.{cases_Bool}
use Rattle.std.proofs.lemmas.Bool.Decides.{nat_tests}
use Rattle.std.proofs.lemmas.List.{map-append}
use Rattle.std.specs.List.{list_all}
use Rattle.mm_model.specs.Words.{Word, word, words_from, put_before, is_white}
use Rattle.mm_model.proofs.WordLaws.{StandsPast, put_before-StandsPast, words_from-StandsPast, put_before-apart, put_before-joined}
use Rattle.sheet_text.specs.Layout.{spaced}
use Rattle.sheet_text.specs.Spellable.{is_token}
use Rattle.sheet_laws.proofs.Tests.{and_left, and_right, both_true, true_not, not_true, not_empty}

put_before-front : (at b : ℕ) (ws vs : List Word) → StandsPast (suc at) vs → put_before at b (ws ++ vs) ≡ put_before at b ws ++ vs
put_before-front at b [] vs h = put_before-apart at b vs h
put_before-front at b (w ∷ ws) vs h =
    elim (eqb w.start (suc at)) as
    (λ t. cond t (word at (b ∷ w.bytes) ∷ ws ++ vs) (word at (b ∷ []) ∷ w ∷ ws ++ vs)
    ≡ cond t (word at (b ∷ w.bytes) ∷ ws) (word at (b ∷ []) ∷ w ∷ ws) ++ vs) [ true ↦ refl | false ↦ refl ]

-- bytes without white space are one word
pub words_from-token : (at b : ℕ) (bs : List ℕ) → list_all (λ c. not (is_white c)) (b ∷ bs) ≡ true → words_from at (b ∷ bs) ≡ word at (b ∷ bs) ∷ []
words_from-token at b [] h = let e = true_not (is_white b) (and_left _ _ h) in rw e refl
words_from-token at b (c ∷ cs) h =
    let e = true_not (is_white b) (and_left _ _ h) in
    rw e (ap (put_before at b) (words_from-token (suc at) c cs (and_right _ _ h)) ∙ put_before-joined at b (c ∷ cs) [])

-- white space parts the words before it from those behind it
pub words_from-parted : (at : ℕ) (xs : List ℕ) (w : ℕ) (ys : List ℕ) → is_white w ≡ true → words_from at (xs ++ w ∷ ys) ≡ words_from at xs ++ words_from (suc (at + length xs)) ys
words_from-parted at [] w ys h = let z : at + 0 ≡ at = omega arith in rw (h, z) refl
words_from-parted at (b ∷ bs) w ys h =
    let n : suc (suc at + length bs) ≡ suc (at + length (b ∷ bs)) = omega arith in
    let rest = words_from (suc (suc at + length bs)) ys in
    let ih : words_from (suc at) (bs ++ w ∷ ys) ≡ words_from (suc at) bs ++ words_from (suc (at + length (b ∷ bs))) ys =
    words_from-parted (suc at) bs w ys h ∙ ap (λ k. words_from (suc at) bs ++ words_from k ys) n in
    elim (cases_Bool (is_white b)) [
      | inl e ↦ rw e ih
      | inr e ↦ rw e (ap (put_before at b) ih ∙ put_before-front at b (words_from (suc at) bs) (words_from (suc (at + length (b ∷ bs))) ys)
          (words_from-StandsPast (suc at) (suc (at + length (b ∷ bs))) ys (omega arith)))
    ]

-- the words of a text that begins at a place, without their places
abbrev pub tokens_at : ℕ → List ℕ → List (List ℕ)
tokens_at at bytes = map (λ (w : Word). w.bytes) (words_from at bytes)

pub tokens_at-parted : (at : ℕ) (xs : List ℕ) (w : ℕ) (ys : List ℕ) → is_white w ≡ true → tokens_at at (xs ++ w ∷ ys) ≡ tokens_at at xs ++ tokens_at (suc (at + length xs)) ys
tokens_at-parted at xs w ys h = ap (map (λ (w : Word). w.bytes)) (words_from-parted at xs w ys h) ∙ map-append (λ (w : Word). w.bytes) (words_from at xs) _

pub tokens_at-token : (at : ℕ) (t : List ℕ) → is_token t ≡ true → tokens_at at t ≡ t ∷ []
tokens_at-token at [] h = absurd (cc)
tokens_at-token at (b ∷ bs) h = ap (map (λ (w : Word). w.bytes)) (words_from-token at b bs (and_right _ _ h))

-- tokens parted by spaces are the tokens
pub tokens_at-spaced : (at : ℕ) (ts : List (List ℕ)) → list_all is_token ts ≡ true → tokens_at at (spaced ts) ≡ ts
tokens_at-spaced at [] h = refl
tokens_at-spaced at (t ∷ []) h = tokens_at-token at t (and_left _ _ h)
tokens_at-spaced at (t ∷ u ∷ ts) h =
    tokens_at-parted at t 32 (spaced (u ∷ ts)) refl ∙ ap (λ l. l ++ tokens_at (suc (at + length t)) (spaced (u ∷ ts))) (tokens_at-token at t (and_left _ _ h))
    ∙ ap (λ l. t ∷ l) (tokens_at-spaced (suc (at + length t)) (u ∷ ts) (and_right _ _ h))

-- words are tokens
put_before-tokens : (at b : ℕ) (ws : List Word) → is_white b ≡ false → list_all is_token (map (λ (w : Word). w.bytes) ws) ≡ true
    → list_all is_token (map (λ (w : Word). w.bytes) (put_before at b ws)) ≡ true
put_before-tokens at b [] e h = both_true _ _ (both_true _ _ (not_true _ (not_empty b [])) (both_true _ _ (not_true _ e) refl)) refl
put_before-tokens at b (w ∷ ws) e h =
    elim (eqb w.start (suc at)) as (λ t. list_all is_token (map (λ (w : Word). w.bytes) (cond t (word at (b ∷ w.bytes) ∷ ws) (word at (b ∷ []) ∷ w ∷ ws))) ≡ true) [
      | true ↦ both_true _ _ (both_true _ _ (not_true _ (not_empty b w.bytes)) (both_true _ _ (not_true _ e) (and_right _ _ (and_left _ _ h)))) (and_right _ _ h)
      | false ↦ both_true _ _ (both_true _ _ (not_true _ (not_empty b [])) (both_true _ _ (not_true _ e) refl)) h
    ]

pub tokens_at-tokens : (at : ℕ) (bs : List ℕ) → list_all is_token (tokens_at at bs) ≡ true
tokens_at-tokens at [] = refl
tokens_at-tokens at (b ∷ bs) =
    elim (cases_Bool (is_white b)) [
      | inl e ↦ rw e (tokens_at-tokens (suc at) bs)
      | inr e ↦ rw e (put_before-tokens at b (words_from (suc at) bs) e (tokens_at-tokens (suc at) bs))
    ]
