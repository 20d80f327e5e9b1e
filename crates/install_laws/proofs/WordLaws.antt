-- The words of texts that are put together where a word ends.
use Rattle.std.proofs.Common.{◌≡◌, ℕ, suc, ◌+◌, Bool, true, false, cond, eqb, List, [], ◌∷◌, ◌++◌, length, map}
use Rattle.std.proofs.Common.{refl, sym, ap, ◌∙◌, subst, arith, inl, inr, append_assoc}
use Rattle.std.specs.List.{list_any, AllByRecursion}
use Rattle.std.proofs.lemmas.Bool.{cases_Bool, or_parts}
use Rattle.std.proofs.lemmas.Bool.Decides.{nat_tests}
use Rattle.std.proofs.lemmas.List.{map-append}
use Rattle.mm_model.specs.Names.{Name}
use Rattle.mm_model.specs.Words.{Word, word, words, words_from, put_before, is_white}
use Rattle.mm_model.proofs.WordLaws.{StandsPast, words_from-StandsPast, put_before-apart, put_before-joined}
use Rattle.mm_model.proofs.Scopes.{cond_then, cond_else}
use Rattle.install_laws.specs.InstalledStatements.{names, HasNoDollar, IsPlain}
use Rattle.install_laws.proofs.Lines.{behind}

-- nothing, or white space first
abbrev pub EndsWord : List ℕ → Type 0
EndsWord [] = Unit {0}
EndsWord (c ∷ cs) = is_white c ≡ true

-- ---- words of two parts

pub from_white : (at c : ℕ) (cs : List ℕ) → is_white c ≡ true → words_from at (c ∷ cs) ≡ words_from (suc at) cs
from_white at c cs e = cond_then (is_white c) (words_from (suc at) cs) (put_before at c (words_from (suc at) cs)) e

pub from_ink : (at c : ℕ) (cs : List ℕ) → is_white c ≡ false → words_from at (c ∷ cs) ≡ put_before at c (words_from (suc at) cs)
from_ink at c cs e = cond_else (is_white c) (words_from (suc at) cs) (put_before at c (words_from (suc at) cs)) e

end_past : (at : ℕ) (ys : List ℕ) → EndsWord ys → StandsPast at (words_from at ys)
end_past at [] h = tt
end_past at (c ∷ cs) h = subst (StandsPast at) (sym (from_white at c cs h)) (words_from-StandsPast at (suc at) cs (omega arith))

later_past : (at : ℕ) (bs ys : List ℕ) → EndsWord ys → StandsPast at (words_from (at + length bs) ys)
later_past at [] ys h = let same : at ≡ at + 0 = omega arith in subst (λ (k : ℕ). StandsPast at (words_from k ys)) same (end_past at ys h)
later_past at (b ∷ bs) ys h = words_from-StandsPast at (at + suc (length bs)) ys (omega arith)

put_over : (at b : ℕ) (xs ys : List Word) → StandsPast (suc at) ys → put_before at b (xs ++ ys) ≡ put_before at b xs ++ ys
put_over at b [] ys h = put_before-apart at b ys h
put_over at b (w ∷ ws) ys h = by (eqb w.start (suc at))
  where
    by : (t : Bool) → cond t (word at (b ∷ w.bytes) ∷ (ws ++ ys)) (word at (b ∷ []) ∷ w ∷ (ws ++ ys)) ≡ cond t (word at (b ∷ w.bytes) ∷ ws) (word at (b ∷ []) ∷ w ∷ ws) ++ ys
    by true = refl
    by false = refl

pub words_join : (at : ℕ) (xs ys : List ℕ) → EndsWord ys → words_from at (xs ++ ys) ≡ words_from at xs ++ words_from (at + length xs) ys
words_join at [] ys h = let same : at ≡ at + 0 = omega arith in ap (λ (k : ℕ). words_from k ys) same
words_join at (b ∷ bs) ys h =
    let next : suc at + length bs ≡ at + suc (length bs) = omega arith in
    let more : words_from (suc at) (bs ++ ys) ≡ words_from (suc at) bs ++ words_from (at + suc (length bs)) ys =
    subst (λ (k : ℕ). words_from (suc at) (bs ++ ys) ≡ words_from (suc at) bs ++ words_from k ys) next (words_join (suc at) bs ys h) in
    let past : StandsPast (suc at) (words_from (at + suc (length bs)) ys) = subst (λ (k : ℕ). StandsPast (suc at) (words_from k ys)) next (later_past (suc at) bs ys h) in
    elim (cases_Bool (is_white b)) [
      | inl e ↦ from_white at b (bs ++ ys) e ∙ more ∙ ap (λ (ws : List Word). ws ++ words_from (at + suc (length bs)) ys) (sym (from_white at b bs e))
      | inr e ↦
          from_ink at b (bs ++ ys) e ∙ ap (put_before at b) more ∙ put_over at b (words_from (suc at) bs) (words_from (at + suc (length bs)) ys) past
          ∙ ap (λ (ws : List Word). ws ++ words_from (at + suc (length bs)) ys) (sym (from_ink at b bs e))
    ]

-- ---- words from another place

abbrev shift : ℕ → List Word → List Word
shift n ws = map (λ (w : Word). word (n + w.start) w.bytes) ws

put_shift : (n at b : ℕ) (ws : List Word) → put_before (n + at) b (shift n ws) ≡ shift n (put_before at b ws)
put_shift n at b [] = refl
put_shift n at b (w ∷ ws) =
    let same : eqb (n + w.start) (suc (n + at)) ≡ eqb w.start (suc at) = same_test in
    ap (λ (t : Bool). cond t (word (n + at) (b ∷ w.bytes) ∷ shift n ws) (word (n + at) (b ∷ []) ∷ word (n + w.start) w.bytes ∷ shift n ws)) same ∙ by (eqb w.start (suc at))
  where
    same_test : eqb (n + w.start) (suc (n + at)) ≡ eqb w.start (suc at)
    same_test = elim (cases_Bool (eqb w.start (suc at))) [
      | inl e ↦ let yes : eqb (n + w.start) (suc (n + at)) ≡ true = grind (arith, nat_tests, e) in yes ∙ sym e
      | inr e ↦ let not_so : eqb (n + w.start) (suc (n + at)) ≡ false = grind (arith, nat_tests, e) in not_so ∙ sym e
    ]

    by : (t : Bool) → cond t (word (n + at) (b ∷ w.bytes) ∷ shift n ws) (word (n + at) (b ∷ []) ∷ word (n + w.start) w.bytes ∷ shift n ws)
        ≡ shift n (cond t (word at (b ∷ w.bytes) ∷ ws) (word at (b ∷ []) ∷ w ∷ ws))
    by true = refl
    by false = refl

words_shift : (n at : ℕ) (bs : List ℕ) → words_from (n + at) bs ≡ shift n (words_from at bs)
words_shift n at [] = refl
words_shift n at (b ∷ bs) =
    let next : n + suc at ≡ suc (n + at) = omega arith in
    let more : words_from (suc (n + at)) bs ≡ shift n (words_from (suc at) bs) =
    subst (λ (k : ℕ). words_from k bs ≡ shift n (words_from (suc at) bs)) next (words_shift n (suc at) bs) in
    elim (cases_Bool (is_white b)) [
      | inl e ↦ from_white (n + at) b bs e ∙ more ∙ ap (shift n) (sym (from_white at b bs e))
      | inr e ↦ from_ink (n + at) b bs e ∙ ap (put_before (n + at) b) more ∙ put_shift n at b (words_from (suc at) bs) ∙ ap (shift n) (sym (from_ink at b bs e))
    ]

names_shift : (n : ℕ) (ws : List Word) → names (shift n ws) ≡ names ws
names_shift n [] = refl
names_shift n (w ∷ ws) = ap (λ (ns : List Name). w.bytes ∷ ns) (names_shift n ws)

-- ---- the names in a text

abbrev pub names_in : List ℕ → List Name
names_in text = names (words text)

pub names_from : (at : ℕ) (bs : List ℕ) → names (words_from at bs) ≡ names_in bs
names_from at bs =
    let here : at + 0 ≡ at = omega arith in
    subst (λ (k : ℕ). names (words_from k bs) ≡ names_in bs) here (ap names (words_shift at 0 bs) ∙ names_shift at (words bs))

pub names_join : (xs ys : List ℕ) → EndsWord ys → names_in (xs ++ ys) ≡ names_in xs ++ names_in ys
names_join xs ys h =
    ap names (words_join 0 xs ys h) ∙ map-append (λ (w : Word). w.bytes) (words xs) (words_from (0 + length xs) ys)
    ∙ ap (λ (ns : List Name). names_in xs ++ ns) (names_from (0 + length xs) ys)

-- white space is passed over
pub names_white : (c : ℕ) (ys : List ℕ) → is_white c ≡ true → names_in (c ∷ ys) ≡ names_in ys
names_white c ys e = ap names (from_white 0 c ys e) ∙ names_from 1 ys

-- ---- one word

abbrev IsInk : ℕ → Type 0
IsInk c = is_white c ≡ false

word_alone : (at b : ℕ) (bs : List ℕ) → AllByRecursion IsInk (b ∷ bs) → words_from at (b ∷ bs) ≡ word at (b ∷ bs) ∷ []
word_alone at b [] h = from_ink at b [] h.0
word_alone at b (c ∷ bs) h = from_ink at b (c ∷ bs) h.0 ∙ ap (put_before at b) (word_alone (suc at) c bs h.1) ∙ put_before-joined at b (c ∷ bs) []

-- bytes that are a word
abbrev pub IsToken : Name → Type 0
IsToken [] = ⊥
IsToken (b ∷ bs) = AllByRecursion IsInk (b ∷ bs)

pub plain_token : (x : Name) → IsPlain x → IsToken x
plain_token [] h = h
plain_token (b ∷ bs) h = h.0

pub plain_dollar : (x : Name) → IsPlain x → HasNoDollar x
plain_dollar [] h = absurd h
plain_dollar (b ∷ bs) h = h.1

-- a word, and what stands behind it
pub names_token : (x : Name) (ys : List ℕ) → IsToken x → EndsWord ys → names_in (x ++ ys) ≡ x ∷ names_in ys
names_token [] ys h e = absurd h
names_token (b ∷ bs) ys h e = names_join (b ∷ bs) ys e ∙ ap (λ (ws : List Word). names ws ++ names_in ys) (word_alone 0 b bs h)

-- the same behind white space
pub names_next : (c : ℕ) (x : Name) (ys : List ℕ) → is_white c ≡ true → IsToken x → EndsWord ys → names_in (c ∷ (x ++ ys)) ≡ x ∷ names_in ys
names_next c x ys e h f = names_white c (x ++ ys) e ∙ names_token x ys h f

pub behind_ends : (xs : List Name) (ys : List ℕ) → EndsWord ys → EndsWord (behind xs ++ ys)
behind_ends [] ys h = h
behind_ends (x ∷ xs) ys h = refl

-- words behind spaces
pub names_behind : (xs : List Name) (ys : List ℕ) → AllByRecursion IsPlain xs → EndsWord ys → names_in (behind xs ++ ys) ≡ xs ++ names_in ys
names_behind [] ys h e = refl
names_behind (x ∷ xs) ys h e =
    ap names_in (append_assoc (32 ∷ x) (behind xs) ys) ∙ names_next 32 x (behind xs ++ ys) refl (plain_token x h.0) (behind_ends xs ys e)
    ∙ ap (λ (ns : List Name). x ∷ ns) (names_behind xs ys h.1 e)

-- ---- words of a text without such bytes

module _ (test : ℕ → Bool) where
  abbrev HasNone : Word → Type 0
  HasNone w = list_any test w.bytes ≡ false

  put_none : (at b : ℕ) (ws : List Word) → test b ≡ false → AllByRecursion HasNone ws → AllByRecursion HasNone (put_before at b ws)
  put_none at b [] e h = (rw e refl, tt)
  put_none at b (w ∷ ws) e h = by (eqb w.start (suc at))
    where
      by : (t : Bool) → AllByRecursion HasNone (cond t (word at (b ∷ w.bytes) ∷ ws) (word at (b ∷ []) ∷ w ∷ ws))
      by true = (rw e h.0, h.1)
      by false = (rw e refl, h)

  words_none : (at : ℕ) (bs : List ℕ) → list_any test bs ≡ false → AllByRecursion HasNone (words_from at bs)
  words_none at [] h = tt
  words_none at (b ∷ bs) h =
      let first : test b ≡ false = (or_parts (test b) (list_any test bs) h).0 in
      let rest : list_any test bs ≡ false = (or_parts (test b) (list_any test bs) h).1 in
      elim (cases_Bool (is_white b)) [
        | inl e ↦ subst (AllByRecursion HasNone) (sym (from_white at b bs e)) (words_none (suc at) bs rest)
        | inr e ↦ subst (AllByRecursion HasNone) (sym (from_ink at b bs e)) (put_none at b (words_from (suc at) bs) first (words_none (suc at) bs rest))
      ]

  names_all : (ws : List Word) → AllByRecursion HasNone ws → AllByRecursion (λ n. list_any test n ≡ false) (names ws)
  names_all [] h = tt
  names_all (w ∷ ws) h = (h.0, names_all ws h.1)

  pub names_none : (bs : List ℕ) → list_any test bs ≡ false → AllByRecursion (λ n. list_any test n ≡ false) (names_in bs)
  names_none bs h = names_all (words bs) (words_none 0 bs h)

pub names_dollar : (bs : List ℕ) → HasNoDollar bs → AllByRecursion HasNoDollar (names_in bs)
names_dollar bs h = names_none (λ b. eqb b 36) bs h
