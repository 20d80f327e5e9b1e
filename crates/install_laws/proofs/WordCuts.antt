-- A text is cut behind one of its words.
use Rattle.std.proofs.Common.{◌≡◌, ◌<◌, ◌≤◌, ℕ, zero, suc, ◌+◌, false, eqb, List, [], ◌∷◌, length, drop, refl, sym, ap, ◌∙◌, subst, arith, inl, inr}
use Rattle.std.specs.List.{slice_index_or}
use Rattle.std.proofs.lemmas.Bool.{cases_Bool}
use Rattle.mm_model.specs.Words.{Word, word, words_from, put_before, is_white}
use Rattle.mm_model.proofs.WordLaws.{StandsPast, words_from-StandsPast, put_before-apart, put_before-joined}
use Rattle.mm_model.proofs.Scopes.{cond_then, cond_else}
use Rattle.install_model.specs.Installed.{byte_behind}
use Rattle.install_laws.proofs.WordLaws.{EndsWord, from_white, from_ink}

abbrev pub word_at : List Word → ℕ → Word
word_at ws i = slice_index_or ws i (word 0 [])

-- behind the word of a number: so many bytes, behind which a word can end and the other words stand
pub record Cut (at : ℕ) (bytes : List ℕ) (ws : List Word) (i : ℕ) : Type 0 where
  pub count : ℕ
  pub within : count ≤ length bytes
  pub byte : byte_behind (word_at ws i) ≡ at + count
  pub ends : EndsWord (drop count bytes)
  pub rest : words_from (at + count) (drop count bytes) ≡ drop (suc i) ws

-- one byte more
one_more : (at b : ℕ) (bs : List ℕ) (ws vs : List Word) (i j : ℕ) → word_at vs j ≡ word_at ws i → drop (suc j) vs ≡ drop (suc i) ws → Cut (suc at) bs ws i → Cut at (b ∷ bs) vs j
one_more at b bs ws vs i j same rest c =
    let next : suc at + c.count ≡ at + suc c.count = omega arith in
    let in_all : suc c.count ≤ suc (length bs) = let h = c.within in omega (arith, h) in
    record {
      count = suc c.count;
      within = in_all;
      byte = ap byte_behind same ∙ c.byte ∙ next;
      ends = c.ends;
      rest = subst (λ (k : ℕ). words_from k (drop c.count bs) ≡ drop (suc j) vs) next (c.rest ∙ sym rest);
    }

-- a longer word
longer : (at b : ℕ) (bs : List ℕ) (ws : List Word) (i : ℕ) (w : Word) (tail : List Word) → ws ≡ w ∷ tail → w.start ≡ suc at → Cut (suc at) bs ws i
    → Cut at (b ∷ bs) (word at (b ∷ w.bytes) ∷ tail) i
longer at b bs ws zero w tail e s c =
    let next : suc at + c.count ≡ at + suc c.count = omega arith in
    let in_all : suc c.count ≤ suc (length bs) = let h = c.within in omega (arith, h) in
    let first : w.start + length w.bytes ≡ suc at + c.count = sym (ap (λ (xs : List Word). byte_behind (word_at xs 0)) e) ∙ c.byte in
    let behind_is : at + suc (length w.bytes) ≡ at + suc c.count = omega (arith, first, s) in
    record {
      count = suc c.count;
      within = in_all;
      byte = behind_is;
      ends = c.ends;
      rest = subst (λ (k : ℕ). words_from k (drop c.count bs) ≡ tail) next (c.rest ∙ ap (λ (xs : List Word). drop 1 xs) e);
    }
longer at b bs ws (suc i) w tail e s c =
    one_more at b bs ws (word at (b ∷ w.bytes) ∷ tail) (suc i) (suc i) (ap (λ (xs : List Word). word_at xs (suc i)) (sym e))
    (ap (λ (xs : List Word). drop (suc (suc i)) xs) (sym e)) c

-- a word of one byte, and then others
alone : (at b : ℕ) (bs : List ℕ) (i : ℕ) → EndsWord bs → ((j : ℕ) → j < length (words_from (suc at) bs) → Cut (suc at) bs (words_from (suc at) bs) j)
    → i < suc (length (words_from (suc at) bs)) → Cut at (b ∷ bs) (word at (b ∷ []) ∷ words_from (suc at) bs) i
alone at b bs zero ends more h =
    let one : at + 1 ≡ suc at = omega arith in
    let in_all : 1 ≤ suc (length bs) = omega arith in
    record { count = 1; within = in_all; byte = refl; ends = ends; rest = ap (λ (k : ℕ). words_from k bs) one }
alone at b bs (suc j) ends more h = one_more at b bs (words_from (suc at) bs) (word at (b ∷ []) ∷ words_from (suc at) bs) j (suc j) refl refl (more j (omega (arith, h)))

pub cut : (bytes : List ℕ) (at i : ℕ) → i < length (words_from at bytes) → Cut at bytes (words_from at bytes) i
cut [] at i h = absurd (omega (arith, h))
cut (b ∷ bs) at i h = elim (cases_Bool (is_white b)) [
  | inl e ↦
      let is = from_white at b bs e in
      let within : i < length (words_from (suc at) bs) = subst (λ (ws : List Word). i < length ws) is h in
      subst (λ (ws : List Word). Cut at (b ∷ bs) ws i) (sym is) (one_more at b bs (words_from (suc at) bs) (words_from (suc at) bs) i i refl refl (cut bs (suc at) i within))
  | inr e ↦
      let is = from_ink at b bs e in
      subst (λ (ws : List Word). Cut at (b ∷ bs) ws i) (sym is) (ink bs (subst (λ (ws : List Word). i < length ws) is h) (λ j l. cut bs (suc at) j l))
]
  where
    ink : (cs : List ℕ) → i < length (put_before at b (words_from (suc at) cs)) → ((j : ℕ) → j < length (words_from (suc at) cs) → Cut (suc at) cs (words_from (suc at) cs) j)
        → Cut at (b ∷ cs) (put_before at b (words_from (suc at) cs)) i
    ink [] l more = alone at b [] i tt more l
    ink (c ∷ cs) l more = elim (cases_Bool (is_white c)) [
      | inl e ↦
          let past : StandsPast (suc at) (words_from (suc at) (c ∷ cs)) =
          subst (StandsPast (suc at)) (sym (from_white (suc at) c cs e)) (words_from-StandsPast (suc at) (suc (suc at)) cs (omega arith)) in
          let is = put_before-apart at b (words_from (suc at) (c ∷ cs)) past in
          subst (λ (ws : List Word). Cut at (b ∷ c ∷ cs) ws i) (sym is) (alone at b (c ∷ cs) i e more (subst (λ (ws : List Word). i < length ws) is l))
      | inr e ↦
          let first = first_is c cs e in
          let is : put_before at b (words_from (suc at) (c ∷ cs)) ≡ word at (b ∷ first.0) ∷ first.1 =
          ap (put_before at b) first.2 ∙ put_before-joined at b first.0 first.1 in
          let same : length (put_before at b (words_from (suc at) (c ∷ cs))) ≡ length (words_from (suc at) (c ∷ cs)) =
          ap length is ∙ sym (ap length first.2) in
          let within : i < length (words_from (suc at) (c ∷ cs)) = omega (arith, same, l) in
          subst (λ (ws : List Word). Cut at (b ∷ c ∷ cs) ws i) (sym is)
          (longer at b (c ∷ cs) (words_from (suc at) (c ∷ cs)) i (word (suc at) first.0) first.1 first.2 refl (more i within))
    ]
      where
        first_is : (d : ℕ) (ds : List ℕ) → is_white d ≡ false → (bytes : List ℕ) × (tail : List Word) × (words_from (suc at) (d ∷ ds) ≡ word (suc at) bytes ∷ tail)
        first_is d ds e = by (words_from (suc (suc at)) ds) (from_ink (suc at) d ds e)
          where
            by : (ws : List Word) → words_from (suc at) (d ∷ ds) ≡ put_before (suc at) d ws
                → (bytes : List ℕ) × (tail : List Word) × (words_from (suc at) (d ∷ ds) ≡ word (suc at) bytes ∷ tail)
            by [] k = (d ∷ [], [], k)
            by (w ∷ ws) k = elim (cases_Bool (eqb w.start (suc (suc at)))) [
              | inl t ↦ (d ∷ w.bytes, ws, k ∙ cond_then (eqb w.start (suc (suc at))) (word (suc at) (d ∷ w.bytes) ∷ ws) (word (suc at) (d ∷ []) ∷ w ∷ ws) t)
              | inr t ↦ (d ∷ [], w ∷ ws, k ∙ cond_else (eqb w.start (suc (suc at))) (word (suc at) (d ∷ w.bytes) ∷ ws) (word (suc at) (d ∷ []) ∷ w ∷ ws) t)
            ]
