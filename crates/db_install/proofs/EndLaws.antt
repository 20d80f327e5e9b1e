-- The byte behind the statement before a place is found from where that statement begins.
use Rattle.std.proofs.Common.{◌≡◌, ◌<◌, ◌≤◌, ℕ, zero, suc, ◌+◌, ◌-◌, Bool, true, false, not, cond, eqb, List, [], ◌∷◌, ◌++◌, length, drop, Option}
use Rattle.std.proofs.Common.{Some, None, refl, sym, ap, subst, ◌∙◌, inl, inr, arith}
use Rattle.std.specs.Prelude.{map, option_map, unwrap_or, slice_get}
use Rattle.std.specs.List.{last_or, slice_index_or}
use Rattle.std.specs.Option.{option_map_or}
use Rattle.std.proofs.lemmas.Bool.{cases_Bool}
use Rattle.mm_model.specs.Names.{Name}
use Rattle.mm_model.specs.Words.{Word, word, words, words_from, put_before, is_white}
use Rattle.mm_model.specs.Tokens.{tokens, tokens_where, is_open_comment, is_close_comment}
use Rattle.mm_model.specs.Statements.{Statement, ends_statement, statements}
use Rattle.mm_model.specs.Frames.{symbols}
use Rattle.frame_lists.specs.declared.entry.Entry.{Entry}
use Rattle.frame_lists.specs.Entries.{entry_in, first_byte}
use Rattle.mm_frames.specs.Contents.{contents_of, place_byte as start_byte}
use Rattle.install_model.specs.Installed.{byte_behind, place_byte}
use Rattle.install_laws.proofs.Forward.{split, split-end, split-on, statements_forward}
use Rattle.install_laws.proofs.WordLaws.{from_white, from_ink}
use Rattle.db_install.specs.Ends.{end_from}

-- ---- among the tokens

abbrev end_among : List Word → ℕ
end_among [] = 0
end_among (w ∷ ws) = cond (ends_statement w) (byte_behind w) (end_among ws)

end_from-tokens : (c : Bool) (ws : List Word) → end_from c ws ≡ end_among (tokens_where c ws)
end_from-tokens true [] = refl
end_from-tokens false [] = refl
end_from-tokens true (w ∷ ws) = end_from-tokens (not (is_close_comment w)) ws
end_from-tokens false (w ∷ ws) = elim (cases_Bool (is_open_comment w)) [
  | inl e ↦ rw e (end_from-tokens true ws)
  | inr e ↦ rw e (ap (λ n. cond (ends_statement w) (byte_behind w) n) (end_from-tokens false ws))
]

abbrev byte_of : Statement → ℕ
byte_of s = option_map_or byte_behind (last_or None s) 0

last_of : (o : Option Word) (s : Statement) (w : Word) → last_or o (s ++ w ∷ []) ≡ Some w
last_of o [] w = refl
last_of o (v ∷ s) w = last_of (Some v) s w

-- the first statement among tokens ends at the first token that ends one
first_ends : (front : Statement) (ws : List Word) → end_among ws ≡ byte_of (slice_index_or (split front ws) 0 [])
first_ends front [] = refl
first_ends front (w ∷ ws) = elim (cases_Bool (ends_statement w)) [
  | inl e ↦ rw e (ap (λ (o : Option Word). option_map_or byte_behind o 0) (sym (last_of None front w)))
  | inr e ↦ rw e (first_ends (front ++ w ∷ []) ws)
]

-- and begins with the token that it goes on from
first_begins : (v : Word) (front : Statement) (ws : List Word) → 0 < length (split (v ∷ front) ws) → first_byte (slice_index_or (split (v ∷ front) ws) 0 []) ≡ v.start
first_begins v front [] h = absurd (omega (arith, h))
first_begins v front (w ∷ ws) h = elim (cases_Bool (ends_statement w)) [
  | inl e ↦ ap (λ (ss : List Statement). first_byte (slice_index_or ss 0 [])) (split-end (v ∷ front) w ws e)
  | inr e ↦
      let is = split-on (v ∷ front) w ws e in
      ap (λ (ss : List Statement). first_byte (slice_index_or ss 0 [])) is ∙ first_begins v (front ++ w ∷ []) ws (subst (λ (ss : List Statement). 0 < length ss) is h)
]

-- the tokens from a statement on: it begins with the first of them, and ends with the first that ends one
record From (ts : List Word) (s : Statement) : Type 0 where
  pub front : List Word
  pub first : Word
  pub rest : List Word
  pub parts : ts ≡ front ++ first ∷ rest
  pub begins : first_byte s ≡ first.start
  pub ends : end_among (first ∷ rest) ≡ byte_of s

further : (w : Word) (ts : List Word) (s : Statement) → From ts s → From (w ∷ ts) s
further w ts s h = record { front = w ∷ h.front; first = h.first; rest = h.rest; parts = ap (λ xs. w ∷ xs) h.parts; begins = h.begins; ends = h.ends }

begin_here : (w : Word) (ws : List Word) → 0 < length (split [] (w ∷ ws)) → first_byte (slice_index_or (split [] (w ∷ ws)) 0 []) ≡ w.start
begin_here w ws h = elim (cases_Bool (ends_statement w)) [
  | inl e ↦ ap (λ (ss : List Statement). first_byte (slice_index_or ss 0 [])) (split-end [] w ws e)
  | inr e ↦
      let is = split-on [] w ws e in
      ap (λ (ss : List Statement). first_byte (slice_index_or ss 0 [])) is ∙ first_begins w [] ws (subst (λ (ss : List Statement). 0 < length ss) is h)
]

from_first : (ts : List Word) → 0 < length (split [] ts) → From ts (slice_index_or (split [] ts) 0 [])
from_first [] h = absurd (omega (arith, h))
from_first (w ∷ ws) h = record { front = []; first = w; rest = ws; parts = refl; begins = begin_here w ws h; ends = first_ends [] (w ∷ ws) }

from_next : (n : ℕ) → ((ts : List Word) → n < length (split [] ts) → From ts (slice_index_or (split [] ts) n [])) → (front : Statement) (ts : List Word)
    → suc n < length (split front ts) → From ts (slice_index_or (split front ts) (suc n) [])
from_next n more front [] h = absurd (omega (arith, h))
from_next n more front (w ∷ ws) h = elim (cases_Bool (ends_statement w)) [
  | inl e ↦
      let is = split-end front w ws e in
      let within : suc n < suc (length (split [] ws)) = subst (λ (ss : List Statement). suc n < length ss) is h in
      subst (λ (ss : List Statement). From (w ∷ ws) (slice_index_or ss (suc n) [])) (sym is) (further w ws (slice_index_or (split [] ws) n []) (more ws (omega (arith, within))))
  | inr e ↦
      let is = split-on front w ws e in
      subst (λ (ss : List Statement). From (w ∷ ws) (slice_index_or ss (suc n) [])) (sym is)
      (further w ws (slice_index_or (split (front ++ w ∷ []) ws) (suc n) []) (from_next n more (front ++ w ∷ []) ws (subst (λ (ss : List Statement). suc n < length ss) is h)))
]

from_number : (n : ℕ) (ts : List Word) → n < length (split [] ts) → From ts (slice_index_or (split [] ts) n [])
from_number zero ts h = from_first ts h
from_number (suc n) ts h = from_next n (from_number n) [] ts h

-- ---- among the words

-- the words from a token on
record FromToken (ws : List Word) (t : Word) (ts : List Word) : Type 0 where
  pub front : List Word
  pub rest : List Word
  pub parts : ws ≡ front ++ t ∷ rest
  pub tokens_are : tokens_where false (t ∷ rest) ≡ t ∷ ts

word_further : (w : Word) (ws : List Word) (t : Word) (ts : List Word) → FromToken ws t ts → FromToken (w ∷ ws) t ts
word_further w ws t ts h = record { front = w ∷ h.front; rest = h.rest; parts = ap (λ xs. w ∷ xs) h.parts; tokens_are = h.tokens_are }

first_same : (x y : Word) (xs ys : List Word) → x ∷ xs ≡ y ∷ ys → x ≡ y
first_same x y xs ys e = cc

rest_same : (x y : Word) (xs ys : List Word) → x ∷ xs ≡ y ∷ ys → xs ≡ ys
rest_same x y xs ys e = cc

is_token : (w : Word) (ws : List Word) → is_open_comment w ≡ false → tokens_where false (w ∷ ws) ≡ w ∷ tokens_where false ws
is_token w ws e = rw e refl

-- a word that is a token is the one that is looked for, or before it
token_here : (w t : Word) (ws ts f : List Word) → ((g : List Word) → tokens_where false ws ≡ g ++ t ∷ ts → FromToken ws t ts) → is_open_comment w ≡ false
    → w ∷ tokens_where false ws ≡ f ++ t ∷ ts → FromToken (w ∷ ws) t ts
token_here w t ws ts [] more e h =
    let is = first_same w t (tokens_where false ws) ts h in
    let tail = rest_same w t (tokens_where false ws) ts h in
    record { front = []; rest = ws; parts = ap (λ x. x ∷ ws) is; tokens_are = subst (λ x. tokens_where false (x ∷ ws) ≡ x ∷ ts) is (is_token w ws e ∙ ap (λ xs. w ∷ xs) tail) }
token_here w t ws ts (g ∷ f) more e h = word_further w ws t ts (more f (rest_same w g (tokens_where false ws) (f ++ t ∷ ts) h))

from_token : (c : Bool) (ws front : List Word) (t : Word) (ts : List Word) → tokens_where c ws ≡ front ++ t ∷ ts → FromToken ws t ts
from_token true [] [] t ts h = absurd (cc)
from_token true [] (f ∷ front) t ts h = absurd (cc)
from_token false [] [] t ts h = absurd (cc)
from_token false [] (f ∷ front) t ts h = absurd (cc)
from_token true (w ∷ ws) front t ts h = word_further w ws t ts (from_token (not (is_close_comment w)) ws front t ts h)
from_token false (w ∷ ws) front t ts h = elim (cases_Bool (is_open_comment w)) [
  | inl e ↦ word_further w ws t ts (from_token true ws front t ts (rw e at h))
  | inr e ↦ token_here w t ws ts front (λ g k. from_token false ws g t ts k) e (rw e at h)
]

-- ---- in the text

-- a word of a text begins within it, and it and the words behind it are those of the text from there on
record IsFrom (at : ℕ) (bytes : List ℕ) (w : Word) (ws : List Word) : Type 0 where
  pub count : ℕ
  pub within : count ≤ length bytes
  pub byte : w.start ≡ at + count
  pub rest : words_from (at + count) (drop count bytes) ≡ w ∷ ws

byte_further : (at b : ℕ) (bs : List ℕ) (w : Word) (ws : List Word) → IsFrom (suc at) bs w ws → IsFrom at (b ∷ bs) w ws
byte_further at b bs w ws h =
    let next : suc at + h.count ≡ at + suc h.count = omega arith in
    let in_all : suc h.count ≤ suc (length bs) = let k = h.within in omega (arith, k) in
    record { count = suc h.count; within = in_all; byte = h.byte ∙ next; rest = subst (λ (n : ℕ). words_from n (drop h.count bs) ≡ w ∷ ws) next h.rest }

module _ (at b : ℕ) (bs : List ℕ) (w : Word) (ws : List Word) where
  starts : (vs : List Word) → put_before at b vs ≡ w ∷ ws → w.start ≡ at
  starts [] k = ap (λ (x : Word). x.start) (sym (first_same (word at (b ∷ [])) w [] ws k))
  starts (v ∷ vs) k = elim (cases_Bool (eqb v.start (suc at))) [
    | inl e ↦ ap (λ (x : Word). x.start) (sym (first_same (word at (b ∷ v.bytes)) w vs ws (rw e at k)))
    | inr e ↦ ap (λ (x : Word). x.start) (sym (first_same (word at (b ∷ [])) w (v ∷ vs) ws (rw e at k)))
  ]

  behind : (f : Word) (fs vs : List Word) → put_before at b vs ≡ f ∷ (fs ++ w ∷ ws) → (gs : List Word) × (vs ≡ gs ++ w ∷ ws)
  behind f [] [] k = absurd (cc)
  behind f (g ∷ fs) [] k = absurd (cc)
  behind f fs (v ∷ vs) k = elim (cases_Bool (eqb v.start (suc at))) [
    | inl e ↦ (v ∷ fs, ap (λ xs. v ∷ xs) (rest_same (word at (b ∷ v.bytes)) f vs (fs ++ w ∷ ws) (rw e at k)))
    | inr e ↦ (fs, rest_same (word at (b ∷ [])) f (v ∷ vs) (fs ++ w ∷ ws) (rw e at k))
  ]

  -- a byte of a word stands before the word that is looked for, or is its first
  byte_here : ((g : List Word) → words_from (suc at) bs ≡ g ++ w ∷ ws → IsFrom (suc at) bs w ws) → words_from at (b ∷ bs) ≡ put_before at b (words_from (suc at) bs)
      → (fs : List Word) → put_before at b (words_from (suc at) bs) ≡ fs ++ w ∷ ws → IsFrom at (b ∷ bs) w ws
  byte_here more is [] k =
      let none : at ≡ at + 0 = omega arith in
      let in_all : 0 ≤ suc (length bs) = omega arith in
      record {
        count = 0;
        within = in_all;
        byte = starts (words_from (suc at) bs) k ∙ none;
        rest = subst (λ (n : ℕ). words_from n (b ∷ bs) ≡ w ∷ ws) none (is ∙ k);
      }
  byte_here more is (f ∷ fs) k = let r = behind f fs (words_from (suc at) bs) k in byte_further at b bs w ws (more r.0 r.1)

from_word : (bs : List ℕ) (at : ℕ) (front : List Word) (w : Word) (ws : List Word) → words_from at bs ≡ front ++ w ∷ ws → IsFrom at bs w ws
from_word [] at [] w ws h = absurd (cc)
from_word [] at (f ∷ front) w ws h = absurd (cc)
from_word (b ∷ bs) at front w ws h = elim (cases_Bool (is_white b)) [
  | inl e ↦ byte_further at b bs w ws (from_word bs (suc at) front w ws (sym (from_white at b bs e) ∙ h))
  | inr e ↦ byte_here at b bs w ws (λ g k. from_word bs (suc at) g w ws k) (from_ink at b bs e) front (sym (from_ink at b bs e) ∙ h)
]

-- ---- the law

-- a statement begins within the text, and is behind its first word followed up to its end
pub record IsFound (text : List ℕ) (number : ℕ) : Type 0 where
  pub within : first_byte (slice_index_or (statements text) number []) ≤ length text
  pub ends : end_from false (words_from (first_byte (slice_index_or (statements text) number [])) (drop (first_byte (slice_index_or (statements text) number [])) text))
      ≡ place_byte (statements text) (suc number)

pub is_found : (text : List ℕ) (number : ℕ) → number < length (statements text) → IsFound text number
is_found text number h =
    let forward = statements_forward text in
    let s = slice_index_or (statements text) number [] in
    let inside : number < length (split [] (tokens text)) = subst (λ (ss : List Statement). number < length ss) forward h in
    let from : From (tokens text) s = subst (λ (ss : List Statement). From (tokens text) (slice_index_or ss number [])) (sym forward) (from_number number (tokens text) inside) in
    let at_word = from_token false (words text) from.front from.first from.rest from.parts in
    let at_byte = from_word text 0 at_word.front from.first at_word.rest at_word.parts in
    let byte : first_byte s ≡ at_byte.count = from.begins ∙ at_byte.byte ∙ zero_plus at_byte.count in
    let words_are : words_from at_byte.count (drop at_byte.count text) ≡ from.first ∷ at_word.rest =
    subst (λ (n : ℕ). words_from n (drop at_byte.count text) ≡ from.first ∷ at_word.rest) (zero_plus at_byte.count) at_byte.rest in
    let ends : end_from false (from.first ∷ at_word.rest) ≡ byte_of s = end_from-tokens false (from.first ∷ at_word.rest) ∙ ap end_among at_word.tokens_are ∙ from.ends in
    record {
      within = subst (λ (n : ℕ). n ≤ length text) (sym byte) at_byte.within;
      ends = subst (λ (n : ℕ). end_from false (words_from n (drop n text)) ≡ byte_of s) (sym byte) (ap (λ ws. end_from false ws) words_are ∙ ends);
    }
  where
    zero_plus : (n : ℕ) → 0 + n ≡ n
    zero_plus n = omega arith

-- where the frames of a text say that it begins
start_of : (names : List Name) (size : ℕ) (ss : List Statement) (n : ℕ) → n < length ss
    → unwrap_or (option_map (λ (x : Entry). x.start) (slice_get (map (entry_in names) ss) n)) size ≡ first_byte (slice_index_or ss n [])
start_of names size [] n h = absurd (omega (arith, h))
start_of names size (s ∷ ss) zero h = refl
start_of names size (s ∷ ss) (suc n) h = start_of names size ss n (omega (arith, h))

pub starts_there : (text : List ℕ) (number : ℕ) → number < length (statements text) → start_byte (contents_of text) number ≡ first_byte (slice_index_or (statements text) number [])
starts_there text number h = start_of (symbols (statements text)) (length text) (statements text) number h

-- ---- the loop

-- the end from here on is the end that is looked for
pub record Goes (in_comment : Bool) (ws : List Word) (end : ℕ) : Type 0 where
  pub eq : end_from in_comment ws ≡ end
