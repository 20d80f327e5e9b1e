-- Lines of tokens that are parted by one space.
use Rattle.std.proofs.Common.{◌≡◌, ℕ, Bool, true, false, eqb, List, [], ◌∷◌, ◌++◌, Option, Some, None, refl, sym, ap, ◌∙◌, append-nil, codes, slice_get}
use Rattle.std.specs.Option.{option_map_or}
use Rattle.std.specs.List.{list_all, last_or}
use Rattle.std.specs.Str.{bytes_eq}
use Rattle.sheet_text.specs.Lines.{line, tokens, first_is_not_white}
use Rattle.sheet_text.specs.Layout.{spaced}
use Rattle.sheet_text.specs.Spellable.{is_token, is_comment_line}
use Rattle.sheet_text.specs.SheetStatements.{tokens_in, is_word, opens_with, starts_with_star}
use Rattle.sheet_laws.proofs.Tests.{and_left, and_right, both_true, true_not, not_true, or_left, or_right, all_more}
use Rattle.sheet_laws.proofs.SplitLaws.{is_not, has_no, is_inked, all_joined}
use Rattle.sheet_laws.proofs.WordLaws.{tokens_at-spaced}
use Rattle.sheet_laws.proofs.StatementLaws.{Piece, statement_at, IsWhole}

abbrev pub ends_inked : Option ℕ → List ℕ → Bool
ends_inked o bytes = option_map_or is_inked (last_or o bytes) false

pub last_or-append : {A : Type 0} (o : Option A) (xs : List A) (y : A) (ys : List A) → last_or o (xs ++ y ∷ ys) ≡ last_or (Some y) ys
last_or-append o [] y ys = refl
last_or-append o (x ∷ xs) y ys = last_or-append (Some x) xs y ys

token_ends : (o : Option ℕ) (b : ℕ) (bs : List ℕ) → list_all is_inked (b ∷ bs) ≡ true → ends_inked o (b ∷ bs) ≡ true
token_ends o b [] h = and_left _ _ h
token_ends o b (c ∷ cs) h = token_ends (Some b) c cs (and_right _ _ h)

spaced_ends : (o : Option ℕ) (t : List ℕ) (ts : List (List ℕ)) → list_all is_token (t ∷ ts) ≡ true → ends_inked o (spaced (t ∷ ts)) ≡ true
spaced_ends o [] ts h = absurd (cc)
spaced_ends o (b ∷ bs) [] h = token_ends o b bs (and_right _ _ (and_left _ _ h))
spaced_ends o (b ∷ bs) (u ∷ us) h = ap (λ r. option_map_or is_inked r false) (last_or-append o (b ∷ bs) 32 (spaced (u ∷ us))) ∙ spaced_ends (Some 32) u us (and_right _ _ h)

pub inked_no_end : (b : ℕ) → is_inked b ≡ true → is_not 10 b ≡ true
inked_no_end b h = not_true _ (or_right _ _ (or_left _ _ (true_not _ h)))

spaced_no_end : (ts : List (List ℕ)) → list_all is_token ts ≡ true → has_no 10 (spaced ts) ≡ true
spaced_no_end ts h = all_joined (is_not 10) 32 refl ts (all_more is_token (has_no 10) (λ t k. all_more is_inked (is_not 10) inked_no_end t (and_right _ _ k)) ts h)

spaced_begins : (t : List ℕ) (ts : List (List ℕ)) → list_all is_token (t ∷ ts) ≡ true → first_is_not_white (spaced (t ∷ ts)) ≡ true
spaced_begins [] ts h = absurd (cc)
spaced_begins (b ∷ bs) [] h = and_left _ _ (and_right _ _ (and_left _ _ h))
spaced_begins (b ∷ bs) (u ∷ us) h = and_left _ _ (and_right _ _ (and_left _ _ h))

pub star_spaced : (b : ℕ) (bs : List ℕ) (ts : List (List ℕ)) → starts_with_star (spaced ((b ∷ bs) ∷ ts)) ≡ eqb b 42
star_spaced b bs [] = refl
star_spaced b bs (u ∷ us) = refl

-- ---- a statement of one line

abbrev pub spoken : List (List ℕ) → Piece
spoken ts = record { opening = spaced ts; more = [] }

pub tokens-spoken : (n : ℕ) (ts : List (List ℕ)) → list_all is_token ts ≡ true → tokens_in (statement_at n (spoken ts)) ≡ ts
tokens-spoken n ts h = append-nil (tokens (line n (spaced ts))) ∙ tokens_at-spaced 0 ts h

pub word-spoken : (w : List ℕ) (n : ℕ) (t : List ℕ) (ts : List (List ℕ)) → list_all is_token (t ∷ ts) ≡ true → opens_with w (statement_at n (spoken (t ∷ ts))) ≡ bytes_eq t w
word-spoken w n t ts h = ap (λ l. is_word w (slice_get l 0)) (tokens-spoken n (t ∷ ts) h)

pub other_word : (b : ℕ) (bs : List ℕ) (c : ℕ) (cs : List ℕ) → eqb b c ≡ false → bytes_eq (b ∷ bs) (c ∷ cs) ≡ false
other_word b bs c cs e = rw e refl

-- what the lines of a statement have to be, so that they are read as they are
pub record IsLaid (p : Piece) : Type 0 where
  pub lines : list_all is_comment_line (p.opening ∷ p.more) ≡ true
  pub whole : (n : ℕ) → IsWhole (statement_at n p)

pub laid-spoken : (t : List ℕ) (ts : List (List ℕ)) → list_all is_token (t ∷ ts) ≡ true → bytes_eq t (codes "$=") ≡ false → IsLaid (spoken (t ∷ ts))
laid-spoken t ts h e = record {
  lines = both_true _ _ (both_true _ _ (spaced_ends None t ts h) (spaced_no_end (t ∷ ts) h)) refl;
  whole = λ n. record {
    opening = spaced_begins t ts h;
    more = refl;
    proof = λ o. let k : bytes_eq t (codes "$=") ≡ true = sym (ap (λ l. is_word (codes "$=") (slice_get l 0)) (tokens_at-spaced 0 (t ∷ ts) h)) ∙ and_right _ _ o in absurd (cc);
  };
}
