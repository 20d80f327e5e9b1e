-- What the statements of a layout are.
use Rattle.std.proofs.Common.{◌≡◌, ℕ, suc, true, false, cond, not, eqb, ltb, List, [], ◌∷◌, ◌++◌, length, map, Option, Some, None, refl, sym, ap, ◌∙◌}
use Rattle.std.proofs.Common.{subst, append-nil, codes, slice_get, unwrap_or}
use Rattle.std.specs.Prelude.{flat_map}
use Rattle.std.specs.Option.{option_map_or}
use Rattle.std.specs.List.{list_all, list_any, last_or}
use Rattle.std.specs.Str.{bytes_eq}
use Rattle.mm_model.specs.Labels.{is_label_byte, is_label}
use Rattle.mm_model.specs.Words.{Word, word, words_from, put_before}
use Rattle.sheet_text.specs.declared.sheet.SheetStep.{SheetStep}
use Rattle.sheet_text.specs.Forms.{StepForm, step_of}
use Rattle.sheet_text.specs.Lines.{Line, line, tokens, first_is_not_white, begins}
use Rattle.sheet_text.specs.Layout.{spaced, step_token}
use Rattle.sheet_text.specs.Spellable.{is_token, is_comment_line, is_comment_spellable}
use Rattle.sheet_text.specs.SheetStatements.{Statement, tokens_in, is_word, opens_proof, ends_proof, starts_with_star, is_comment, is_footer, is_distinct, is_proof}
use Rattle.sheet_text.specs.TextFaults.{step_in, is_end, without_end, symbols_of, is_bad_distinct}
use Rattle.sheet_laws.proofs.Tests.{and_left, and_right, both_true, not_true, or_left, or_right, cond_else, differs, same_number, not_empty}
use Rattle.sheet_laws.proofs.SplitLaws.{is_not, has_no, is_inked, all_joined, label_token}
use Rattle.sheet_laws.proofs.WordLaws.{tokens_at, tokens_at-parted, tokens_at-token}
use Rattle.sheet_laws.proofs.LineLaws.{plain_from}
use Rattle.sheet_laws.proofs.StatementLaws.{Piece, statement_at}
use Rattle.sheet_laws.proofs.FormLaws.{IsWritable, form_of, header_tokens, more_header_tokens, step_of-token, BeginsAsLabel, step_token-begins, step_token-is_token}
use Rattle.sheet_laws.proofs.SpokenLaws.{last_or-append, spoken, tokens-spoken, word-spoken, other_word, star_spaced, IsLaid, laid-spoken}

pub record IsStep (s : Statement) (f : StepForm) : Type 0 where
  pub plain : is_comment s ≡ false
  pub form : step_in s ≡ Some f
  pub footer : is_footer s ≡ false
  pub distinct : is_distinct s ≡ false
  pub proof : is_proof s ≡ false

pub record IsNote (s : Statement) : Type 0 where
  pub comment : is_comment s ≡ true
  pub footer : is_footer s ≡ false
  pub distinct : is_distinct s ≡ false
  pub proof : is_proof s ≡ false

pub record IsDistinct (s : Statement) (names : List (List ℕ)) : Type 0 where
  pub plain : is_comment s ≡ false
  pub form : step_in s ≡ None
  pub footer : is_footer s ≡ false
  pub distinct : is_distinct s ≡ true
  pub proof : is_proof s ≡ false
  pub symbols : symbols_of (tokens_in s) ≡ names

pub record IsProofLine (s : Statement) : Type 0 where
  pub plain : is_comment s ≡ false
  pub form : step_in s ≡ None
  pub footer : is_footer s ≡ false
  pub distinct : is_distinct s ≡ false
  pub proof : is_proof s ≡ true
  pub ends : ends_proof s.opening ≡ true

pub record IsFooterLine (s : Statement) : Type 0 where
  pub plain : is_comment s ≡ false
  pub form : step_in s ≡ None
  pub footer : is_footer s ≡ true
  pub distinct : is_distinct s ≡ false
  pub alone : ltb 1 (length (tokens s.opening)) ≡ false

-- ---- steps

abbrev pub step_piece : List (List ℕ) → SheetStep → Piece
step_piece names s = spoken (step_token names s ∷ s.formula)

step_tokens : (names : List (List ℕ)) (s : SheetStep) → IsWritable names s → list_all is_token (step_token names s ∷ s.formula) ≡ true
step_tokens names s w = both_true _ _ (step_token-is_token names s w) w.formula

label_word : (t : List ℕ) (c : ℕ) (cs : List ℕ) → BeginsAsLabel t → is_label_byte c ≡ false → bytes_eq t (c ∷ cs) ≡ false
label_word t c cs b h = ap (λ x. bytes_eq x (c ∷ cs)) b.is ∙ other_word b.byte b.rest c cs (differs is_label_byte b.byte c b.good h)

label_star : (t : List ℕ) (ts : List (List ℕ)) → BeginsAsLabel t → starts_with_star (spaced (t ∷ ts)) ≡ false
label_star t ts b = ap (λ x. starts_with_star (spaced (x ∷ ts))) b.is ∙ star_spaced b.byte b.rest ts ∙ differs is_label_byte b.byte 42 b.good refl

pub step-laid : (names : List (List ℕ)) (s : SheetStep) → IsWritable names s → IsLaid (step_piece names s)
step-laid names s w = laid-spoken (step_token names s) s.formula (step_tokens names s w) (label_word _ 36 (61 ∷ []) (step_token-begins names s w.name) refl)

pub step-is : (names : List (List ℕ)) (s : SheetStep) (n : ℕ) → IsWritable names s → IsStep (statement_at n (step_piece names s)) (form_of names s)
step-is names s n w =
    let b = step_token-begins names s w.name in
    let h = step_tokens names s w in
    let plain : is_comment (statement_at n (step_piece names s)) ≡ false = label_star _ s.formula b in
    record {
      plain = plain;
      form = cond_else (is_comment (statement_at n (step_piece names s))) _ _ plain ∙ ap step_of (tokens-spoken n (step_token names s ∷ s.formula) h) ∙ step_of-token names s w;
      footer = word-spoken (codes "$)") n _ s.formula h ∙ label_word _ 36 (41 ∷ []) b refl;
      distinct = word-spoken (codes "$d") n _ s.formula h ∙ label_word _ 36 (100 ∷ []) b refl;
      proof = word-spoken (codes "$=") n _ s.formula h ∙ label_word _ 36 (61 ∷ []) b refl;
    }

-- ---- comments

abbrev pub comment_piece : List (List ℕ) → Piece
comment_piece [] = record { opening = []; more = [] }
comment_piece (l ∷ ls) = record { opening = l; more = ls }

-- the first word begins with the first byte
record FirstWord (ts : List (List ℕ)) (b : ℕ) : Type 0 where
  rest : List ℕ
  more : List (List ℕ)
  is : ts ≡ (b ∷ rest) ∷ more

put_first : (at b : ℕ) (ws : List Word) → FirstWord (map (λ (w : Word). w.bytes) (put_before at b ws)) b
put_first at b [] = record { rest = []; more = []; is = refl }
put_first at b (w ∷ ws) =
    elim (eqb w.start (suc at)) as (λ t. FirstWord (map (λ (w : Word). w.bytes) (cond t (word at (b ∷ w.bytes) ∷ ws) (word at (b ∷ []) ∷ w ∷ ws))) b) [
      | true ↦ record { rest = w.bytes; more = map (λ (w : Word). w.bytes) ws; is = refl }
      | false ↦ record { rest = []; more = w.bytes ∷ map (λ (w : Word). w.bytes) ws; is = refl }
    ]

star_word : (bs : List ℕ) → FirstWord (tokens_at 0 (42 ∷ bs)) 42
star_word bs = put_first 0 42 (words_from 1 bs)

star_opens : (w : ℕ) (ws : List ℕ) (n : ℕ) (bs : List ℕ) (ms : List Line) → eqb 42 w ≡ false → is_word (w ∷ ws) (slice_get (tokens (line n (42 ∷ bs)) ++ flat_map tokens ms) 0) ≡ false
star_opens w ws n bs ms e = let f = star_word bs in ap (λ (l : List (List ℕ)). is_word (w ∷ ws) (slice_get (l ++ flat_map tokens ms) 0)) f.is ∙ other_word 42 f.rest w ws e

star_no_proof : (n : ℕ) (bs : List ℕ) → opens_proof (line n (42 ∷ bs)) ≡ false
star_no_proof n bs = let f = star_word bs in ap (λ (l : List (List ℕ)). is_word (codes "$=") (slice_get l 0)) f.is ∙ other_word 42 f.rest 36 (61 ∷ []) refl

none_begins : (n : ℕ) (ls : List (List ℕ)) → list_all (λ m. not (first_is_not_white m)) ls ≡ true → list_all (λ m. not (begins m)) (plain_from n ls) ≡ true
none_begins n [] h = refl
none_begins n (l ∷ ls) h = both_true _ _ (and_left _ _ h) (none_begins (suc n) ls (and_right _ _ h))

star_laid : (bs : List ℕ) (ls : List (List ℕ)) → list_all is_comment_line ((42 ∷ bs) ∷ ls) ≡ true → list_all (λ m. not (first_is_not_white m)) ls ≡ true → IsLaid (comment_piece ((42 ∷ bs) ∷ ls))
star_laid bs ls h k = record {
  lines = h;
  whole = λ n. record { opening = refl; more = none_begins (suc n) ls k; proof = λ o. let e = star_no_proof n bs in absurd (cc) };
}

star_is : (n : ℕ) (bs : List ℕ) (ls : List (List ℕ)) → IsNote (statement_at n (comment_piece ((42 ∷ bs) ∷ ls)))
star_is n bs ls = record {
  comment = refl;
  footer = star_opens 36 (41 ∷ []) n bs (plain_from (suc n) ls) refl;
  distinct = star_opens 36 (100 ∷ []) n bs (plain_from (suc n) ls) refl;
  proof = star_opens 36 (61 ∷ []) n bs (plain_from (suc n) ls) refl;
}

pub comment-laid : (lines : List (List ℕ)) → is_comment_spellable lines ≡ true → IsLaid (comment_piece lines)
comment-laid [] h = absurd (cc)
comment-laid ([] ∷ ls) h = absurd (cc)
comment-laid ((b ∷ bs) ∷ ls) h =
    let e = same_number b 42 (and_left _ _ (and_left _ _ h)) in
    let k : list_all is_comment_line ((b ∷ bs) ∷ ls) ≡ true = and_right _ _ (and_left _ _ h) in
    let P : ℕ → Type 0 = λ c. IsLaid (comment_piece ((c ∷ bs) ∷ ls)) in
    subst P (sym e) (star_laid bs ls (subst (λ c. list_all is_comment_line ((c ∷ bs) ∷ ls) ≡ true) e k) (and_right _ _ h))

pub comment-is : (n : ℕ) (lines : List (List ℕ)) → is_comment_spellable lines ≡ true → IsNote (statement_at n (comment_piece lines))
comment-is n [] h = absurd (cc)
comment-is n ([] ∷ ls) h = absurd (cc)
comment-is n ((b ∷ bs) ∷ ls) h =
    let e = same_number b 42 (and_left _ _ (and_left _ _ h)) in
    let P : ℕ → Type 0 = λ c. IsNote (statement_at n (comment_piece ((c ∷ bs) ∷ ls))) in
    subst P (sym e) (star_is n bs ls)

-- ---- the proof

abbrev pub proof_piece : List ℕ → Piece
proof_piece proof = spoken (codes "$=" ∷ proof ∷ codes "$." ∷ [])

proof_tokens : (proof : List ℕ) → tokens_at 0 (spaced (codes "$=" ∷ proof ∷ codes "$." ∷ [])) ≡ codes "$=" ∷ (tokens_at 3 proof ++ codes "$." ∷ [])
proof_tokens proof =
    tokens_at-parted 0 (codes "$=") 32 (proof ++ 32 ∷ codes "$.") refl
    ∙ ap (λ (l : List (List ℕ)). codes "$=" ∷ l) (tokens_at-parted 3 proof 32 (codes "$.") refl ∙ ap (λ (l : List (List ℕ)). tokens_at 3 proof ++ l) (tokens_at-token _ (codes "$.") refl))

proof_ends : (n : ℕ) (proof : List ℕ) → ends_proof (line n (spaced (codes "$=" ∷ proof ∷ codes "$." ∷ []))) ≡ true
proof_ends n proof =
    ap (λ (l : List (List ℕ)). is_word (codes "$.") (last_or None l)) (proof_tokens proof)
    ∙ ap (is_word (codes "$.")) (last_or-append (Some (codes "$=")) (tokens_at 3 proof) (codes "$.") [])

pub proof_in : (n : ℕ) (proof : List ℕ) → tokens_in (statement_at n (proof_piece proof)) ≡ codes "$=" ∷ (tokens_at 3 proof ++ codes "$." ∷ [])
proof_in n proof = append-nil (tokens (line n (spaced (codes "$=" ∷ proof ∷ codes "$." ∷ [])))) ∙ proof_tokens proof

pub proof-laid : (proof : List ℕ) → has_no 10 proof ≡ true → IsLaid (proof_piece proof)
proof-laid proof h = record {
  lines = both_true _ _ (both_true _ _ (ap (λ r. option_map_or is_inked r false) (last_or-append (Some 32) proof 32 (36 ∷ 46 ∷ [])))
      (all_joined (is_not 10) 32 refl (codes "$=" ∷ proof ∷ codes "$." ∷ []) (both_true _ _ refl (both_true _ _ h refl)))) refl;
  whole = λ n. record { opening = refl; more = refl; proof = λ o. (proof_ends n proof, refl) };
}

pub proof-is : (n : ℕ) (proof : List ℕ) → IsProofLine (statement_at n (proof_piece proof))
proof-is n proof = record {
  plain = refl;
  form = ap step_of (proof_in n proof);
  footer = ap (λ (l : List (List ℕ)). is_word (codes "$)") (slice_get l 0)) (proof_in n proof);
  distinct = ap (λ (l : List (List ℕ)). is_word (codes "$d") (slice_get l 0)) (proof_in n proof);
  proof = ap (λ (l : List (List ℕ)). is_word (codes "$=") (slice_get l 0)) (proof_in n proof);
  ends = proof_ends n proof;
}

-- ---- a `$d` statement

abbrev pub pair_piece : List (List ℕ) → Piece
pair_piece names = spoken (codes "$d" ∷ names)

without_end-none : (ts : List (List ℕ)) → list_any is_end ts ≡ false → without_end ts ≡ ts
without_end-none [] h = refl
without_end-none (t ∷ []) h = cond_else (is_end t) _ _ (or_left _ _ h)
without_end-none (t ∷ u ∷ ts) h = ap (λ (l : List (List ℕ)). t ∷ l) (without_end-none (u ∷ ts) (or_right _ _ h))

pub pair-laid : (names : List (List ℕ)) → list_all is_token names ≡ true → IsLaid (pair_piece names)
pair-laid names h = laid-spoken (codes "$d") names h refl

pub pair-is : (n : ℕ) (names : List (List ℕ)) → list_all is_token names ≡ true → is_bad_distinct names ≡ false → IsDistinct (statement_at n (pair_piece names)) names
pair-is n names h k =
    let e = tokens-spoken n (codes "$d" ∷ names) h in
    let plain : is_comment (statement_at n (pair_piece names)) ≡ false = star_spaced 36 (100 ∷ []) names in
    record {
      plain = plain;
      form = cond_else (is_comment (statement_at n (pair_piece names))) _ _ plain ∙ ap step_of e;
      footer = word-spoken (codes "$)") n (codes "$d") names h;
      distinct = word-spoken (codes "$d") n (codes "$d") names h;
      proof = word-spoken (codes "$=") n (codes "$d") names h;
      symbols = ap symbols_of e ∙ without_end-none names (or_right _ _ k);
    }

-- ---- the header and the footer

abbrev pub footer_piece : Piece
footer_piece = spoken (codes "$)" ∷ [])

pub footer-laid : IsLaid footer_piece
footer-laid = laid-spoken (codes "$)") [] refl refl

pub footer-is : (n : ℕ) → IsFooterLine (statement_at n footer_piece)
footer-is n = record { plain = refl; form = refl; footer = refl; distinct = refl; alone = refl }

abbrev pub header_piece : List ℕ → Option (List ℕ) → Piece
header_piece theorem loc = spoken (header_tokens theorem loc)

loc_inked : (loc : Option (List ℕ)) → option_map_or is_label loc true ≡ true → list_all is_inked (unwrap_or loc (codes "?")) ≡ true
loc_inked None h = refl
loc_inked (Some l) h = and_right _ _ (label_token l h)

pub header-tokens : (theorem : List ℕ) (loc : Option (List ℕ)) → is_token theorem ≡ true → option_map_or is_label loc true ≡ true → list_all is_token (header_tokens theorem loc) ≡ true
header-tokens theorem loc h k =
    let first : is_token (codes "THEOREM=" ++ theorem) ≡ true = both_true _ _ (not_true _ (not_empty 84 (codes "HEOREM=" ++ theorem))) (and_right (not (eqb (length theorem) 0)) _ h) in
    let second : is_token (codes "LOC_AFTER=" ++ unwrap_or loc (codes "?")) ≡ true = both_true _ _ (not_true _ (not_empty 76 (codes "OC_AFTER=" ++ unwrap_or loc (codes "?")))) (loc_inked loc k) in
    both_true _ _ refl (both_true _ _ refl (both_true _ _ refl (both_true _ _ first (both_true _ _ second refl))))

pub header-laid : (theorem : List ℕ) (loc : Option (List ℕ)) → is_token theorem ≡ true → option_map_or is_label loc true ≡ true → IsLaid (header_piece theorem loc)
header-laid theorem loc h k = laid-spoken (codes "$(") (more_header_tokens theorem loc) (header-tokens theorem loc h k) refl
