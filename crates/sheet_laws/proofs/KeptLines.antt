-- The lines of statements, and so the comments of a text.
use Rattle.std.proofs.Common.{◌≡◌, ℕ, suc, Bool, true, false, cond, not, ◌&&◌, eqb, List, [], ◌∷◌, ◌++◌, length, map, filter, Option, Some, None, refl, sym, ap, ◌∙◌, subst, inl, inr}
use Rattle.std.proofs.lemmas.Bool.{cases_Bool}
use Rattle.std.proofs.lemmas.List.Sums.{take_while-cons}
use Rattle.std.specs.Prelude.{take_while, filter_map}
use Rattle.std.specs.List.{list_all, onto_first, AllByRecursion, cons_option}
use Rattle.mm_model.specs.Words.{is_white}
use Rattle.sheet_text.specs.declared.sheet.PairLine.{PairLine}
use Rattle.sheet_text.specs.Forms.{StepForm}
use Rattle.sheet_text.specs.Lines.{Line, line, lines, trim_end, before_trimmed, numbered_from, is_blank, lines_not_blank, begins, first_is_not_white}
use Rattle.sheet_text.specs.Reads.{comment_of, items_at, items_from, pairs_at}
use Rattle.sheet_text.specs.SheetStatements.{Statement, statement, statements, statements_where, opens_proof, ends_proof, tokens_in, line_of, is_comment, is_distinct}
use Rattle.sheet_text.specs.Spellable.{is_token, last_is_not_white, is_comment_line, is_item_spellable, is_pair_spellable}
use Rattle.sheet_text.specs.TextFaults.{step_in, is_end, without_end, symbols_of, is_bad_distinct}
use Rattle.sheet_laws.proofs.Tests.{and_left, and_right, both_true, not_true, cond_then, cond_else}
use Rattle.sheet_laws.proofs.LineLaws.{has_no_end}
use Rattle.sheet_laws.proofs.RuleLaws.{IsSound}
use Rattle.sheet_laws.proofs.GoodForms.{case_of, tokens_of-tokens}
use Rattle.sheet_laws.proofs.SoundLaws.{AreSound}

-- ---- lines

onto_no_end : (b : ℕ) (ls : List (List ℕ)) → not (eqb b 10) ≡ true → list_all has_no_end ls ≡ true → list_all has_no_end (onto_first b ls) ≡ true
onto_no_end b [] e h = both_true _ _ (both_true _ _ e refl) refl
onto_no_end b (l ∷ ls) e h = both_true _ _ (both_true _ _ e (and_left _ _ h)) (and_right _ _ h)

lines_no_end : (text : List ℕ) → list_all has_no_end (lines text) ≡ true
lines_no_end [] = refl
lines_no_end (b ∷ bs) =
    elim (cases_Bool (eqb b 10)) [
      | inl e ↦ subst (λ ls. list_all has_no_end ls ≡ true) (sym (cond_then (eqb b 10) ([] ∷ lines bs) (onto_first b (lines bs)) e)) (lines_no_end bs)
      | inr e ↦ subst (λ ls. list_all has_no_end ls ≡ true) (sym (cond_else (eqb b 10) ([] ∷ lines bs) (onto_first b (lines bs)) e)) (onto_no_end b (lines bs) (not_true _ e) (lines_no_end bs))
    ]

-- no bytes, or a last byte that is not white space
abbrev IsTrimmed : List ℕ → Type 0
IsTrimmed [] = Unit {0}
IsTrimmed (b ∷ bs) = last_is_not_white (b ∷ bs) ≡ true

before_is_trimmed : (b : ℕ) (t : List ℕ) → IsTrimmed t → IsTrimmed (before_trimmed b t)
before_is_trimmed b [] h =
    elim (cases_Bool (is_white b)) [
      | inl e ↦ subst IsTrimmed (sym (cond_then (is_white b) [] (b ∷ []) e)) tt
      | inr e ↦ subst IsTrimmed (sym (cond_else (is_white b) [] (b ∷ []) e)) (not_true _ e)
    ]
before_is_trimmed b (c ∷ cs) h = h

trim_is_trimmed : (bs : List ℕ) → IsTrimmed (trim_end bs)
trim_is_trimmed [] = tt
trim_is_trimmed (b ∷ bs) = before_is_trimmed b (trim_end bs) (trim_is_trimmed bs)

before_no_end : (b : ℕ) (t : List ℕ) → not (eqb b 10) ≡ true → has_no_end t ≡ true → has_no_end (before_trimmed b t) ≡ true
before_no_end b [] e h = elim (is_white b) as (λ w. has_no_end (cond w [] (b ∷ [])) ≡ true) [ true ↦ refl | false ↦ both_true _ _ e refl ]
before_no_end b (c ∷ cs) e h = both_true _ _ e h

trim_no_end : (bs : List ℕ) → has_no_end bs ≡ true → has_no_end (trim_end bs) ≡ true
trim_no_end [] h = refl
trim_no_end (b ∷ bs) h = before_no_end b (trim_end bs) (and_left _ _ h) (trim_no_end bs (and_right _ _ h))

abbrev pub is_good : Line → Bool
is_good l = is_comment_line l.bytes

good_line : (t : List ℕ) → IsTrimmed t → has_no_end t ≡ true → not (eqb (length t) 0) ≡ true → is_comment_line t ≡ true
good_line [] i h e = absurd (cc)
good_line (b ∷ bs) i h e = both_true _ _ i h

good_lines : (n : ℕ) (ls : List (List ℕ)) → list_all has_no_end ls ≡ true → list_all is_good (filter (λ l. not (is_blank l)) (numbered_from n ls)) ≡ true
good_lines n [] h = refl
good_lines n (l ∷ ls) h =
    let more = good_lines (suc n) ls (and_right _ _ h) in
    let first = line n (trim_end l) in let rest = filter (λ m. not (is_blank m)) (numbered_from (suc n) ls) in
    elim (cases_Bool (not (is_blank first))) [
      | inl e ↦ subst (λ t. list_all is_good t ≡ true) (sym (cond_then (not (is_blank first)) (first ∷ rest) rest e))
          (both_true _ _ (good_line (trim_end l) (trim_is_trimmed l) (trim_no_end l (and_left _ _ h)) e) more)
      | inr e ↦ subst (λ t. list_all is_good t ≡ true) (sym (cond_else (not (is_blank first)) (first ∷ rest) rest e)) more
    ]

pub text_good : (text : List ℕ) → list_all is_good (lines_not_blank text) ≡ true
text_good text = good_lines 1 (lines text) (lines_no_end text)

-- ---- statements

taken_all : (q p : Line → Bool) (ls : List Line) → list_all q ls ≡ true → list_all q (take_while p ls) ≡ true
taken_all q p [] h = refl
taken_all q p (l ∷ ls) h =
    subst (λ t. list_all q t ≡ true) (sym (take_while-cons p l ls))
    (elim (p l) as (λ b. list_all q (cond b (l ∷ take_while p ls) []) ≡ true) [ true ↦ both_true _ _ (and_left _ _ h) (taken_all q p ls (and_right _ _ h)) | false ↦ refl ])

taken_pass : (p : Line → Bool) (ls : List Line) → list_all p (take_while p ls) ≡ true
taken_pass p [] = refl
taken_pass p (l ∷ ls) =
    subst (λ t. list_all p t ≡ true) (sym (take_while-cons p l ls))
    (elim (cases_Bool (p l)) [
      | inl e ↦ subst (λ t. list_all p t ≡ true) (sym (cond_then (p l) (l ∷ take_while p ls) [] e)) (both_true _ _ e (taken_pass p ls))
      | inr e ↦ subst (λ t. list_all p t ≡ true) (sym (cond_else (p l) (l ∷ take_while p ls) [] e)) refl
    ])

pub record IsKept (s : Statement) : Type 0 where
  pub lines : list_all is_good (s.opening ∷ s.more) ≡ true
  pub more : list_all (λ m. not (begins m)) s.more ≡ true

kept_where : (in_proof : Bool) (ls : List Line) → list_all is_good ls ≡ true → AllByRecursion IsKept (statements_where in_proof ls)
kept_where in_proof [] h = tt
kept_where true (l ∷ ls) h = kept_where (not (ends_proof l)) ls (and_right _ _ h)
kept_where false (l ∷ ls) h =
    let taken = take_while (λ m. not (begins m)) ls in
    let proof = statement l [] ∷ statements_where (not (ends_proof l)) ls in
    let plain = statement l taken ∷ statements_where false ls in
    let other = cond (begins l) plain (statements_where false ls) in
    elim (cases_Bool (opens_proof l)) [
      | inl e ↦ subst (AllByRecursion IsKept) (sym (cond_then (opens_proof l) proof other e))
          (record { lines = both_true _ _ (and_left _ _ h) refl; more = refl }, kept_where (not (ends_proof l)) ls (and_right _ _ h))
      | inr e ↦ subst (AllByRecursion IsKept) (sym (cond_else (opens_proof l) proof other e))
          (elim (cases_Bool (begins l)) [
            | inl f ↦ subst (AllByRecursion IsKept) (sym (cond_then (begins l) plain (statements_where false ls) f)) (
              record {
                lines = both_true _ _ (and_left _ _ h) (taken_all is_good (λ m. not (begins m)) ls (and_right _ _ h));
                more = taken_pass (λ m. not (begins m)) ls;
              },
              kept_where false ls (and_right _ _ h),
            )
            | inr f ↦ subst (AllByRecursion IsKept) (sym (cond_else (begins l) plain (statements_where false ls) f)) (kept_where false ls (and_right _ _ h))
          ])
    ]

pub statements_kept : (text : List ℕ) → AllByRecursion IsKept (statements text)
statements_kept text = kept_where false (lines_not_blank text) (text_good text)

-- ---- comments

bytes_good : (ls : List Line) → list_all is_good ls ≡ true → list_all is_comment_line (map (λ (l : Line). l.bytes) ls) ≡ true
bytes_good [] h = refl
bytes_good (l ∷ ls) h = both_true _ _ (and_left _ _ h) (bytes_good ls (and_right _ _ h))

bytes_more : (ls : List Line) → list_all (λ m. not (begins m)) ls ≡ true → list_all (λ m. not (first_is_not_white m)) (map (λ (l : Line). l.bytes) ls) ≡ true
bytes_more [] h = refl
bytes_more (l ∷ ls) h = both_true _ _ (and_left _ _ h) (bytes_more ls (and_right _ _ h))

comment_spellable : (s : Statement) → IsKept s → is_comment s ≡ true → is_item_spellable (comment_of s) ≡ true
comment_spellable s k e = both_true _ _ (both_true _ _ e (bytes_good (s.opening ∷ s.more) k.lines)) (bytes_more s.more k.more)

pub items_spellable : (ss : List Statement) (done : List (List ℕ)) → AllByRecursion IsKept ss → list_all is_item_spellable (items_from ss done) ≡ true
items_spellable [] done k = refl
items_spellable (s ∷ ss) done k =
    elim (case_of (step_in s)) [
      | inl (f, e) ↦ ap (λ (o : Option StepForm). list_all is_item_spellable (items_at done s o (items_from ss))) e ∙ items_spellable ss (done ++ f.name ∷ []) k.1
      | inr e ↦
          ap (λ (o : Option StepForm). list_all is_item_spellable (items_at done s o (items_from ss))) e
          ∙ elim (cases_Bool (is_comment s)) [
            | inl c ↦ ap (list_all is_item_spellable) (cond_then (is_comment s) (comment_of s ∷ items_from ss done) (items_from ss done) c)
                ∙ both_true _ _ (comment_spellable s k.0 c) (items_spellable ss done k.1)
            | inr c ↦ ap (list_all is_item_spellable) (cond_else (is_comment s) (comment_of s ∷ items_from ss done) (items_from ss done) c) ∙ items_spellable ss done k.1
          ]
    ]

-- ---- pairs

without_end-all : (p : List ℕ → Bool) (ts : List (List ℕ)) → list_all p ts ≡ true → list_all p (without_end ts) ≡ true
without_end-all p [] h = refl
without_end-all p (t ∷ []) h = elim (is_end t) as (λ b. list_all p (cond b [] (t ∷ [])) ≡ true) [ true ↦ refl | false ↦ h ]
without_end-all p (t ∷ u ∷ ts) h = both_true _ _ (and_left _ _ h) (without_end-all p (u ∷ ts) (and_right _ _ h))

symbols-all : (p : List ℕ → Bool) (ts : List (List ℕ)) → list_all p ts ≡ true → list_all p (symbols_of ts) ≡ true
symbols-all p [] h = refl
symbols-all p (t ∷ ts) h = without_end-all p ts (and_right _ _ h)

pair_spellable : (before : List Statement) (s : Statement) → IsSound before s → is_distinct s ≡ true → is_pair_spellable (record { line = line_of s; names = symbols_of (tokens_in s) }) ≡ true
pair_spellable before s h e =
    both_true _ _ (symbols-all is_token (tokens_in s) (tokens_of-tokens (s.opening ∷ s.more)))
    (not_true _ (ap (λ b. b && is_bad_distinct (symbols_of (tokens_in s))) (sym e) ∙ h.distinct))

pub pairs_spellable : (ss before : List Statement) → AreSound before ss → list_all is_pair_spellable (filter_map pairs_at ss) ≡ true
pairs_spellable [] before a = refl
pairs_spellable (s ∷ ss) before a =
    let more = pairs_spellable ss (s ∷ before) a.1 in
    let pair : PairLine = record { line = line_of s; names = symbols_of (tokens_in s) } in
    elim (cases_Bool (is_distinct s)) [
      | inl e ↦ ap (λ (o : Option PairLine). list_all is_pair_spellable (cons_option o (filter_map pairs_at ss)))
          (cond_then (is_distinct s) (Some pair) None e)
          ∙ both_true _ _ (pair_spellable before s a.0 e) more
      | inr e ↦ ap (λ (o : Option PairLine). list_all is_pair_spellable (cons_option o (filter_map pairs_at ss))) (cond_else (is_distinct s) (Some pair) None e) ∙ more
    ]
