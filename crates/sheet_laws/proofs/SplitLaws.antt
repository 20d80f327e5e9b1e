-- Labels, entries, and texts that were joined by a byte.
use Rattle.std.proofs.Common.{◌≡◌, ℕ, Bool, true, false, not, eqb, List, [], ◌∷◌, ◌++◌, refl, ap, ◌∙◌, arith, inl, inr, codes}
use Rattle.std.proofs.lemmas.Bool.{cases_Bool}
use Rattle.std.proofs.lemmas.Bool.Decides.{nat_tests}
use Rattle.std.specs.List.{list_all, slice_split, onto_first, join_with_byte}
use Rattle.mm_model.specs.Labels.{is_label_byte, is_label}
use Rattle.mm_model.specs.Words.{is_white}
use Rattle.sheet_text.specs.Forms.{is_gap, is_entry, parts_of}
use Rattle.sheet_text.specs.Spellable.{is_token}
use Rattle.sheet_laws.proofs.Tests.{and_left, and_right, both_true, true_not, not_true, cond_then, cond_else, differs, label_byte_no_white, all_more, all_append, same_bytes}

-- a test that a byte is another
abbrev pub is_not : ℕ → ℕ → Bool
is_not c b = not (eqb b c)

abbrev pub has_no : ℕ → List ℕ → Bool
has_no c bytes = list_all (is_not c) bytes

abbrev pub is_inked : ℕ → Bool
is_inked b = not (is_white b)

pub label_is_not : (c : ℕ) → is_label_byte c ≡ false → (b : ℕ) → is_label_byte b ≡ true → is_not c b ≡ true
label_is_not c k b h = not_true _ (differs is_label_byte b c h k)

pub label_is_inked : (b : ℕ) → is_label_byte b ≡ true → is_inked b ≡ true
label_is_inked b h = not_true _ (label_byte_no_white b h)

pub label_all : (p : ℕ → Bool) → ((b : ℕ) → is_label_byte b ≡ true → p b ≡ true) → (t : List ℕ) → is_label t ≡ true → list_all p t ≡ true
label_all p f t h = all_more is_label_byte p f t (and_right _ _ h)

pub label_token : (t : List ℕ) → is_label t ≡ true → is_token t ≡ true
label_token t h = both_true _ _ (and_left _ _ h) (label_all is_inked label_is_inked t h)

pub no_gap : (t : List ℕ) → is_label t ≡ true → is_gap t ≡ false
no_gap [] h = refl
no_gap (b ∷ bs) h = let e = differs is_label_byte b 63 (and_left _ _ (and_right _ _ h)) refl in rw e refl

-- an entry is a label or `?`
pub entry_all : (p : ℕ → Bool) → ((b : ℕ) → is_label_byte b ≡ true → p b ≡ true) → p 63 ≡ true → (t : List ℕ) → is_entry t ≡ true → list_all p t ≡ true
entry_all p f g t h =
    elim (cases_Bool (is_gap t)) [
      | inl e ↦ let k = same_bytes t (codes "?") e in rw k (both_true _ _ g refl)
      | inr e ↦ label_all p f t (rw e at h)
    ]

pub entries_all : (p : ℕ → Bool) → ((b : ℕ) → is_label_byte b ≡ true → p b ≡ true) → p 63 ≡ true → (ts : List (List ℕ)) → list_all is_entry ts ≡ true → list_all (list_all p) ts ≡ true
entries_all p f g ts h = all_more is_entry (list_all p) (entry_all p f g) ts h

pub all_joined : (p : ℕ → Bool) (c : ℕ) → p c ≡ true → (ts : List (List ℕ)) → list_all (list_all p) ts ≡ true → list_all p (join_with_byte c ts) ≡ true
all_joined p c g [] h = refl
all_joined p c g (t ∷ []) h = and_left _ _ h
all_joined p c g (t ∷ u ∷ ts) h = all_append p t (c ∷ join_with_byte c (u ∷ ts)) (and_left _ _ h) (both_true _ _ g (all_joined p c g (u ∷ ts) (and_right _ _ h)))

-- ---- cutting at a byte

pub cut : (c : ℕ) (xs ys : List ℕ) → has_no c xs ≡ true → slice_split (λ b. eqb b c) (xs ++ c ∷ ys) ≡ xs ∷ slice_split (λ b. eqb b c) ys
cut c [] ys h = cond_then (eqb c c) _ _ (grind (arith, nat_tests))
cut c (b ∷ bs) ys h = cond_else (eqb b c) _ _ (true_not _ (and_left _ _ h)) ∙ ap (onto_first b) (cut c bs ys (and_right _ _ h))

pub uncut : (c : ℕ) (xs : List ℕ) → has_no c xs ≡ true → slice_split (λ b. eqb b c) xs ≡ xs ∷ []
uncut c [] h = refl
uncut c (b ∷ bs) h = cond_else (eqb b c) _ _ (true_not _ (and_left _ _ h)) ∙ ap (onto_first b) (uncut c bs (and_right _ _ h))

pub cut_joined : (c : ℕ) (t : List ℕ) (ts : List (List ℕ)) → list_all (has_no c) (t ∷ ts) ≡ true → slice_split (λ b. eqb b c) (join_with_byte c (t ∷ ts)) ≡ t ∷ ts
cut_joined c t [] h = uncut c t (and_left _ _ h)
cut_joined c t (u ∷ us) h = cut c t (join_with_byte c (u ∷ us)) (and_left _ _ h) ∙ ap (λ l. t ∷ l) (cut_joined c u us (and_right _ _ h))

-- entries that were joined by commas
pub parts_joined : (ts : List (List ℕ)) → list_all is_entry ts ≡ true → parts_of (join_with_byte 44 ts) ≡ ts
parts_joined [] h = refl
parts_joined ([] ∷ ts) h = absurd (cc)
parts_joined ((b ∷ bs) ∷ []) h = cut_joined 44 (b ∷ bs) [] (entries_all (is_not 44) (label_is_not 44 refl) refl ((b ∷ bs) ∷ []) h)
parts_joined ((b ∷ bs) ∷ u ∷ us) h = cut_joined 44 (b ∷ bs) (u ∷ us) (entries_all (is_not 44) (label_is_not 44 refl) refl ((b ∷ bs) ∷ u ∷ us) h)
