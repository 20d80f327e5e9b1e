-- The forms of a header and of a step that were laid out.
use Rattle.std.proofs.Common.{◌≡◌, ℕ, Bool, true, false, cond, not, ◌||◌, eqb, List, [], ◌∷◌, ◌++◌, length, map, Option, Some, None, refl, sym, ap}
use Rattle.std.proofs.Common.{◌∙◌, subst, inl, inr, append_assoc, codes, unwrap_or}
use Rattle.std.proofs.lemmas.Bool.{cases_Bool}
use Rattle.std.specs.Bool.{then_some}
use Rattle.std.specs.Option.{option_map_or}
use Rattle.std.specs.List.{list_all, slice_split, join_with_byte}
use Rattle.mm_model.specs.Labels.{is_label_byte, is_label}
use Rattle.sheet_text.specs.declared.sheet.SheetStep.{SheetStep}
use Rattle.sheet_text.specs.Forms.{Header, header_of, header_with, loc_of, after_prefix, StepForm, marked_name, is_gap, is_entry, entry_of, parts_of}
use Rattle.sheet_text.specs.Forms.{is_reference, reference_of, step_with, step_parts, step_of}
use Rattle.sheet_text.specs.Layout.{place_text, step_token}
use Rattle.sheet_text.specs.Spellable.{is_token}
use Rattle.sheet_laws.proofs.Tests.{and_left, and_right, both_true, both_false, true_not, not_true, not_empty, cond_else, all_append}
use Rattle.sheet_laws.proofs.SplitLaws.{is_not, is_inked, label_is_not, label_is_inked, label_all, no_gap, entries_all, all_joined, cut, uncut, parts_joined}

-- ---- the header

prefix_theorem : (bs : List ℕ) → after_prefix (codes "THEOREM=") (codes "THEOREM=" ++ bs) ≡ Some bs
prefix_theorem bs = refl

prefix_loc : (bs : List ℕ) → after_prefix (codes "LOC_AFTER=") (codes "LOC_AFTER=" ++ bs) ≡ Some bs
prefix_loc bs = refl

label_loc : (l : List ℕ) → is_label l ≡ true → loc_of l ≡ Some (Some l)
label_loc l h = cond_else (eqb (length l) 0 || is_gap l) _ _ (both_false _ _ (true_not _ (and_left _ _ h)) (no_gap l h)) ∙ ap (λ b. then_some b (Some l)) h

abbrev pub more_header_tokens : List ℕ → Option (List ℕ) → List (List ℕ)
more_header_tokens theorem loc = codes "<MM>" ∷ codes "<PROOF_ASST>" ∷ (codes "THEOREM=" ++ theorem) ∷ (codes "LOC_AFTER=" ++ unwrap_or loc (codes "?")) ∷ []

abbrev pub header_tokens : List ℕ → Option (List ℕ) → List (List ℕ)
header_tokens theorem loc = codes "$(" ∷ more_header_tokens theorem loc

abbrev pub header : List ℕ → Option (List ℕ) → Header
header theorem loc = record { theorem = theorem; loc = loc }

pub header_of-tokens : (theorem : List ℕ) (loc : Option (List ℕ)) → is_token theorem ≡ true → option_map_or is_label loc true ≡ true
    → header_of (header_tokens theorem loc) ≡ Some (header theorem loc)
header_of-tokens [] loc h k = absurd (cc)
header_of-tokens (b ∷ bs) None h k = refl
header_of-tokens (b ∷ bs) (Some l) h k = ap (header_with (Some (b ∷ bs))) (label_loc l k)

-- ---- a step

-- what the layout needs of a step, where the steps have these names
pub record IsWritable (names : List (List ℕ)) (s : SheetStep) : Type 0 where
  pub name : is_label s.name ≡ true
  pub unmarked : (s.hyp || not (marked_name s.name).0) ≡ true
  pub places : list_all is_entry (map (place_text names) s.places) ≡ true
  pub reference : option_map_or is_label s.reference (not s.hyp) ≡ true
  pub formula : list_all is_token s.formula ≡ true

abbrev pub form_of : List (List ℕ) → SheetStep → StepForm
form_of names s = record { hyp = s.hyp; name = s.name; entries = map entry_of (map (place_text names) s.places); reference = s.reference; formula = s.formula }

abbrev mark_of : Bool → List ℕ
mark_of hyp = cond hyp (codes "h") []

unmarked_name : (name : List ℕ) → (marked_name name).0 ≡ false → marked_name name ≡ (false, name)
unmarked_name [] h = refl
unmarked_name (b ∷ bs) h =
    elim (cases_Bool (eqb b 104)) [
      | inl e ↦ absurd (let k : true ≡ false = rw e at h in cc)
      | inr e ↦ rw e refl
    ]

marked : (hyp : Bool) (name : List ℕ) → (hyp || not (marked_name name).0) ≡ true → marked_name (mark_of hyp ++ name) ≡ (hyp, name)
marked true name h = refl
marked false name h = unmarked_name name (true_not _ h)

text_of_reference : Option (List ℕ) → List ℕ
text_of_reference r = unwrap_or r []

is_reference-written : (hyp : Bool) (r : Option (List ℕ)) → option_map_or is_label r (not hyp) ≡ true → is_reference hyp (unwrap_or r []) ≡ true
is_reference-written true None h = absurd (cc)
is_reference-written false None h = refl
is_reference-written hyp (Some l) h = rw h refl

reference_of-written : (hyp : Bool) (r : Option (List ℕ)) → option_map_or is_label r (not hyp) ≡ true → reference_of (unwrap_or r []) ≡ r
reference_of-written hyp None h = refl
reference_of-written hyp (Some l) h = rw h refl

reference_all : (p : ℕ → Bool) → ((b : ℕ) → is_label_byte b ≡ true → p b ≡ true) → (hyp : Bool) (r : Option (List ℕ))
    → option_map_or is_label r (not hyp) ≡ true → list_all p (unwrap_or r []) ≡ true
reference_all p f hyp None h = refl
reference_all p f hyp (Some l) h = label_all p f l h

mark_all : (p : ℕ → Bool) (hyp : Bool) → p 104 ≡ true → list_all p (mark_of hyp) ≡ true
mark_all p true h = both_true _ _ h refl
mark_all p false h = refl

module _ (names : List (List ℕ)) (s : SheetStep) (w : IsWritable names s) where
  abbrev texts : List (List ℕ)
  texts = map (place_text names) s.places

  abbrev places : List ℕ
  places = join_with_byte 44 texts

  abbrev reference : List ℕ
  reference = unwrap_or s.reference []

  abbrev first : List ℕ
  first = mark_of s.hyp ++ s.name

  first_all : (p : ℕ → Bool) → ((b : ℕ) → is_label_byte b ≡ true → p b ≡ true) → list_all p first ≡ true
  first_all p f = all_append p (mark_of s.hyp) s.name (mark_all p s.hyp (f 104 refl)) (label_all p f s.name w.name)

  token_cut : slice_split (λ b. eqb b 58) (step_token names s) ≡ first ∷ places ∷ reference ∷ []
  token_cut =
      ap (slice_split (λ b. eqb b 58)) (append_assoc first (58 ∷ places) (58 ∷ reference))
      ∙ cut 58 first (places ++ 58 ∷ reference) (first_all (is_not 58) (label_is_not 58 refl))
      ∙ ap (λ t. first ∷ t) (cut 58 places reference (all_joined (is_not 58) 44 refl texts (entries_all (is_not 58) (label_is_not 58 refl) refl texts w.places))
      ∙ ap (λ t. places ∷ t) (uncut 58 reference (reference_all (is_not 58) (label_is_not 58 refl) s.hyp s.reference w.reference)))

  pub step_of-token : step_of (step_token names s ∷ s.formula) ≡ Some (form_of names s)
  step_of-token =
      ap (λ t. step_parts t s.formula) token_cut
      ∙ ap (λ (m : Bool × List ℕ). step_with m.0 m.1 (parts_of places) reference s.formula) (marked s.hyp s.name w.unmarked)
      ∙ ap (λ t. step_with s.hyp s.name t reference s.formula) (parts_joined texts w.places)
      ∙ ap (λ b. then_some b (record { hyp = s.hyp; name = s.name; entries = map entry_of texts; reference = reference_of reference; formula = s.formula }))
      (both_true _ _ (both_true _ _ w.name w.places) (is_reference-written s.hyp s.reference w.reference))
      ∙ ap (λ r. Some (record { hyp = s.hyp; name = s.name; entries = map entry_of texts; reference = r; formula = s.formula })) (reference_of-written s.hyp s.reference w.reference)

  token_inked : list_all is_inked (step_token names s) ≡ true
  token_inked =
      all_append is_inked (first ++ 58 ∷ places) (58 ∷ reference)
      (all_append is_inked first (58 ∷ places) (first_all is_inked label_is_inked)
      (both_true _ _ refl (all_joined is_inked 44 refl texts (entries_all is_inked label_is_inked refl texts w.places))))
      (both_true _ _ refl (reference_all is_inked label_is_inked s.hyp s.reference w.reference))

-- a token that begins with a label's byte
pub record BeginsAsLabel (token : List ℕ) : Type 0 where
  pub byte : ℕ
  pub rest : List ℕ
  pub is : token ≡ byte ∷ rest
  pub good : is_label_byte byte ≡ true

begins_first : (hyp : Bool) (name more : List ℕ) → is_label name ≡ true → BeginsAsLabel ((mark_of hyp ++ name) ++ more)
begins_first true name more h = record { byte = 104; rest = name ++ more; is = refl; good = refl }
begins_first false [] more h = absurd (cc)
begins_first false (b ∷ bs) more h = record { byte = b; rest = bs ++ more; is = refl; good = and_left _ _ (and_right _ _ h) }

pub step_token-begins : (names : List (List ℕ)) (s : SheetStep) → is_label s.name ≡ true → BeginsAsLabel (step_token names s)
step_token-begins names s h =
    let e : ((mark_of s.hyp ++ s.name) ++ (58 ∷ join_with_byte 44 (map (place_text names) s.places) ++ 58 ∷ unwrap_or s.reference [])) ≡ step_token names s =
    sym (append_assoc (mark_of s.hyp ++ s.name) (58 ∷ join_with_byte 44 (map (place_text names) s.places)) (58 ∷ unwrap_or s.reference [])) in
    subst BeginsAsLabel e (begins_first s.hyp s.name _ h)

pub step_token-is_token : (names : List (List ℕ)) (s : SheetStep) → IsWritable names s → is_token (step_token names s) ≡ true
step_token-is_token names s w =
    let b = step_token-begins names s w.name in
    both_true _ _ (not_true _ (let e = b.is in rw e (not_empty b.byte b.rest))) (token_inked names s w)
