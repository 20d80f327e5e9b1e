-- What holds of a header and of a step that tokens have the form of.
use Rattle.std.proofs.Common.{◌≡◌, ◌⊎◌, ℕ, suc, zero, Bool, true, false, cond, not, ◌&&◌, ◌||◌, eqb, List, [], ◌∷◌, length, map, drop, Option, Some}
use Rattle.std.proofs.Common.{None, refl, sym, ap, ◌∙◌, subst, inl, inr, codes}
use Rattle.std.proofs.lemmas.Bool.{cases_Bool}
use Rattle.std.specs.Prelude.{option_and_then}
use Rattle.std.specs.Bool.{then_some}
use Rattle.std.specs.Option.{option_map_or}
use Rattle.std.specs.List.{list_all, slice_split}
use Rattle.std.specs.Str.{bytes_eq}
use Rattle.mm_model.specs.Labels.{is_label}
use Rattle.sheet_text.specs.Lines.{Line, tokens, tokens_of}
use Rattle.sheet_text.specs.Forms.{Header, header_of, header_with, loc_of, loc_in, after_prefix, StepForm, marked_name, is_gap, entry_of, parts_of}
use Rattle.sheet_text.specs.Forms.{is_reference, reference_of, step_with, step_parts, step_of}
use Rattle.sheet_text.specs.Spellable.{is_token}
use Rattle.sheet_laws.proofs.Tests.{and_left, and_right, both_true, not_true, not_empty, cond_then, cond_else, all_append}
use Rattle.sheet_laws.proofs.SplitLaws.{is_inked}
use Rattle.sheet_laws.proofs.WordLaws.{tokens_at-tokens}

pub case_of : {A : Type 0} (o : Option A) → ((x : A) × (o ≡ Some x)) ⊎ (o ≡ None)
case_of None = inr refl
case_of (Some x) = inl (x, refl)

pub tokens_of-tokens : (ls : List Line) → list_all is_token (tokens_of ls) ≡ true
tokens_of-tokens [] = refl
tokens_of-tokens (l ∷ ls) = all_append is_token (tokens l) (tokens_of ls) (tokens_at-tokens 0 l.bytes) (tokens_of-tokens ls)

-- ---- a choice that gives something

pub cond_some : {A : Type 0} (b : Bool) (o : Option A) (x : A) → cond b o None ≡ Some x → (b ≡ true) × (o ≡ Some x)
cond_some true o x e = (refl, e)
cond_some false o x e = absurd (cc)

pub then_given : {A : Type 0} (b : Bool) (y x : A) → then_some b y ≡ Some x → (b ≡ true) × (y ≡ x)
then_given true y x e = (refl, cc)
then_given false y x e = absurd (cc)

-- ---- the header

pub record IsGoodHeader (h : Header) : Type 0 where
  pub theorem : is_token h.theorem ≡ true
  pub loc : option_map_or is_label h.loc true ≡ true

all_drop : (p : ℕ → Bool) (n : ℕ) (xs : List ℕ) → list_all p xs ≡ true → list_all p (drop n xs) ≡ true
all_drop p zero xs h = h
all_drop p (suc n) [] h = refl
all_drop p (suc n) (x ∷ xs) h = all_drop p n xs (and_right _ _ h)

loc_good : (bytes : List ℕ) (loc : Option (List ℕ)) → loc_of bytes ≡ Some loc → option_map_or is_label loc true ≡ true
loc_good bytes loc e =
    elim (cases_Bool (eqb (length bytes) 0 || is_gap bytes)) [
      | inl t ↦ let k : Some None ≡ Some loc = sym (cond_then _ _ _ t) ∙ e in let n : loc ≡ None = cc in rw n refl
      | inr f ↦
          let k = then_given (is_label bytes) (Some bytes) loc (sym (cond_else (eqb (length bytes) 0 || is_gap bytes) (Some None) (then_some (is_label bytes) (Some bytes)) f) ∙ e) in
          subst (λ o. option_map_or is_label o true ≡ true) k.1 k.0
    ]

loc_of-given : (o : Option (List ℕ)) (loc : Option (List ℕ)) → option_and_then loc_of o ≡ Some loc → option_map_or is_label loc true ≡ true
loc_of-given None loc e = absurd (cc)
loc_of-given (Some bytes) loc e = loc_good bytes loc e

loc_in-good : (more : List (List ℕ)) (loc : Option (List ℕ)) → loc_in more ≡ Some loc → option_map_or is_label loc true ≡ true
loc_in-good [] loc e = let n : loc ≡ None = cc in rw n refl
loc_in-good (t ∷ []) loc e = loc_of-given (after_prefix (codes "LOC_AFTER=") t) loc e
loc_in-good (t ∷ u ∷ ts) loc e = absurd (cc)

made_of : (b : ℕ) (bs bytes : List ℕ) (k : Bool) → then_some k bytes ≡ Some (b ∷ bs) → list_all is_inked bytes ≡ true → is_token (b ∷ bs) ≡ true
made_of b bs bytes k e h =
    let f = (then_given k bytes (b ∷ bs) e).1 in both_true _ _ (not_true _ (not_empty b bs)) (subst (λ t. list_all is_inked t ≡ true) f h)

header_with-good : (bytes : List ℕ) (k : Bool) (o : Option (List ℕ)) (more : List (List ℕ)) (l : Option (Option (List ℕ))) (h : Header)
    → o ≡ then_some k bytes → l ≡ loc_in more → list_all is_inked bytes ≡ true → header_with o l ≡ Some h → IsGoodHeader h
header_with-good bytes k None more l h e f i g = absurd (cc)
header_with-good bytes k (Some []) more l h e f i g = absurd (cc)
header_with-good bytes k (Some (b ∷ bs)) more None h e f i g = absurd (cc)
header_with-good bytes k (Some (b ∷ bs)) more (Some loc) h e f i g =
    let made : record { theorem = b ∷ bs; loc = loc } ≡ h = cc in
    subst IsGoodHeader made (record { theorem = made_of b bs bytes k (sym e) i; loc = loc_in-good more loc (sym f) })

pub header_good : (ts : List (List ℕ)) (h : Header) → list_all is_token ts ≡ true → header_of ts ≡ Some h → IsGoodHeader h
header_good [] h k e = absurd (cc)
header_good (a ∷ []) h k e = absurd (cc)
header_good (a ∷ b ∷ []) h k e = absurd (cc)
header_good (a ∷ b ∷ c ∷ []) h k e = absurd (cc)
header_good (a ∷ b ∷ c ∷ t ∷ more) h k e =
    let given = (cond_some _ _ h e).1 in
    let token : is_token t ≡ true = and_left (is_token t) (list_all is_token more) (and_right (is_token c) _ (and_right (is_token b) _ (and_right (is_token a) _ k))) in
    header_with-good (drop 8 t) _ (after_prefix (codes "THEOREM=") t) more (loc_in more) h refl refl (all_drop is_inked 8 t (and_right _ _ token)) given

-- a header's first token is `$(`
pub header_first : (ts : List (List ℕ)) (h : Header) → header_of ts ≡ Some h → (a : List ℕ) × (more : List (List ℕ)) × (ts ≡ a ∷ more) × (bytes_eq a (codes "$(") ≡ true)
header_first [] h e = absurd (cc)
header_first (a ∷ []) h e = absurd (cc)
header_first (a ∷ b ∷ []) h e = absurd (cc)
header_first (a ∷ b ∷ c ∷ []) h e = absurd (cc)
header_first (a ∷ b ∷ c ∷ t ∷ more) h e = (a, b ∷ c ∷ t ∷ more, refl, and_left _ _ (and_left _ _ (cond_some _ _ h e).0))

-- ---- a step

pub record IsGoodStep (f : StepForm) : Type 0 where
  pub name : is_label f.name ≡ true
  pub unmarked : (f.hyp || not (marked_name f.name).0) ≡ true
  pub reference : option_map_or is_label f.reference (not f.hyp) ≡ true
  pub formula : list_all is_token f.formula ≡ true

marked_once : (name : List ℕ) → ((marked_name name).0 || not (marked_name (marked_name name).1).0) ≡ true
marked_once [] = refl
marked_once (b ∷ bs) =
    elim (cases_Bool (eqb b 104)) [
      | inl e ↦ ap (λ (m : Bool × List ℕ). m.0 || not (marked_name m.1).0) (cond_then (eqb b 104) (true, bs) (false, b ∷ bs) e)
      | inr e ↦ let m : marked_name (b ∷ bs) ≡ (false, b ∷ bs) = cond_else (eqb b 104) (true, bs) (false, b ∷ bs) e in
          ap (λ (m : Bool × List ℕ). m.0 || not (marked_name m.1).0) m ∙ ap (λ (m : Bool × List ℕ). not m.0) m
    ]

reference_good : (hyp : Bool) (r : List ℕ) → is_reference hyp r ≡ true → option_map_or is_label (reference_of r) (not hyp) ≡ true
reference_good hyp r h =
    elim (cases_Bool (is_label r)) [
      | inl e ↦ ap (λ b. option_map_or is_label (then_some b r) (not hyp)) e ∙ e
      | inr e ↦ let k : (not hyp && (eqb (length r) 0 || is_gap r)) ≡ true = ap (λ b. b || (not hyp && (eqb (length r) 0 || is_gap r))) (sym e) ∙ h in
          ap (λ b. option_map_or is_label (then_some b r) (not hyp)) e ∙ and_left _ _ k
    ]

step_with-good : (name : List ℕ) (parts : List (List ℕ)) (r : List ℕ) (formula : List (List ℕ)) (f : StepForm) → list_all is_token formula ≡ true
    → step_with (marked_name name).0 (marked_name name).1 parts r formula ≡ Some f → IsGoodStep f
step_with-good name parts r formula f h e =
    let k = then_given _ _ f e in
    let made : IsGoodStep (record { hyp = (marked_name name).0; name = (marked_name name).1; entries = map entry_of parts; reference = reference_of r; formula = formula }) = record {
      name = and_left _ _ (and_left _ _ k.0);
      unmarked = marked_once name;
      reference = reference_good (marked_name name).0 r (and_right _ _ k.0);
      formula = h;
    } in
    subst IsGoodStep k.1 made

step_parts-good : (parts formula : List (List ℕ)) (f : StepForm) → list_all is_token formula ≡ true → step_parts parts formula ≡ Some f → IsGoodStep f
step_parts-good [] formula f h e = absurd (cc)
step_parts-good (a ∷ []) formula f h e = absurd (cc)
step_parts-good (a ∷ b ∷ []) formula f h e = absurd (cc)
step_parts-good (a ∷ b ∷ c ∷ []) formula f h e = step_with-good a (parts_of b) c formula f h e
step_parts-good (a ∷ b ∷ c ∷ d ∷ ds) formula f h e = absurd (cc)

pub step_good : (ts : List (List ℕ)) (f : StepForm) → list_all is_token ts ≡ true → step_of ts ≡ Some f → IsGoodStep f
step_good [] f h e = absurd (cc)
step_good (t ∷ formula) f h e = step_parts-good (slice_split (λ c. eqb c 58) t) formula f (and_right _ _ h) e
