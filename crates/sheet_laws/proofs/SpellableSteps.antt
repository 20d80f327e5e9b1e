-- The steps of a text without a fault can be spelled.
use Rattle.std.proofs.Common.{◌≡◌, ◌<◌, ℕ, suc, Bool, true, false, cond, not, ◌&&◌, ◌||◌, List, [], ◌∷◌, ◌++◌, length, map, Option, Some, None}
use Rattle.std.proofs.Common.{option_map, refl, sym, ap, ◌∙◌, arith, subst, inl, inr, codes, append-nil, append_assoc, length-append, unwrap_or}
use Rattle.std.proofs.lemmas.Bool.{cases_Bool}
use Rattle.std.proofs.lemmas.Bool.Decides.{nat_tests}
use Rattle.std.specs.Prelude.{filter_map}
use Rattle.std.specs.List.{list_all, list_any, last_or, cons_option}
use Rattle.std.specs.Str.{bytes_eq}
use Rattle.mm_model.specs.Names.{contains, has_twice, first_number}
use Rattle.sheet_text.specs.declared.sheet.SheetStep.{SheetStep}
use Rattle.sheet_text.specs.Forms.{StepForm, step_of}
use Rattle.sheet_text.specs.Reads.{given_of, step_at, comment_of, items_at, items_from}
use Rattle.sheet_text.specs.SheetStatements.{Statement, line_of, tokens_in, is_comment}
use Rattle.sheet_text.specs.Spellable.{is_place_below, is_step_spellable, are_steps_spellable}
use Rattle.sheet_text.specs.TextFaults.{step_in, names_in as names_before, is_qed}
use Rattle.sheet_laws.proofs.Tests.{both_true, both_false, false_not, or_left, or_right, cond_then, cond_else, same_bytes, bytes_eq_same}
use Rattle.sheet_laws.proofs.PlaceLaws.{names_in, hyps_in, steps_in}
use Rattle.sheet_laws.proofs.RuleLaws.{IsSound, SameNames, names_more, names_kept, step_of_form, any_append}
use Rattle.sheet_laws.proofs.GoodForms.{case_of, IsGoodStep, step_good, tokens_of-tokens}
use Rattle.sheet_laws.proofs.SoundLaws.{AreSound}

-- ---- places

number_below : (name : List ℕ) (done : List (List ℕ)) → contains done name ≡ true → unwrap_or (first_number (bytes_eq name) done) 0 < length done
number_below name done h = let k = number_found name done h in rw k.1 k.2
  where
    number_found : (name : List ℕ) (done : List (List ℕ)) → contains done name ≡ true → (k : ℕ) × (first_number (bytes_eq name) done ≡ Some k) × (k < length done)
    number_found name [] h = absurd (cc)
    number_found name (n ∷ ns) h =
        elim (cases_Bool (bytes_eq name n)) [
          | inl e ↦ (0, cond_then (bytes_eq name n) _ _ e, omega arith)
          | inr e ↦
              let k : contains ns name ≡ true = ap (λ b. b || contains ns name) (sym e) ∙ h in
              let r = number_found name ns k in
              (suc r.0, cond_else (bytes_eq name n) _ _ e ∙ ap (option_map suc) r.1, omega (arith, r.2))
        ]

place_good : (done : List (List ℕ)) (e : Option (List ℕ)) → list_any (λ n. not (contains done n)) (cons_option e []) ≡ false → is_place_below (length done) (given_of done e) ≡ true
place_good done None h = refl
place_good done (Some name) h = let l = number_below name done (false_not _ (or_left _ _ h)) in grind (arith, nat_tests, l)

any_parts : (p : List ℕ → Bool) (o : Option (List ℕ)) (xs : List (List ℕ)) → list_any p (cons_option o xs) ≡ false → (list_any p (cons_option o []) ≡ false) × (list_any p xs ≡ false)
any_parts p None xs h = (refl, h)
any_parts p (Some x) xs h = (both_false _ _ (or_left _ _ h) refl, or_right _ _ h)

places_good : (done : List (List ℕ)) (es : List (Option (List ℕ))) → list_any (λ n. not (contains done n)) (filter_map (λ (e : Option (List ℕ)). e) es) ≡ false
    → list_all (is_place_below (length done)) (map (given_of done) es) ≡ true
places_good done [] h = refl
places_good done (e ∷ es) h =
    let p = any_parts (λ n. not (contains done n)) e (filter_map (λ (x : Option (List ℕ)). x) es) h in
    both_true _ _ (place_good done e p.0) (places_good done es p.1)

-- ---- what the rules say of a step

pub record IsFine (done : List (List ℕ)) (f : StepForm) : Type 0 where
  pub good : IsGoodStep f
  pub fresh : contains done f.name ≡ false
  pub known : list_any (λ n. not (contains done n)) (filter_map (λ (e : Option (List ℕ)). e) f.entries) ≡ false
  pub no_qed : contains done (codes "qed") ≡ false
  pub qed : (is_qed f && f.hyp) ≡ false

any_alike : (p q : List ℕ → Bool) → ((x : List ℕ) → p x ≡ q x) → (xs : List (List ℕ)) → list_any p xs ≡ list_any q xs
any_alike p q e [] = refl
any_alike p q e (x ∷ xs) = ap (λ b. b || list_any p xs) (e x) ∙ ap (λ b. q x || b) (any_alike p q e xs)

form_from : (s : Statement) (f : StepForm) → step_in s ≡ Some f → step_of (tokens_in s) ≡ Some f
form_from s f e =
    elim (cases_Bool (is_comment s)) [
      | inl c ↦ let n : step_in s ≡ None = cond_then (is_comment s) _ _ c in absurd (cc)
      | inr c ↦ sym (cond_else (is_comment s) None (step_of (tokens_in s)) c) ∙ e
    ]

pub fine : (before : List Statement) (done : List (List ℕ)) (s : Statement) (f : StepForm) → SameNames before done → IsSound before s → step_in s ≡ Some f → IsFine done f
fine before done s f same h e =
    let qed = or_left _ _ h.qed in
    let at = sym (step_of_form (λ g. contains (names_before before) (codes "qed") || (is_qed g && g.hyp)) s f e) ∙ qed in
    record {
      good = step_good (tokens_in s) f (tokens_of-tokens (s.opening ∷ s.more)) (form_from s f e);
      fresh = sym (same f.name) ∙ sym (step_of_form (λ g. contains (names_before before) g.name) s f e) ∙ h.fresh;
      known = any_alike (λ n. not (contains done n)) (λ n. not (contains (names_before before) n)) (λ n. ap not (sym (same n))) (filter_map (λ (x : Option (List ℕ)). x) f.entries)
          ∙ sym (step_of_form (λ g. list_any (λ n. not (contains (names_before before) n)) (filter_map (λ (x : Option (List ℕ)). x) g.entries)) s f e) ∙ h.known;
      no_qed = sym (same (codes "qed")) ∙ or_left _ _ at;
      qed = or_right _ _ at;
    }

step_spellable : (done : List (List ℕ)) (line : ℕ) (f : StepForm) → IsFine done f → is_step_spellable (length done) (step_at line done f) ≡ true
step_spellable done line f h =
    both_true _ _ (both_true _ _ (both_true _ _ (both_true _ _ h.good.name h.good.unmarked) (places_good done f.entries h.known)) h.good.reference) h.good.formula

-- ---- the steps, one after the other

pub steps_more : (s : Statement) (ss : List Statement) (done : List (List ℕ)) (f : StepForm) → step_in s ≡ Some f
    → steps_in (items_from (s ∷ ss) done) ≡ step_at (line_of s) done f ∷ steps_in (items_from ss (done ++ f.name ∷ []))
steps_more s ss done f e = ap (λ (o : Option StepForm). steps_in (items_at done s o (items_from ss))) e

pub steps_kept : (s : Statement) (ss : List Statement) (done : List (List ℕ)) → step_in s ≡ None → steps_in (items_from (s ∷ ss) done) ≡ steps_in (items_from ss done)
steps_kept s ss done e =
    ap (λ (o : Option StepForm). steps_in (items_at done s o (items_from ss))) e
    ∙ elim (is_comment s) as (λ b. steps_in (cond b (comment_of s ∷ items_from ss done) (items_from ss done)) ≡ steps_in (items_from ss done)) [ true ↦ refl | false ↦ refl ]

-- where a step is named `qed`, none follows
no_steps : (ss before : List Statement) (done : List (List ℕ)) → AreSound before ss → SameNames before done → contains done (codes "qed") ≡ true → steps_in (items_from ss done) ≡ []
no_steps [] before done a same q = refl
no_steps (s ∷ ss) before done a same q =
    elim (case_of (step_in s)) [
      | inl (f, e) ↦ let n = (fine before done s f same a.0 e).no_qed in absurd (cc)
      | inr e ↦ steps_kept s ss done e ∙ no_steps ss (s ∷ before) done a.1 (names_kept before done s e same) q
    ]

pub record AreFine (done : List (List ℕ)) (steps : List SheetStep) : Type 0 where
  pub spellable : are_steps_spellable (length done) steps ≡ true
  pub differ : has_twice (done ++ names_in steps) ≡ false
  pub last : (o : Option (List ℕ)) (p : Option Bool) → contains done (codes "qed") ≡ false → contains (done ++ names_in steps) (codes "qed") ≡ true
      → (last_or o (names_in steps) ≡ Some (codes "qed")) × (last_or p (hyps_in steps) ≡ Some false)

none_fine : (done : List (List ℕ)) → has_twice done ≡ false → AreFine done []
none_fine done h = record {
  spellable = refl;
  differ = ap has_twice (append-nil done) ∙ h;
  last = λ o p n q. let k : contains done (codes "qed") ≡ true = sym (ap (λ l. contains l (codes "qed")) (append-nil done)) ∙ q in absurd (cc);
}

twice_push : (done : List (List ℕ)) (n : List ℕ) → has_twice done ≡ false → contains done n ≡ false → has_twice (done ++ n ∷ []) ≡ false
twice_push [] n h k = refl
twice_push (x ∷ xs) n h k =
    let other : bytes_eq x n ≡ false = (elim (cases_Bool (bytes_eq x n)) [
      | inl e ↦ let f = same_bytes x n e in let g : bytes_eq n n ≡ false = subst (λ y. bytes_eq n y ≡ false) f (or_left _ _ k) in let t = bytes_eq_same n in absurd (cc)
      | inr e ↦ e
    ]) in
    both_false _ _ (any_append (bytes_eq x) xs (n ∷ []) ∙ both_false _ _ (or_left _ _ h) (both_false _ _ other refl)) (twice_push xs n (or_right _ _ h) (or_right _ _ k))

more_fine : (done : List (List ℕ)) (line : ℕ) (f : StepForm) (steps : List SheetStep) → IsFine done f → AreFine (done ++ f.name ∷ []) steps
    → (contains (done ++ f.name ∷ []) (codes "qed") ≡ true → steps ≡ []) → AreFine done (step_at line done f ∷ steps)
more_fine done line f steps h k none =
    let len : length (done ++ f.name ∷ []) ≡ suc (length done) = omega (arith, length-append done (f.name ∷ [])) in
    record {
      spellable = both_true _ _ (step_spellable done line f h) (subst (λ n. are_steps_spellable n steps ≡ true) len k.spellable);
      differ = ap has_twice (sym (append_assoc done (f.name ∷ []) (names_in steps))) ∙ k.differ;
      last = λ o p n q.
          elim (cases_Bool (contains (done ++ f.name ∷ []) (codes "qed"))) [
            | inl e ↦
                let empty = none e in
                let named : contains (f.name ∷ []) (codes "qed") ≡ true =
                ap (λ b. b || contains (f.name ∷ []) (codes "qed")) (sym n) ∙ sym (any_append (bytes_eq (codes "qed")) done (f.name ∷ [])) ∙ e in
                let is : codes "qed" ≡ f.name = same_bytes (codes "qed") f.name (only _ named) in
                let qed : is_qed f ≡ true = ap (λ (t : List ℕ). bytes_eq t (codes "qed")) (sym is) in
                let hyp : f.hyp ≡ false = ap (λ b. b && f.hyp) (sym qed) ∙ h.qed in (
                  ap (λ (ss : List SheetStep). last_or (Some f.name) (names_in ss)) empty ∙ ap (λ (t : List ℕ). Some t) (sym is),
                  ap (λ (ss : List SheetStep). last_or (Some f.hyp) (hyps_in ss)) empty ∙ ap (λ (b : Bool). Some b) hyp,
                )
            | inr e ↦ k.last (Some f.name) (Some f.hyp) e (ap (λ l. contains l (codes "qed")) (append_assoc done (f.name ∷ []) (names_in steps)) ∙ q)
          ];
    }
  where
    only : (b : Bool) → (b || false) ≡ true → b ≡ true
    only true e = refl
    only false e = e

pub steps_fine : (ss before : List Statement) (done : List (List ℕ)) → AreSound before ss → SameNames before done → has_twice done ≡ false → AreFine done (steps_in (items_from ss done))
steps_fine [] before done a same t = none_fine done t
steps_fine (s ∷ ss) before done a same t =
    elim (case_of (step_in s)) [
      | inl (f, e) ↦
          let h = fine before done s f same a.0 e in
          let later = names_more before done s f e same in
          subst (AreFine done) (sym (steps_more s ss done f e))
          (more_fine done (line_of s) f _ h (steps_fine ss (s ∷ before) (done ++ f.name ∷ []) a.1 later (twice_push done f.name t h.fresh)) (no_steps ss (s ∷ before) (done ++ f.name ∷ []) a.1 later))
      | inr e ↦ subst (AreFine done) (sym (steps_kept s ss done e)) (steps_fine ss (s ∷ before) done a.1 (names_kept before done s e same) t)
    ]
