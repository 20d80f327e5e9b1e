-- The number of the fault that a number is too large.
use Rattle.std.proofs.Common.{◌≡◌, ℕ, suc, ◌+◌, ◌-◌, ◌*◌, true, false, cond, eqb, ltb, List, [], ◌∷◌, length, take, Result, Ok, Err, refl, sym, ap, ◌∙◌, arith, subst, inl, inr}
use mathlib.Core.List.{reverse_aux}
use Rattle.std.specs.Prelude.{reverse, slice_index_or}
use Rattle.std.specs.List.{list_any}
use Rattle.std.proofs.lemmas.Bool.{cases_Bool, or_left, or_right}
use Rattle.proof_model.specs.ProofCode.{is_last, is_leading, digits_before, number_at}
use Rattle.proof_model.specs.declared.code.What.TheVariants.{Unknown}
use Rattle.proof_model.specs.declared.code.Step.{Step}
use Rattle.compressed_proof.specs.declared.steps.Prior.{Prior}
use Rattle.compressed_proof.specs.declared.steps.Prior.TheVariants as prior
use Rattle.compressed_proof.specs.declared.fault.CodeFault.{CodeFault}
use Rattle.compressed_proof.specs.declared.fault.CodeFault.TheVariants as faults
use Rattle.compressed_proof.specs.Decoded.{capped}
use Rattle.compressed_proof.specs.Reading.{with_digit, with_last, with_front, pending, is_digits, read_letters, marked, what_of}
use Rattle.compressed_proof.proofs.FaultLaw.{IsPrior, is_step, cond_else, value_is, digit_is, last_is, query_is, mark_is}
use Rattle.compressed_proof.proofs.Reverses.{item_there, items_before}

-- the number at this place of the letters
abbrev pub number_there : List ℕ → ℕ → ℕ
number_there whole i = capped (number_at (reverse (take i whole)) (slice_index_or whole i 0))

-- where reading fails with a number that is too large, it is the one at its place
abbrev pub HasNumber : List ℕ → Result (List Step) CodeFault → Type 0
HasNumber whole (Ok ss) = Unit {0}
HasNumber whole (Err (faults.NumberTooLarge i n)) = n ≡ number_there whole i
HasNumber whole (Err _) = Unit {0}

number_front : (whole : List ℕ) (front : List Step) (r : Result (List Step) CodeFault) → HasNumber whole r → HasNumber whole (with_front front r)
number_front whole front (Ok ss) h = tt
number_front whole front (Err e) h = h

number_is : (p : Prior) (before : List ℕ) (b : ℕ) (bs : List ℕ) → IsPrior before p → with_last p b ≡ number_there (reverse_aux before (b ∷ bs)) (length before)
number_is p before b bs h =
    let whole : List ℕ = reverse_aux before (b ∷ bs) in
    let exact : capped (capped (20 * capped (digits_before before)) + (b - 64)) ≡ capped (20 * digits_before before + (b - 64)) = omega arith in
    ap (λ (v : ℕ). capped (capped (20 * v) + (b - 64))) (value_is before p h) ∙ exact
    ∙ ap (λ (l : List ℕ). capped (number_at l b)) (sym (items_before before (b ∷ bs))) ∙ ap (λ (c : ℕ). capped (number_at (reverse (take (length before) whole)) c)) (sym (item_there before b bs))

-- reading on behind this letter
abbrev Later : ℕ → ℕ → List ℕ → ℕ → List ℕ → Type 0
Later m n before b bs = (q : Prior) (k : ℕ) → IsPrior (b ∷ before) q → HasNumber (reverse_aux before (b ∷ bs)) (read_letters m n k q (suc (length before)) bs)

number_mark : (m n marks : ℕ) (p : Prior) (before : List ℕ) (b : ℕ) (bs : List ℕ) → IsPrior before p → eqb b 90 ≡ true → Later m n before b bs
    → HasNumber (reverse_aux before (b ∷ bs)) (read_letters m n marks p (length before) (b ∷ bs))
number_mark m n marks prior.Start before b bs h e later = let f = mark_is b e in rw (f.0, f.1, f.2, e) tt
number_mark m n marks (prior.Digits v) before b bs h e later = let f = mark_is b e in rw (f.0, f.1, f.2, e) tt
number_mark m n marks prior.Mark before b bs h e later = let f = mark_is b e in rw (f.0, f.1, f.2, e) tt
number_mark m n marks (prior.Step w) before b bs h e later =
    let f = mark_is b e in
    let next = read_letters m n (suc marks) prior.Mark (suc (length before)) bs in
    let read : read_letters m n marks (prior.Step w) (length before) (b ∷ bs) ≡ with_front (marked w ∷ []) next = rw (f.0, f.1, f.2, e) refl in
    let there : IsPrior (b ∷ before) prior.Mark = (f.0, e, or_right (is_step b) (list_any is_step before) h.2, cond_else (is_leading b) (5 * digits_before before + (b - 84)) 0 f.0) in
    subst (HasNumber (reverse_aux before (b ∷ bs))) (sym read) (number_front (reverse_aux before (b ∷ bs)) (marked w ∷ []) next (later prior.Mark (suc marks) there))

pub number_law : (m n marks : ℕ) (p : Prior) (before letters : List ℕ) → IsPrior before p → HasNumber (reverse_aux before letters) (read_letters m n marks p (length before) letters)
number_law m n marks p before [] h = elim (is_digits p) as (λ t. HasNumber (reverse_aux before []) (cond t (Err (faults.UnendedNumber (length before))) (Ok (pending p)))) [ true ↦ tt | false ↦ tt ]
number_law m n marks p before (b ∷ bs) h =
    let later : Later m n before b bs = λ q k hq. number_law m n k q (b ∷ before) bs hq in
    let whole : List ℕ = reverse_aux before (b ∷ bs) in
    elim (cases_Bool (is_leading b)) [
      | inl e ↦
          let next = read_letters m n marks (prior.Digits (with_digit p b)) (suc (length before)) bs in
          let digits : with_digit p b ≡ capped (digits_before (b ∷ before)) = rw (e, value_is before p h) (digit_is (digits_before before) (b - 84)) in
          let read : read_letters m n marks p (length before) (b ∷ bs) ≡ with_front (pending p) next = rw e refl in
          subst (HasNumber whole) (sym read) (number_front whole (pending p) next (later (prior.Digits (with_digit p b)) marks (e, digits)))
      | inr e1 ↦
          elim (cases_Bool (is_last b)) [
            | inl e ↦
                let f = last_is b e in
                let next = read_letters m n marks (prior.Step (what_of m n (with_last p b))) (suc (length before)) bs in
                let there : IsPrior (b ∷ before) (prior.Step (what_of m n (with_last p b))) = (
                  f.0,
                  f.2,
                  or_left (is_step b) (list_any is_step before) (or_left (is_last b) (eqb b 63) e),
                  cond_else (is_leading b) (5 * digits_before before + (b - 84)) 0 f.0,
                ) in
                let read : read_letters m n marks p (length before) (b ∷ bs)
                ≡ cond (ltb (m + n + marks) (with_last p b)) (Err (faults.NumberTooLarge (length before) (with_last p b)))
                (with_front (pending p) next) =
                rw (e1, e) refl in
                subst (HasNumber whole) (sym read)
                (elim (ltb (m + n + marks) (with_last p b)) as
                (λ t. HasNumber whole (cond t (Err (faults.NumberTooLarge (length before) (with_last p b))) (with_front (pending p) next))) [
                  | true ↦ number_is p before b bs h
                  | false ↦ number_front whole (pending p) next (later (prior.Step (what_of m n (with_last p b))) marks there)
                ])
            | inr e2 ↦
                elim (cases_Bool (eqb b 63)) [
                  | inl e ↦
                      let f = query_is b e in
                      let next = read_letters m n marks (prior.Step Unknown) (suc (length before)) bs in
                      let there : IsPrior (b ∷ before) (prior.Step Unknown) = (
                        f.0,
                        f.2,
                        or_left (is_step b) (list_any is_step before) (or_right (is_last b) (eqb b 63) e),
                        cond_else (is_leading b) (5 * digits_before before + (b - 84)) 0 f.0,
                      ) in
                      let read : read_letters m n marks p (length before) (b ∷ bs)
                      ≡ cond (is_digits p) (Err (faults.UnendedNumber (length before))) (with_front (pending p) next) =
                      rw (e1, e2, e) refl in
                      subst (HasNumber whole) (sym read) (elim (is_digits p) as (λ t. HasNumber whole (cond t (Err (faults.UnendedNumber (length before))) (with_front (pending p) next))) [
                        | true ↦ tt
                        | false ↦ number_front whole (pending p) next (later (prior.Step Unknown) marks there)
                      ])
                  | inr e3 ↦
                      elim (cases_Bool (eqb b 90)) [
                        | inl e ↦ number_mark m n marks p before b bs h e later
                        | inr e4 ↦ rw (e1, e2, e3, e4) tt
                      ]
                ]
          ]
    ]
