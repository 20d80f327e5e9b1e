-- The word at the front, and whether it has a dollar.
use Rattle.std.proofs.Common.{◌≡◌, ℕ, suc, ◌+◌, ◌-◌, Bool, true, false, ◌==◌, List, [], ◌∷◌, length, take, drop, refl, sym, ap, ◌∙◌, arith, inl, inr, subst, slice_range}
use Rattle.std.proofs.lemmas.Bool.{cases_Bool, eqb-true, or_parts}
use Rattle.std.proofs.lemmas.Grind.{common_steps}
use Rattle.std.proofs.Common.{true≢false, None, position}
use Rattle.std.specs.List.{list_any, prefix_len, position_or_len}
use Rattle.mm_model.specs.Words.{is_white}
use Rattle.mm_tokens.specs.Scan.{is_plain, begins_with_dollar}
use Rattle.mm_tokens.proofs.WordLaws.{is_inked}
use Rattle.mm_tokens.proofs.NextWord.{tail, tail_is}

abbrev is_dollar : ℕ → Bool
is_dollar b = b == 36

dollar_is_inked : (b : ℕ) → (b == 36) ≡ true → is_white b ≡ false
dollar_is_inked b h = subst (λ (n : ℕ). is_white n ≡ false) (sym (eqb-true b 36 h)) refl

-- past the bytes that are no dollar the word goes on
pub plain_then : (bs : List ℕ) → prefix_len is_inked bs ≡ prefix_len is_plain bs + prefix_len is_inked (drop (prefix_len is_plain bs) bs)
plain_then [] = refl
plain_then (b ∷ bs) =
    let one : 1 + prefix_len is_plain bs ≡ suc (prefix_len is_plain bs) = omega arith in
    elim (cases_Bool (is_white b)) [
      | inl e ↦ rw (e, e) refl
      | inr e ↦
          elim (cases_Bool (b == 36)) [
            | inl d ↦ rw (e, d, e) (omega arith)
            | inr d ↦ rw (e, d, one) (let h = plain_then bs in omega arith)
          ]
    ]

-- where no dollar comes next, the word ends
pub ends_there : (bs : List ℕ) → begins_with_dollar (drop (prefix_len is_plain bs) bs) ≡ false → prefix_len is_plain bs ≡ prefix_len is_inked bs
ends_there [] h = refl
ends_there (b ∷ bs) h =
    let one : 1 + prefix_len is_plain bs ≡ suc (prefix_len is_plain bs) = omega arith in
    elim (cases_Bool (is_white b)) [
      | inl e ↦ rw e refl
      | inr e ↦
          elim (cases_Bool (b == 36)) [
            | inl d ↦ absurd (true≢false (let h' : true ≡ false = rw (e, d, d) at h in h'))
            | inr d ↦
                let h' : begins_with_dollar (drop (prefix_len is_plain bs) bs) ≡ false = rw (e, d, one) at h in
                rw (e, d) (ap (λ (n : ℕ). 1 + n) (ends_there bs h'))
          ]
    ]

pub no_dollar : (bs : List ℕ) → list_any is_dollar (take (prefix_len is_plain bs) bs) ≡ false
no_dollar [] = refl
no_dollar (b ∷ bs) =
    let one : 1 + prefix_len is_plain bs ≡ suc (prefix_len is_plain bs) = omega arith in
    elim (cases_Bool (is_white b)) [
      | inl e ↦ rw e refl
      | inr e ↦
          elim (cases_Bool (b == 36)) [
            | inl d ↦ rw (e, d) refl
            | inr d ↦ rw (e, d, one, d) (no_dollar bs)
          ]
    ]

pub a_dollar : (bs : List ℕ) → begins_with_dollar (drop (prefix_len is_plain bs) bs) ≡ true → list_any is_dollar (take (prefix_len is_inked bs) bs) ≡ true
a_dollar [] h = absurd cc
a_dollar (b ∷ bs) h =
    let one : 1 + prefix_len is_plain bs ≡ suc (prefix_len is_plain bs) = omega arith in
    let more : 1 + prefix_len is_inked bs ≡ suc (prefix_len is_inked bs) = omega arith in
    elim (cases_Bool (is_white b)) [
      | inl e ↦ absurd (true≢false (sym e ∙ dollar_is_inked b (rw e at h)))
      | inr e ↦
          elim (cases_Bool (b == 36)) [
            | inl d ↦ rw (e, more, d) refl
            | inr d ↦
                let h' : begins_with_dollar (drop (prefix_len is_plain bs) bs) ≡ true = rw (e, d, one) at h in
                rw (e, more, d) (a_dollar bs h')
          ]
    ]

-- the word at the front, where a dollar comes next
pub marked_more : (bs : List ℕ) (n m : ℕ) (d : Bool) → n ≡ prefix_len is_plain bs → d ≡ begins_with_dollar (tail bs n) → d ≡ true
    → m ≡ prefix_len is_inked (tail bs n)
    → (n + m ≡ prefix_len is_inked bs) × (true ≡ list_any is_dollar (take (n + m) bs))
marked_more bs n m d en ed is_there em =
    let em' : m ≡ prefix_len is_inked (drop (prefix_len is_plain bs) bs) =
    em ∙ ap (λ (t : List ℕ). prefix_len is_inked t) (tail_is bs n) ∙ ap (λ (k : ℕ). prefix_len is_inked (drop k bs)) en in
    let there : begins_with_dollar (drop (prefix_len is_plain bs) bs) ≡ true =
    sym (ed ∙ ap begins_with_dollar (tail_is bs n) ∙ ap (λ (k : ℕ). begins_with_dollar (drop k bs)) en) ∙ is_there in
    let len : n + m ≡ prefix_len is_inked bs =
    ap (λ (k : ℕ). k + m) en ∙ ap (λ (k : ℕ). prefix_len is_plain bs + k) em' ∙ sym (plain_then bs) in
    (len, sym (ap (λ (k : ℕ). list_any is_dollar (take k bs)) len ∙ a_dollar bs there))

-- and where none does
pub marked_end : (bs : List ℕ) (n : ℕ) (d : Bool) → n ≡ prefix_len is_plain bs → d ≡ begins_with_dollar (tail bs n) → d ≡ false
    → (n ≡ prefix_len is_inked bs) × (false ≡ list_any is_dollar (take n bs))
marked_end bs n d en ed not_there =
    let none : begins_with_dollar (drop (prefix_len is_plain bs) bs) ≡ false =
    sym (ed ∙ ap begins_with_dollar (tail_is bs n) ∙ ap (λ (k : ℕ). begins_with_dollar (drop k bs)) en) ∙ not_there in
    (en ∙ ends_there bs none, sym (ap (λ (k : ℕ). list_any is_dollar (take k bs)) en ∙ no_dollar bs))

-- the same of a word of a text
pub marks_of : (text : List ℕ) (start n : ℕ) (dollar : Bool) → dollar ≡ list_any is_dollar (take n (tail text start))
    → dollar ≡ list_any is_dollar (slice_range text start (start + n))
marks_of text start n dollar h =
    let k : n ≡ start + n - start = omega arith in
    h ∙ ap (λ (t : List ℕ). list_any is_dollar (take n t)) (tail_is text start) ∙ ap (λ (j : ℕ). list_any is_dollar (take j (drop start text))) k

-- where no item passes, none is found
none_passes : (p : ℕ → Bool) (xs : List ℕ) → list_any p xs ≡ false → position_or_len p xs ≡ length xs
none_passes p [] e = refl
none_passes p (x ∷ xs) e =
    let parts = or_parts (p x) (list_any p xs) e in
    let here : p x ≡ false = parts.0 in
    let rest : position_or_len p xs ≡ length xs = none_passes p xs parts.1 in
    rw here (omega (arith, rest))

pub none_found : (p : ℕ → Bool) (xs : List ℕ) → list_any p xs ≡ false → None ≡ position p xs
none_found p xs e = let past : position_or_len p xs ≡ length xs = none_passes p xs e in grind (arith, common_steps)
