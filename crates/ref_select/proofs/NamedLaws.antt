-- The written step of a name, by the number of the step that has it.
use Rattle.std.specs.Prelude.{◌≡◌, ℕ, zero, suc, ◌+◌, ◌≤◌, Bool, true, false, not, List, [], ◌∷◌, length, find, position, slice_get, nat_lt, Some, None, refl}
use Rattle.std.specs.Borrow.{Bor}
use Rattle.std.specs.List.{AllZip, position_or_len}
use Rattle.std.specs.Str.{bytes_eq}
use Rattle.std.proofs.Common.{sym, ap, subst, cond, ◌∙◌, arith}
use Rattle.std.proofs.lemmas.Bool.Decides.{nat_tests}
use Rattle.std.proofs.lemmas.List.Folds.{find_at}
use Rattle.mm_model.specs.Names.{Name}
use Rattle.sheet_text.specs.declared.sheet.SheetStep.{SheetStep}
use Rattle.written_model.specs.WrittenSteps.{WrittenStep}
use Rattle.ref_select.specs.Asked.{refs}
use Rattle.ref_select.specs.Selecting.{IsWrittenAs}

some_is : (b : Bool) (k n : ℕ) → cond b (Some k) None ≡ Some n → k ≡ n
some_is true k n e = cc
some_is false k n e = absurd (cc)

none_is : (b : Bool) (k : ℕ) → cond b (Some k) None ≡ None → b ≡ false
none_is true k e = absurd (cc)
none_is false k e = refl

past : {X : Type 0} (xs : List X) (k : ℕ) → length xs ≤ k → slice_get xs k ≡ None
past [] k h = refl
past (x ∷ xs) zero h = absurd (omega (arith, h))
past (x ∷ xs) (suc k) h = past xs k (omega (arith, h))

at_least : (k n : ℕ) → nat_lt k n ≡ false → n ≤ k
at_least k n h = grind (arith, nat_tests, h)

module _ (name : Name) where
  abbrev pub has_name : SheetStep → Bool
  has_name s = bytes_eq s.name name

  abbrev pub is_named : WrittenStep → Bool
  is_named e = bytes_eq e.name name

  -- the same number of the references
  refs_number : (steps : List (Bor SheetStep)) → position_or_len (λ (s : Bor SheetStep). has_name s.now) steps ≡ position_or_len has_name (refs steps)
  refs_number [] = refl
  refs_number (s ∷ steps) = ap (λ k. cond (not (has_name s.now)) (1 + k) 0) (refs_number steps)

  refs_length : (steps : List (Bor SheetStep)) → length steps ≡ length (refs steps)
  refs_length [] = refl
  refs_length (s ∷ steps) = ap suc (refs_length steps)

  pub refs_position : (steps : List (Bor SheetStep)) → position (λ (s : Bor SheetStep). has_name s.now) steps ≡ position has_name (refs steps)
  refs_position steps =
      ap (λ k. cond (nat_lt k (length steps)) (Some k) None) (refs_number steps)
      ∙ ap (λ n. cond (nat_lt (position_or_len has_name (refs steps)) n) (Some (position_or_len has_name (refs steps))) None) (refs_length steps)

  same_number : (ss : List SheetStep) (es : List WrittenStep) → AllZip IsWrittenAs ss es → position_or_len has_name ss ≡ position_or_len is_named es
  same_number [] [] h = refl
  same_number [] (e ∷ es) h = absurd h
  same_number (s ∷ ss) [] h = absurd h
  same_number (s ∷ ss) (e ∷ es) h =
      ap (λ n. cond (not (bytes_eq n name)) (1 + position_or_len has_name ss) 0) h.0.name ∙ ap (λ k. cond (not (bytes_eq e.name name)) (1 + k) 0) (same_number ss es h.1)

  same_length : (ss : List SheetStep) (es : List WrittenStep) → AllZip IsWrittenAs ss es → length ss ≡ length es
  same_length [] [] h = refl
  same_length [] (e ∷ es) h = absurd h
  same_length (s ∷ ss) [] h = absurd h
  same_length (s ∷ ss) (e ∷ es) h = ap suc (same_length ss es h.1)

  module _ (ss : List SheetStep) (es : List WrittenStep) (each : AllZip IsWrittenAs ss es) where
    found_there : find is_named es ≡ slice_get es (position_or_len has_name ss)
    found_there = find_at is_named es ∙ ap (slice_get es) (sym (same_number ss es each))

    pub named_at : (n : ℕ) → position has_name ss ≡ Some n → slice_get es n ≡ find is_named es
    named_at n h = ap (slice_get es) (sym (some_is (nat_lt (position_or_len has_name ss) (length ss)) (position_or_len has_name ss) n h)) ∙ sym found_there

    pub not_named : position has_name ss ≡ None → find is_named es ≡ None
    not_named h =
        let most : length ss ≤ position_or_len has_name ss = at_least _ _ (none_is (nat_lt (position_or_len has_name ss) (length ss)) (position_or_len has_name ss) h) in
        found_there ∙ past es (position_or_len has_name ss) (subst (λ n. n ≤ position_or_len has_name ss) (same_length ss es each) most)
