-- The numbers of names, and the least number whose name is not used.
use Rattle.std.proofs.Common.{◌≡◌, ℕ, zero, suc, ◌+◌, ◌<◌, ◌≤◌, ◌^◌, ◌==◌, Bool, true, false, not, ◌||◌, List, [], ◌∷◌, ◌++◌, map, find, take, length}
use Rattle.std.proofs.Common.{get_or, Some, unwrap_or, nat_lt, codes, decimal, refl, sym, ap, subst, ◌∙◌, inl, inr, add-one, arith}
use Rattle.std.specs.List.{range_with_len}
use Rattle.std.specs.Str.{bytes_eq}
use Rattle.std.proofs.lemmas.Bool.{cases_Bool}
use Rattle.std.proofs.lemmas.Bool.Decides.{nat_tests}
use Rattle.std.proofs.lemmas.Fmt.{decimal_injective}
use Rattle.std.proofs.lemmas.List.{length-append, append_cancel_left}
use Rattle.std.proofs.lemmas.List.Folds.{list_any-append}
use Rattle.std.proofs.lemmas.Slice.Eq.{bytes_eq-Decides}
use Rattle.std.proofs.Math.Nat.{eq-or-lt_of_le}
use Rattle.std.proofs.Math.Seq.{take-suc}
use Rattle.mm_model.specs.Names.{Name, contains}
use Rattle.written_model.specs.Filled.{derived_name}
use Rattle.work_vars.specs.Free.{is_used, IsLeastFree}
use Rattle.hyp_derive.specs.Naming.{numbered_name, AreNumbersOf, IsLeastName}

-- ---- one name more

name_test : (n m : ℕ) (name : Name) → n < 2 ^ 64 → m < 2 ^ 64 → name ≡ numbered_name m → (n == m) ≡ bytes_eq (numbered_name n) name
name_test n m name h k e = elim (cases_Bool (n == m)) [
  | inl f ↦ let same : n ≡ m = grind (arith, nat_tests, f) in f ∙ sym ((bytes_eq-Decides (numbered_name n) name).1 (ap numbered_name same ∙ sym e))
  | inr f ↦ f ∙ sym (no_test (bytes_eq (numbered_name n) name) (λ t.
      let is : numbered_name n ≡ numbered_name m = (bytes_eq-Decides (numbered_name n) name).0 t ∙ e in
      let same : n ≡ m = decimal_injective n m h k (append_cancel_left (codes "d") (decimal n) (decimal m) is) in
      let told : (n == m) ≡ true = grind (arith, nat_tests, same) in
      cc))
]
  where
    no_test : (b : Bool) → (b ≡ true → ⊥) → b ≡ false
    no_test true h = absurd (h refl)
    no_test false h = refl

pub other_test : (n : ℕ) (name : Name) → (name ≡ numbered_name n → ⊥) → bytes_eq (numbered_name n) name ≡ false
other_test n name h = no_test (bytes_eq (numbered_name n) name) (λ t. h (sym ((bytes_eq-Decides (numbered_name n) name).0 t)))
  where
    no_test : (b : Bool) → (b ≡ true → ⊥) → b ≡ false
    no_test true h = absurd (h refl)
    no_test false h = refl

or_false : (a : Bool) → (a || false) ≡ a
or_false true = refl
or_false false = refl

used_more : (xs : List ℕ) (m n : ℕ) → is_used (xs ++ m ∷ []) n ≡ (is_used xs n || (n == m))
used_more xs m n = list_any-append (λ k. n == k) xs (m ∷ []) ∙ ap (λ b. is_used xs n || b) (or_false (n == m))

pub contains_more : (xs : List Name) (name d : Name) → contains (xs ++ name ∷ []) d ≡ (contains xs d || bytes_eq d name)
contains_more xs name d = list_any-append (bytes_eq d) xs (name ∷ []) ∙ ap (λ b. contains xs d || b) (or_false (bytes_eq d name))

put_number : (xs : List Name) (numbers : List ℕ) (name : Name) (m : ℕ) → AreNumbersOf xs numbers → m < 2 ^ 64 → name ≡ numbered_name m → AreNumbersOf (xs ++ name ∷ []) (numbers ++ m ∷ [])
put_number xs numbers name m are h e = record {
  bounded = omega (arith, are.bounded, length-append xs (name ∷ []), length-append numbers (m ∷ []));
  same = λ n k.
      used_more numbers m n ∙ ap (λ b. b || (n == m)) (are.same n k) ∙ ap (λ b. contains xs (numbered_name n) || b) (name_test n m name k h e)
      ∙ sym (contains_more xs name (numbered_name n));
}

put_other : (xs : List Name) (numbers : List ℕ) (name : Name) → AreNumbersOf xs numbers → ((n : ℕ) → n < 2 ^ 64 → name ≡ numbered_name n → ⊥) → AreNumbersOf (xs ++ name ∷ []) numbers
put_other xs numbers name are h = record {
  bounded = omega (arith, are.bounded, length-append xs (name ∷ []));
  same = λ n k.
      are.same n k ∙ sym (or_false (contains xs (numbered_name n))) ∙ ap (λ b. contains xs (numbered_name n) || b) (sym (other_test n name (h n k)))
      ∙ sym (contains_more xs name (numbered_name n));
}

next_names : (used : List Name) (i : ℕ) (name : Name) → i < length used → name ≡ get_or used i name → take (i + 1) used ≡ take i used ++ name ∷ []
next_names used i name h is = ap (λ k. take k used) (add-one i) ∙ take-suc used i name h ∙ ap (λ x. take i used ++ x ∷ []) (sym is)

pub numbers_more : (used : List Name) (numbers numbers' : List ℕ) (i m : ℕ) (name slice : Name) → i < length used → name ≡ get_or used i name → slice ≡ name
    → AreNumbersOf (take i used) numbers → m < 2 ^ 64 → slice ≡ numbered_name m → numbers' ≡ numbers ++ m ∷ [] → AreNumbersOf (take (i + 1) used) numbers'
numbers_more used numbers numbers' i m name slice h is s are k e f =
    let put = put_number (take i used) numbers name m are k (sym s ∙ e) in
    subst (λ xs. AreNumbersOf xs numbers') (sym (next_names used i name h is)) (subst (λ ns. AreNumbersOf (take i used ++ name ∷ []) ns) (sym f) put)

pub numbers_same : (used : List Name) (numbers : List ℕ) (i : ℕ) (name slice : Name) → i < length used → name ≡ get_or used i name → slice ≡ name
    → AreNumbersOf (take i used) numbers → ((n : ℕ) → n < 2 ^ 64 → slice ≡ numbered_name n → ⊥) → AreNumbersOf (take (i + 1) used) numbers
numbers_same used numbers i name slice h is s are none =
    subst (λ xs. AreNumbersOf xs numbers) (sym (next_names used i name h is)) (put_other (take i used) numbers name are (λ n k e. none n k (s ∙ e)))

-- ---- the least number whose name is not used

pub find_first : (used : List Name) (n a k : ℕ) → a ≤ k → k < a + n → contains used (numbered_name k) ≡ false → ((j : ℕ) → a ≤ j → j < k → contains used (numbered_name j) ≡ true)
    → find (λ name. not (contains used name)) (map numbered_name (range_with_len a n)) ≡ Some (numbered_name k)
find_first used zero a k h l free below = absurd (omega arith)
find_first used (suc n) a k h l free below = elim (eq-or-lt_of_le h) [
  | inl e ↦ let here : contains used (numbered_name a) ≡ false = ap (λ m. contains used (numbered_name m)) e ∙ free in rw here (ap (λ m. Some (numbered_name m)) e)
  | inr less ↦ let here : contains used (numbered_name a) ≡ true = below a (omega arith) less in
      rw here (find_first used n (a + 1) k (omega arith) (omega arith) free (λ j from to. below j (omega arith) to))
]

pub name_is : (used : List Name) (numbers : List ℕ) (k : ℕ) → AreNumbersOf used numbers → IsLeastFree numbers k → k ≤ length numbers + 1 → k < 2 ^ 64 → numbered_name k ≡ derived_name used
name_is used numbers k are least bound small =
    let free : contains used (numbered_name k) ≡ false = sym (are.same k small) ∙ least.holds in
    let below : (j : ℕ) → 1 ≤ j → j < k → contains used (numbered_name j) ≡ true = λ j from to. sym (are.same j (omega (arith, to, small))) ∙ used_below j from to in
    ap (λ o. unwrap_or o []) (sym (find_first used (suc (length used)) 1 k least.from_one (omega (arith, bound, are.bounded)) free below))
  where
    used_or : (j : ℕ) (b : Bool) → is_used numbers j ≡ b → 1 ≤ j → j < k → b ≡ true
    used_or j true e from to = refl
    used_or j false e from to = let most = least.least j from e in absurd (omega (arith, most, to))

    used_below : (j : ℕ) → 1 ≤ j → j < k → is_used numbers j ≡ true
    used_below j from to = used_or j (is_used numbers j) refl from to

pub name_least : (used : List Name) (numbers : List ℕ) (k : ℕ) → AreNumbersOf used numbers → IsLeastFree numbers k → k < 2 ^ 64 → IsLeastName used (numbered_name k)
name_least used numbers k are least small = record {
  number = k;
  named = refl;
  least = record { from_one = least.from_one; holds = sym (are.same k small) ∙ least.holds; least = λ m from free. at m from free (nat_lt m k) refl };
}
  where
    at : (m : ℕ) → 1 ≤ m → contains used (numbered_name m) ≡ false → (b : Bool) → nat_lt m k ≡ b → k ≤ m
    at m from free true t = let less : m < k = grind (arith, nat_tests, t) in least.least m from (are.same m (omega (arith, less, small)) ∙ free)
    at m from free false f = grind (arith, nat_tests, f)
