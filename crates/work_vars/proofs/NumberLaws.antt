-- The number of a work variable, as it is read from a token for a typecode.
use Rattle.std.proofs.Common.{◌≡◌, ◌≢◌, ℕ, zero, suc, ◌+◌, ◌-◌, ◌*◌, ◌<◌, ◌≤◌, ◌^◌, ◌==◌, Bool, true, false, ◌&&◌, nat_eq, nat_lt, List, [], ◌∷◌}
use Rattle.std.proofs.Common.{◌++◌, fold, length, take, drop, Option, Some, None, option_and_then, decimal, refl, sym, ap, subst, ◌∙◌, inl, inr}
use Rattle.std.proofs.Common.{arith}
use Rattle.std.specs.Bool.{then_some}
use Rattle.std.specs.List.{starts_with}
use Rattle.std.specs.Str.{bytes_eq, all_ascii_digits}
use Rattle.std.specs.Str.Parse.{AllDigits}
use Rattle.std.proofs.lemmas.Bool.{cases_Bool}
use Rattle.std.proofs.lemmas.Bool.Decides.{nat_tests, Decides-eqb}
use Rattle.std.proofs.lemmas.Fmt.{digits_value-decimal}
use Rattle.std.proofs.lemmas.List.{drop_at}
use Rattle.std.proofs.lemmas.Slice.Eq.{bytes_eq-Decides, starts_is}
use Rattle.std.proofs.lemmas.Str.Parse.{IsNumeralModel, FoldsDigits, numerals_by_fold, tells_all_ascii_digits}
use Rattle.mm_model.specs.Names.{Name}
use Rattle.sheet_text.specs.Forms.{after_prefix}
use Rattle.solve_model.specs.Formulas.{prefix_of, spelling, number_of, work_number_of, work_number}
use Rattle.work_vars.specs.Spelled.{IsNameOf, IsNamedBy, number_by}

-- ---- a text behind a prefix

begins : (p bytes : List ℕ) → (starts_with nat_eq bytes p ≡ true → bytes ≡ p ++ drop (length p) bytes) × ((rest : List ℕ) → bytes ≡ p ++ rest → starts_with nat_eq bytes p ≡ true)
begins p bytes = starts_is Decides-eqb bytes p (starts_with nat_eq bytes p) refl

behind : (p bytes rest : List ℕ) → bytes ≡ p ++ rest → after_prefix p bytes ≡ Some rest
behind p bytes rest e =
    let there : starts_with nat_eq bytes p ≡ true = (begins p bytes).1 rest e in
    let is : drop (length p) bytes ≡ rest = ap (drop (length p)) e ∙ drop_at p rest (length p) refl in
    rw there (ap (λ (l : List ℕ). Some l) is)

parted : (p bytes rest : List ℕ) → after_prefix p bytes ≡ Some rest → bytes ≡ p ++ rest
parted p bytes rest e = elim (cases_Bool (starts_with nat_eq bytes p)) [
  | inl h ↦ let is : Some (drop (length p) bytes) ≡ Some rest = rw h at e in let same : drop (length p) bytes ≡ rest = cc in (begins p bytes).0 h ∙ ap (λ l. p ++ l) same
  | inr h ↦ let is : None ≡ Some rest = rw h at e in absurd (cc)
]

-- ---- the value of digits

value_from : ℕ → List ℕ → ℕ
value_from n ds = fold (λ m d. 10 * m + (d - 48)) n ds

folds : FoldsDigits value_from
unfolding value_from
folds = record { empty = λ n. refl; more = λ n c cs h. ap (λ m. fold (λ m d. 10 * m + (d - 48)) (m + (c - 48)) cs) (omega arith) }

own : IsNumeralModel (λ ds. all_ascii_digits ds ≡ true) (value_from 0)
own = numerals_by_fold _ tells_all_ascii_digits value_from folds

value_is : (n : ℕ) → n < 2 ^ 64 → number_of (decimal n) ≡ n
unfolding value_from
value_is n h = digits_value-decimal own n h

-- ---- the number of a work variable

and_parts : (a b : Bool) → (a && b) ≡ true → (a ≡ true) × (b ≡ true)
and_parts true true h = (refl, refl)
and_parts true false h = absurd (cc)
and_parts false b h = absurd (cc)

then_told : (b : Bool) (x n : ℕ) → then_some b x ≡ Some n → (b ≡ true) × (x ≡ n)
then_told true x n e = (refl, cc)
then_told false x n e = absurd (cc)

read_digits : (digits : List ℕ) (n : ℕ) → work_number_of digits ≡ Some n → (1 ≤ n) × (n < 2 ^ 32) × (digits ≡ decimal n)
read_digits digits n e =
    let t = then_told (nat_lt 0 (number_of digits) && nat_lt (number_of digits) (2 ^ 32) && bytes_eq digits (decimal (number_of digits))) (number_of digits) n e in
    let both = and_parts (nat_lt 0 (number_of digits) && nat_lt (number_of digits) (2 ^ 32)) (bytes_eq digits (decimal (number_of digits))) t.0 in
    let ends = and_parts (nat_lt 0 (number_of digits)) (nat_lt (number_of digits) (2 ^ 32)) both.0 in
    (one (number_of digits) n t.1 ends.0, small (number_of digits) n t.1 ends.1, (bytes_eq-Decides digits (decimal (number_of digits))).0 both.1 ∙ ap decimal t.1)
  where
    one : (m n : ℕ) → m ≡ n → nat_lt 0 m ≡ true → 1 ≤ n
    one m n e h = grind (arith, nat_tests, e, h)

    small : (m n : ℕ) → m ≡ n → nat_lt m (2 ^ 32) ≡ true → n < 2 ^ 32
    small m n e h = grind (arith, nat_tests, e, h)

digits_read : (digits : List ℕ) (n : ℕ) → 1 ≤ n → n < 2 ^ 32 → digits ≡ decimal n → work_number_of digits ≡ Some n
digits_read digits n one small e =
    let is : number_of digits ≡ n = ap number_of e ∙ value_is n (omega arith) in
    let from : nat_lt 0 (number_of digits) ≡ true = above (number_of digits) n is one in
    let below : nat_lt (number_of digits) (2 ^ 32) ≡ true = under (number_of digits) n is small in
    let same : bytes_eq digits (decimal (number_of digits)) ≡ true = (bytes_eq-Decides digits (decimal (number_of digits))).1 (e ∙ ap decimal (sym is)) in
    rw (from, below, same) (ap (λ (k : ℕ). Some k) is)
  where
    above : (m n : ℕ) → m ≡ n → 1 ≤ n → nat_lt 0 m ≡ true
    above m n e h = grind (arith, nat_tests, e, h)

    under : (m n : ℕ) → m ≡ n → n < 2 ^ 32 → nat_lt m (2 ^ 32) ≡ true
    under m n e h = grind (arith, nat_tests, e, h)

chained : (o : Option (List ℕ)) (n : ℕ) → option_and_then work_number_of o ≡ Some n → (digits : List ℕ) × (o ≡ Some digits) × (work_number_of digits ≡ Some n)
chained None n e = absurd (cc)
chained (Some digits) n e = (digits, refl, e)

pub number_told : (token code : Name) (n : ℕ) → work_number code token ≡ Some n → IsNameOf token code n
number_told token code n e =
    let t = chained (after_prefix (prefix_of code) token) n e in
    let r = read_digits t.0 n t.2 in
    record { from_one = r.0; in_range = r.1; spelled = parted (prefix_of code) token t.0 t.1 ∙ ap (λ l. prefix_of code ++ l) r.2 }

pub told_number : (token code : Name) (n : ℕ) → IsNameOf token code n → work_number code token ≡ Some n
told_number token code n is =
    ap (option_and_then work_number_of) (behind (prefix_of code) token (decimal n) is.spelled) ∙ digits_read (decimal n) n is.from_one is.in_range refl

pub numbers_are : (token : Name) (o : Option (Name × ℕ)) → IsNamedBy token o → (code : Name) → work_number code token ≡ number_by code o
numbers_are token None is code = by (work_number code token) refl
  where
    by : (w : Option ℕ) → work_number code token ≡ w → w ≡ None
    by None e = refl
    by (Some n) e = absurd (is code n (number_told token code n e))
numbers_are token (Some p) is code = elim (cases_Bool (bytes_eq code p.0)) [
  | inl h ↦
      let same : code ≡ p.0 = (bytes_eq-Decides code p.0).0 h in
      ap (λ c. work_number c token) same ∙ told_number token p.0 p.1 is.0 ∙ yes_told h
  | inr h ↦ by (work_number code token) refl h
]
  where
    yes_told : bytes_eq code p.0 ≡ true → Some p.1 ≡ then_some (bytes_eq code p.0) p.1
    yes_told h = rw h refl

    by : (w : Option ℕ) → work_number code token ≡ w → bytes_eq code p.0 ≡ false → w ≡ then_some (bytes_eq code p.0) p.1
    by None e h = rw h refl
    by (Some n) e h =
        let only = is.1 code n (number_told token code n e) in
        let same : bytes_eq code p.0 ≡ true = (bytes_eq-Decides code p.0).1 only.0 in
        absurd (cc)
