-- The least number of a list from a number on, and the least that two lists share.
use Rattle.std.specs.Prelude.{◌≡◌, ℕ, ◌<◌, ◌≤◌, ◌==◌, ◌⊎◌, Bool, true, false, ◌&&◌, ◌||◌, List, [], ◌∷◌, ◌++◌, map, filter, fold, nat_lt, nat_le}
use Rattle.std.specs.Prelude.{Option, Some, None, option_map, refl}
use Rattle.std.proofs.Common.{sym, ap, subst, ◌∙◌, inl, inr, arith}
use Rattle.std.proofs.lemmas.Bool.{cases_Bool}
use Rattle.std.proofs.lemmas.Bool.Decides.{nat_tests}
use Rattle.std.proofs.lemmas.List.{map-append}
use Rattle.std.proofs.lemmas.List.Elements.{filter-append}
use Rattle.std.proofs.lemmas.List.Folds.{list_any-append}
use Rattle.mm_base.specs.declared.symbols.Sym.{Sym}
use Rattle.proof_model.specs.Machine.{is_shared}
use Rattle.written_model.specs.Pairs.{lesser}
use Rattle.distinct_vars.specs.Values.{crossed}
use Rattle.distinct_vars.specs.Shared.{lesser_from, has_number, IsLeastShared}

-- ---- where a number stands

abbrev Has : List Sym → ℕ → Type 0
Has xs n = has_number xs n ≡ true

has_cases : (x : Sym) (xs : List Sym) (n : ℕ) → Has (x ∷ xs) n → (x.0 ≡ n) ⊎ Has xs n
has_cases x xs n h = elim (cases_Bool (x.0 == n)) [ inl e ↦ inl (grind (arith, nat_tests, e)) | inr e ↦ inr (rw e at h) ]

has_first : (x : Sym) (xs : List Sym) → Has (x ∷ xs) x.0
has_first x xs = let e : (x.0 == x.0) ≡ true = grind (arith, nat_tests) in rw e refl

has_later : (x : Sym) (xs : List Sym) (n : ℕ) → Has xs n → Has (x ∷ xs) n
has_later x xs n h = elim (cases_Bool (x.0 == n)) [ inl e ↦ rw e refl | inr e ↦ rw e h ]

-- ---- the least from a number on

abbrev pub IsLeastFrom : ℕ → List Sym → Option ℕ → Type 0
IsLeastFrom low xs None = (n : ℕ) → Has xs n → n < low
IsLeastFrom low xs (Some v) = Has xs v × (low ≤ v) × ((n : ℕ) → Has xs n → low ≤ n → v ≤ n)

-- with a least number at hand that stands elsewhere
record Lesser (low best : ℕ) (xs : List Sym) (v : ℕ) : Type 0 where
  at_most : v ≤ best
  stands : (v ≡ best) ⊎ (Has xs v × (low ≤ v))
  least : (n : ℕ) → Has xs n → low ≤ n → v ≤ n

from_some : (low best : ℕ) (xs : List Sym) → (v : ℕ) × (fold (lesser_from low) (Some best) xs ≡ Some v) × Lesser low best xs v
from_some low best [] = (best, refl, record { at_most = omega arith; stands = inl refl; least = λ n h l. absurd (cc) })
from_some low best (x ∷ xs) = elim (cases_Bool (nat_le low x.0 && nat_lt x.0 best)) [
  | inl e ↦
      let rest = from_some low x.0 xs in
      let less : (low ≤ x.0) × (x.0 < best) = both low x.0 best e in (
        rest.0,
        rw e rest.1,
        record {
          at_most = omega (arith, rest.2.at_most, less.1);
          stands = inr (elim rest.2.stands [
            | inl is ↦ (subst (Has (x ∷ xs)) (sym is) (has_first x xs), omega (arith, is, less.0))
            | inr is ↦ (has_later x xs rest.0 is.0, is.1)
          ]);
          least = λ n h l. elim (has_cases x xs n h) [ inl is ↦ omega (arith, is, rest.2.at_most) | inr is ↦ rest.2.least n is l ];
        },
      )
  | inr e ↦
      let rest = from_some low best xs in (
        rest.0,
        rw e rest.1,
        record {
          at_most = rest.2.at_most;
          stands = elim rest.2.stands [ inl is ↦ inl is | inr is ↦ inr (has_later x xs rest.0 is.0, is.1) ];
          least = λ n h l. elim (has_cases x xs n h) [ inl is ↦ let more = neither low x.0 best e in omega (arith, is, rest.2.at_most, more (omega (arith, is, l))) | inr is ↦ rest.2.least n is l ];
        },
      )
]
  where
    both : (a b c : ℕ) → (nat_le a b && nat_lt b c) ≡ true → (a ≤ b) × (b < c)
    both a b c e = (grind (arith, nat_tests, e), grind (arith, nat_tests, e))

    neither : (a b c : ℕ) → (nat_le a b && nat_lt b c) ≡ false → a ≤ b → c ≤ b
    neither a b c e h = grind (arith, nat_tests, e, h)

pub from_none : (low : ℕ) (xs : List Sym) → IsLeastFrom low xs (fold (lesser_from low) None xs)
from_none low [] = λ n h. absurd (cc)
from_none low (x ∷ xs) = elim (cases_Bool (nat_le low x.0)) [
  | inl e ↦
      let rest = from_some low x.0 xs in
      let from : low ≤ x.0 = grind (arith, nat_tests, e) in
      let told : IsLeastFrom low (x ∷ xs) (Some rest.0) = (
        elim rest.2.stands [ inl is ↦ subst (Has (x ∷ xs)) (sym is) (has_first x xs) | inr is ↦ has_later x xs rest.0 is.0 ],
        elim rest.2.stands [ inl is ↦ omega (arith, is, from) | inr is ↦ is.1 ],
        λ n h l. elim (has_cases x xs n h) [ inl is ↦ omega (arith, is, rest.2.at_most) | inr is ↦ rest.2.least n is l ],
      ) in
      rw e (subst (IsLeastFrom low (x ∷ xs)) (sym rest.1) told)
  | inr e ↦ rw e (more (fold (lesser_from low) None xs) (from_none low xs) (grind (arith, nat_tests, e)))
]
  where
    more : (o : Option ℕ) → IsLeastFrom low xs o → x.0 < low → IsLeastFrom low (x ∷ xs) o
    more None h l = λ n k. elim (has_cases x xs n k) [ inl is ↦ omega (arith, is, l) | inr is ↦ h n is ]
    more (Some v) h l = (has_later x xs v h.0, h.1, λ n k f. elim (has_cases x xs n k) [ inl is ↦ absurd (omega (arith, is, l, f)) | inr is ↦ h.2 n is f ])

-- ---- a step to the least shared number

module _ (xs ys : List Sym) (low : ℕ) (from : (n : ℕ) → Has xs n → Has ys n → low ≤ n) where
  pub none_first : IsLeastFrom low xs None → IsLeastShared xs ys None
  none_first h n k l = let less = h n k in let more = from n k l in omega (arith, less, more)

  pub none_second : (v : ℕ) → IsLeastFrom low xs (Some v) → IsLeastFrom v ys None → IsLeastShared xs ys None
  none_second v h g n k l = let less = g n l in let more = h.2 n k (from n k l) in omega (arith, less, more)

  pub both_found : (v w : ℕ) → IsLeastFrom low xs (Some v) → IsLeastFrom v ys (Some w) → v ≡ w → IsLeastShared xs ys (Some v)
  both_found v w h g e = (h.0, subst (Has ys) (sym e) g.0, λ n k l. h.2 n k (from n k l))

  pub none_between : (v w : ℕ) → IsLeastFrom low xs (Some v) → IsLeastFrom v ys (Some w) → (n : ℕ) → Has xs n → Has ys n → w ≤ n
  none_between v w h g n k l = g.2 n l (h.2 n k (from n k l))

-- ---- the same over all crossings

abbrev pub Shared : List Sym → List Sym → List (Sym × Sym)
Shared xs ys = filter is_shared (crossed xs ys)

abbrev pub firsts : List (Sym × Sym) → List Sym
firsts qs = map (λ (q : Sym × Sym). q.0) qs

has-append : (xs ys : List Sym) (n : ℕ) → has_number (xs ++ ys) n ≡ (has_number xs n || has_number ys n)
has-append xs ys n = list_any-append (λ (s : Sym). s.0 == n) xs ys

row : Sym → List Sym → List (Sym × Sym)
row x ys = filter is_shared (map (λ w. (x, w)) ys)

number_cases : (a b n : ℕ) → (a == b) ≡ false → ((a == n) && (b == n)) ≡ false
number_cases a b n e = grind (arith, nat_tests, e)

and_or : (a b c : Bool) → (a && (b || c)) ≡ ((a && b) || (a && c))
and_or true b c = refl
and_or false b c = refl

row_has : (x : Sym) (ys : List Sym) (n : ℕ) → has_number (firsts (row x ys)) n ≡ ((x.0 == n) && has_number ys n)
unfolding row
row_has x [] n = sym (and_none (x.0 == n))
  where
    and_none : (a : Bool) → (a && false) ≡ false
    and_none true = refl
    and_none false = refl
row_has x (y ∷ ys) n =
    let rest = row_has x ys n in
    elim (cases_Bool (x.0 == y.0)) [
      | inl e ↦ let same : (x.0 == n) ≡ ((x.0 == n) && (y.0 == n)) = grind (arith, nat_tests, e) in
          rw e
          (ap (λ b. (x.0 == n) || b) rest ∙ ap (λ b. b || ((x.0 == n) && has_number ys n)) same
          ∙ sym (and_or (x.0 == n) (y.0 == n) (has_number ys n)))
      | inr e ↦ rw e (rest ∙ ap (λ b. b || ((x.0 == n) && has_number ys n)) (sym (number_cases x.0 y.0 n e)) ∙ sym (and_or (x.0 == n) (y.0 == n) (has_number ys n)))
    ]

shared_has : (xs ys : List Sym) (n : ℕ) → has_number (firsts (Shared xs ys)) n ≡ (has_number xs n && has_number ys n)
unfolding row
shared_has [] ys n = refl
shared_has (x ∷ xs) ys n =
    ap (λ qs. has_number (firsts qs) n) (filter-append is_shared (map (λ w. (x, w)) ys) (crossed xs ys))
    ∙ ap (λ zs. has_number zs n) (map-append (λ (q : Sym × Sym). q.0) (row x ys) (Shared xs ys))
    ∙ has-append (firsts (row x ys)) (firsts (Shared xs ys)) n
    ∙ ap (λ b. b || has_number (firsts (Shared xs ys)) n) (row_has x ys n)
    ∙ ap (λ b. ((x.0 == n) && has_number ys n) || b) (shared_has xs ys n)
    ∙ or_and (x.0 == n) (has_number xs n) (has_number ys n)
  where
    or_and : (a b c : Bool) → ((a && c) || (b && c)) ≡ ((a || b) && c)
    or_and true true true = refl
    or_and true true false = refl
    or_and true false true = refl
    or_and true false false = refl
    or_and false b c = refl

-- the least of a list
abbrev IsLeastOf : List Sym → Option Sym → Type 0
IsLeastOf zs None = (n : ℕ) → Has zs n → ⊥
IsLeastOf zs (Some v) = Has zs v.0 × ((n : ℕ) → Has zs n → v.0 ≤ n)

lesser_some : (b : Sym) (zs : List Sym) → (v : Sym) × (fold lesser (Some b) zs ≡ Some v) × (v.0 ≤ b.0) × ((v ≡ b) ⊎ Has zs v.0) × ((n : ℕ) → Has zs n → v.0 ≤ n)
lesser_some b [] = (b, refl, omega arith, inl refl, λ n h. absurd (cc))
lesser_some b (z ∷ zs) = elim (cases_Bool (nat_lt z.0 b.0)) [
  | inl e ↦
      let rest = lesser_some z zs in
      let less : z.0 < b.0 = grind (arith, nat_tests, e) in (
        rest.0,
        rw e rest.1,
        omega (arith, rest.2, less),
        inr (elim rest.3 [ inl is ↦ subst (λ (v : Sym). Has (z ∷ zs) v.0) (sym is) (has_first z zs) | inr is ↦ has_later z zs rest.0.0 is ]),
        λ n h. elim (has_cases z zs n h) [ inl is ↦ omega (arith, is, rest.2) | inr is ↦ rest.4 n is ],
      )
  | inr e ↦
      let rest = lesser_some b zs in
      let more : b.0 ≤ z.0 = grind (arith, nat_tests, e) in (
        rest.0,
        rw e rest.1,
        rest.2,
        elim rest.3 [ inl is ↦ inl is | inr is ↦ inr (has_later z zs rest.0.0 is) ],
        λ n h. elim (has_cases z zs n h) [ inl is ↦ omega (arith, is, rest.2, more) | inr is ↦ rest.4 n is ],
      )
]

lesser_none : (zs : List Sym) → IsLeastOf zs (fold lesser None zs)
lesser_none [] = λ n h. absurd (cc)
lesser_none (z ∷ zs) =
    let rest = lesser_some z zs in
    subst (IsLeastOf (z ∷ zs)) (sym rest.1) (
      elim rest.3 [ inl is ↦ subst (λ (v : Sym). Has (z ∷ zs) v.0) (sym is) (has_first z zs) | inr is ↦ has_later z zs rest.0.0 is ],
      λ n h. elim (has_cases z zs n h) [ inl is ↦ omega (arith, is, rest.2) | inr is ↦ rest.4 n is ],
    )

abbrev pub symbol : ℕ → Sym
symbol n = record { 0 = n }

and_true : (a b : Bool) → a ≡ true → b ≡ true → (a && b) ≡ true
and_true true true h k = refl
and_true true false h k = k
and_true false b h k = h

and_parts : (a b : Bool) → (a && b) ≡ true → (a ≡ true) × (b ≡ true)
and_parts true true h = (refl, refl)
and_parts true false h = absurd (cc)
and_parts false b h = absurd (cc)

-- the least shared number is that of the definition
pub least_is : (xs ys : List Sym) (o : Option ℕ) → IsLeastShared xs ys o → fold lesser None (firsts (Shared xs ys)) ≡ option_map (λ n. symbol n) o
least_is xs ys o h = by (fold lesser None (firsts (Shared xs ys))) o (lesser_none (firsts (Shared xs ys))) h
  where
    into : (n : ℕ) → Has xs n → Has ys n → Has (firsts (Shared xs ys)) n
    into n a b = shared_has xs ys n ∙ and_true (has_number xs n) (has_number ys n) a b

    out : (n : ℕ) → Has (firsts (Shared xs ys)) n → (Has xs n) × (Has ys n)
    out n a = and_parts (has_number xs n) (has_number ys n) (sym (shared_has xs ys n) ∙ a)

    by : (r : Option Sym) (o : Option ℕ) → IsLeastOf (firsts (Shared xs ys)) r → IsLeastShared xs ys o → r ≡ option_map (λ n. symbol n) o
    by None None a b = refl
    by None (Some v) a b = absurd (a v (into v b.0 b.1))
    by (Some s) None a b = let both = out s.0 a.0 in absurd (b s.0 both.0 both.1)
    by (Some s) (Some v) a b =
        let both = out s.0 a.0 in
        let least = b.2 s.0 both.0 both.1 in
        let other = a.1 v (into v b.0 b.1) in
        let same : s.0 ≡ v = omega (arith, least, other) in
        ap (λ n. Some (symbol n)) same
