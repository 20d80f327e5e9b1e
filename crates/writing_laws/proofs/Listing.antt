-- Faults that can be listed: none stands, or there is a first.
use Rattle.std.specs.Prelude.{◌≡◌, ◌<◌, ◌≤◌, ◌⊎◌, ◌==◌, ◌&&◌, ℕ, zero, suc, true, List, [], ◌∷◌, ◌++◌, nat_lt, nat_le, slice_get, Contains, Some, refl}
use Rattle.std.proofs.Common.{sym, ap, subst, ◌∙◌, arith, inl, inr, eqb-true, eq-eqb, ltb-true, lt-ltb}
use Rattle.std.proofs.lemmas.Bool.{cases_lt, or_cases, or_left, or_right, and_parts, and_from}
use Rattle.std.proofs.lemmas.Bool.Decides.{nat_tests}
use Rattle.std.proofs.lemmas.List.Elements.{Contains-append_left, Contains-append_right, Contains-append_cases}
use Rattle.mm_model.specs.Faults.{Fault, fault, comes_first}
use Rattle.solve_model.specs.Firsts.{IsFirstFault}
use Rattle.answer_laws.proofs.Elements.{nothing, first, later, only, parted}
use Rattle.writing_laws.specs.Decisions.{Decided}

-- ---- which of two faults comes first

abbrev Before : Fault → Fault → Type 0
Before a b = (a.place < b.place) ⊎ ((a.place ≡ b.place) × (a.code ≤ b.code))

le_true : (n m : ℕ) → nat_le n m ≡ true → n ≤ m
le_true n m e = grind (arith, nat_tests, e)

true_le : (n m : ℕ) → n ≤ m → nat_le n m ≡ true
true_le n m l = grind (arith, nat_tests, l)

is_before : (a b : Fault) → comes_first a b ≡ true → Before a b
is_before a b e = elim (or_cases (nat_lt a.place b.place) (a.place == b.place && nat_le a.code b.code) e) [
  | inl l ↦ inl (ltb-true a.place b.place l)
  | inr h ↦ let both = and_parts (a.place == b.place) (nat_le a.code b.code) h in inr (eqb-true a.place b.place both.0, le_true a.code b.code both.1)
]

before_is : (a b : Fault) → Before a b → comes_first a b ≡ true
before_is a b (inl l) = or_left (nat_lt a.place b.place) (a.place == b.place && nat_le a.code b.code) (lt-ltb a.place b.place l)
before_is a b (inr h) =
    or_right (nat_lt a.place b.place) (a.place == b.place && nat_le a.code b.code)
    (and_from (a.place == b.place) (nat_le a.code b.code) (eq-eqb a.place b.place h.0) (true_le a.code b.code h.1))

before_self : (a : Fault) → Before a a
before_self a = inr (refl, omega arith)

before_on : (a b c : Fault) → Before a b → Before b c → Before a c
before_on a b c (inl l) (inl m) = inl (omega (arith, l, m))
before_on a b c (inl l) (inr h) = let same = h.0 in inl (omega (arith, l, same))
before_on a b c (inr h) (inl m) = let same = h.0 in inl (omega (arith, m, same))
before_on a b c (inr h) (inr k) = let low = h.1 in let high = k.1 in inr (h.0 ∙ k.0, omega (arith, low, high))

either_before : (a b : Fault) → Before a b ⊎ Before b a
either_before a b = elim (cases_lt a.place b.place) [
  | inl l ↦ inl (inl l)
  | inr m ↦ elim (cases_lt b.place a.place) [
    | inl l ↦ inr (inl l)
    | inr l ↦
        let same : a.place ≡ b.place = omega (arith, m, l) in
        elim (cases_lt a.code b.code) [ inl k ↦ inl (inr (same, omega (arith, k))) | inr k ↦ inr (inr (sym same, k)) ]
  ]
]

-- the first of some faults
record LeastOf (fs : List Fault) : Type 0 where
  least : Fault
  stands : Contains fs least
  is_first : (g : Fault) → Contains fs g → Before least g

least_of : (f : Fault) (fs : List Fault) → LeastOf (f ∷ fs)
least_of f [] = record { least = f; stands = first f f [] refl; is_first = λ g o. subst (Before f) (only g f o) (before_self f) }
least_of f (g ∷ gs) =
    let rest = least_of g gs in
    elim (either_before f rest.least) [
      | inl b ↦ record {
        least = f;
        stands = first f f (g ∷ gs) refl;
        is_first = λ h o. elim (parted h f (g ∷ gs) o) [ inl e ↦ subst (Before f) e (before_self f) | inr l ↦ before_on f rest.least h b (rest.is_first h l) ];
      }
      | inr b ↦ record {
        least = rest.least;
        stands = later rest.least f (g ∷ gs) rest.stands;
        is_first = λ h o. elim (parted h f (g ∷ gs) o) [ inl e ↦ subst (Before rest.least) e b | inr l ↦ rest.is_first h l ];
      }
    ]

-- ---- listed faults

pub record Listed (Stands : ℕ → ℕ → Type 0) : Type 0 where
  pub faults : List Fault
  pub sound : (f : Fault) → Contains faults f → Stands f.place f.code
  pub complete : (line code : ℕ) → Stands line code → Contains faults (fault line code)

pub none_or_first : (Stands : ℕ → ℕ → Type 0) → Listed Stands → ((f : Fault) × IsFirstFault Stands f) ⊎ ((line code : ℕ) → Stands line code → ⊥)
none_or_first Stands h = by h.faults h.sound h.complete
  where
    by : (fs : List Fault) → ((f : Fault) → Contains fs f → Stands f.place f.code) → ((line code : ℕ) → Stands line code → Contains fs (fault line code))
        → ((f : Fault) × IsFirstFault Stands f) ⊎ ((line code : ℕ) → Stands line code → ⊥)
    by [] sound complete = inr (λ line code k. nothing (fault line code) (complete line code k))
    by (f ∷ fs) sound complete =
        let m = least_of f fs in
        inl (m.least, record { stands = sound m.least m.stands; is_first = λ place code k. before_is m.least (fault place code) (m.is_first (fault place code) (complete place code k)) })

pub listed_with : (P Q : ℕ → ℕ → Type 0) → ((l c : ℕ) → P l c → Q l c) → ((l c : ℕ) → Q l c → P l c) → Listed P → Listed Q
listed_with P Q f g h = record { faults = h.faults; sound = λ x o. f x.place x.code (h.sound x o); complete = λ l c q. h.complete l c (g l c q) }

pub both_listed : (P Q : ℕ → ℕ → Type 0) → Listed P → Listed Q → Listed (λ l c. P l c ⊎ Q l c)
both_listed P Q h k = record {
  faults = h.faults ++ k.faults;
  sound = λ f o. elim (Contains-append_cases h.faults k.faults f o) [ inl x ↦ inl (h.sound f x) | inr x ↦ inr (k.sound f x) ];
  complete = λ l c s. elim s [
    | inl x ↦ Contains-append_left h.faults k.faults (fault l c) (h.complete l c x)
    | inr x ↦ Contains-append_right h.faults k.faults (fault l c) (k.complete l c x)
  ];
}

-- one fault, where a claim holds
pub one_listed : (A : Type 0) (line code : ℕ) → Decided A → Listed (λ l c. A × ((l ≡ line) × (c ≡ code)))
one_listed A line code (inl a) = record {
  faults = fault line code ∷ [];
  sound = λ f o. let same = only f (fault line code) o in (a, (ap (λ (x : Fault). x.place) (sym same), ap (λ (x : Fault). x.code) (sym same)));
  complete = λ l c h. first (fault l c) (fault line code) [] (ap (λ n. fault n code) (sym h.1.0) ∙ ap (λ n. fault l n) (sym h.1.1));
}
one_listed A line code (inr n) = record { faults = []; sound = λ f o. absurd (nothing f o); complete = λ l c h. absurd (n h.0) }

-- those of the elements of a list
abbrev pub OfElement : {X : Type 0} → List X → (ℕ → X → ℕ → ℕ → Type 0) → ℕ → ℕ → Type 0
OfElement {X} xs P l c = (i : ℕ) × (x : X) × (slice_get xs i ≡ Some x) × P i x l c

pub all_listed : {X : Type 0} (xs : List X) (P : ℕ → X → ℕ → ℕ → Type 0) → ((i : ℕ) (x : X) → Listed (P i x)) → Listed (OfElement xs P)
all_listed [] P h = record { faults = []; sound = λ f o. absurd (nothing f o); complete = λ l c k. (let bad = k.2 in absurd (cc)) }
all_listed {X} (x ∷ xs) P h =
    let here = h 0 x in
    let rest = all_listed xs (λ i. P (suc i)) (λ i. h (suc i)) in
    listed_with (λ l c. P 0 x l c ⊎ OfElement xs (λ i. P (suc i)) l c) (OfElement (x ∷ xs) P) there back (both_listed (P 0 x) (OfElement xs (λ i. P (suc i))) here rest)
  where
    there : (l c : ℕ) → (P 0 x l c ⊎ OfElement xs (λ i. P (suc i)) l c) → OfElement (x ∷ xs) P l c
    there l c (inl p) = (0, x, refl, p)
    there l c (inr k) = (suc k.0, k.1, k.2, k.3)

    at : (l c i : ℕ) (y : X) → slice_get (x ∷ xs) i ≡ Some y → P i y l c → P 0 x l c ⊎ OfElement xs (λ i. P (suc i)) l c
    at l c zero y e p = let same : x ≡ y = cc in inl (subst (λ z. P 0 z l c) (sym same) p)
    at l c (suc i) y e p = inr (i, y, e, p)

    back : (l c : ℕ) → OfElement (x ∷ xs) P l c → P 0 x l c ⊎ OfElement xs (λ i. P (suc i)) l c
    back l c k = at l c k.0 k.1 k.2 k.3
