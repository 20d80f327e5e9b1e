-- The first of faults, as they are taken in one after the other.
use Rattle.std.specs.Prelude.{◌≡◌, ◌<◌, ◌≤◌, ℕ, zero, suc, ◌⊎◌, nat_lt, Bool, true, false, List, [], ◌∷◌, slice_get, unwrap_or, Option, Some, None, option_map, refl}
use Rattle.std.proofs.Common.{arith, sym, ap, subst, ◌∙◌, inl, inr, cond}
use Rattle.std.proofs.lemmas.Bool.{cases_Bool, cases_lt}
use Rattle.std.proofs.lemmas.Bool.Decides.{nat_tests}
use Rattle.mm_model.specs.Faults.{Fault, fault, comes_first, earlier}
use Rattle.sheet_bind.specs.Judging.{IsFirstOf, IsFirstWith}
use Rattle.sheet_bind.specs.Tests.{first_true, HoldsIn}

-- ---- the order

abbrev Comes : ℕ → ℕ → ℕ → ℕ → Type 0
Comes p c q d = (p < q) ⊎ ((p ≡ q) × (c ≤ d))

to : (p c q d : ℕ) → comes_first (fault p c) (fault q d) ≡ true → Comes p c q d
to p c q d h = elim (cases_Bool (nat_lt p q)) [
  | inl e ↦ inl (grind (arith, nat_tests, e))
  | inr e ↦ inr (grind (arith, nat_tests, h, e), grind (arith, nat_tests, h, e))
]

from : (p c q d : ℕ) → Comes p c q d → comes_first (fault p c) (fault q d) ≡ true
from p c q d (inl h) = grind (arith, nat_tests, h)
from p c q d (inr h) = let e = h.0 in let l = h.1 in grind (arith, nat_tests, e, l)

twice : (p c q d r e : ℕ) → Comes p c q d → Comes q d r e → Comes p c r e
twice p c q d r e (inl h) (inl k) = inl (omega arith)
twice p c q d r e (inl h) (inr k) = inl (omega (arith, k.0))
twice p c q d r e (inr h) (inl k) = inl (omega (arith, h.0))
twice p c q d r e (inr h) (inr k) = inr (omega (arith, h.0, k.0), omega (arith, h.1, k.1))

either : (p c q d : ℕ) → Comes p c q d ⊎ Comes q d p c
either p c q d = elim (cases_lt p q) [
  | inl l ↦ inl (inl l)
  | inr l ↦ elim (cases_lt q p) [
    | inl m ↦ inr (inl m)
    | inr m ↦ let same : p ≡ q = omega (arith, l, m) in elim (cases_lt c d) [ inl n ↦ inl (inr (same, omega (arith, n))) | inr n ↦ inr (inr (sym same, n)) ]
  ]
]

before_both : (f g : Fault) (l c : ℕ) → comes_first f g ≡ true → comes_first g (fault l c) ≡ true → comes_first f (fault l c) ≡ true
before_both f g l c h k = from f.place f.code l c (twice f.place f.code g.place g.code l c (to f.place f.code g.place g.code h) (to g.place g.code l c k))

-- a fault comes before itself
pub is_self : (f : Fault) (l c : ℕ) → l ≡ f.place → c ≡ f.code → comes_first f (fault l c) ≡ true
is_self f l c e d = from f.place f.code l c (inr (sym e, omega (arith, d)))

-- a fault comes before those at its line with codes from its own on
pub is_from : (line code l c : ℕ) → l ≡ line → code ≤ c → comes_first (fault line code) (fault l c) ≡ true
is_from line code l c e d = from line code l c (inr (sym e, d))

other_way : (f g : Fault) → comes_first f g ≡ false → comes_first g f ≡ true
other_way f g h = elim (either f.place f.code g.place g.code) [
  | inl k ↦ let bad : true ≡ false = sym (from f.place f.code g.place g.code k) ∙ h in absurd (cc)
  | inr k ↦ from g.place g.code f.place f.code k
]

-- ---- what is taken in

pub none_more : (a : Option Fault) (S : ℕ → ℕ → Type 0) → ((l c : ℕ) → S l c → ⊥) → IsFirstWith a S a
none_more None S empty = record { first = λ l c s. elim s [ inl x ↦ x | inr y ↦ empty l c y ] }
none_more (Some f) S empty = record {
  first = record {
    stands = inl (refl, refl);
    is_first = λ l c s. elim s [ inl x ↦ is_self f l c x.0 x.1 | inr y ↦ absurd (empty l c y) ];
  };
}

pub later_more : (f : Fault) (S : ℕ → ℕ → Type 0) → ((l c : ℕ) → S l c → comes_first f (fault l c) ≡ true) → IsFirstWith (Some f) S (Some f)
later_more f S h = record {
  first = record {
    stands = inl (refl, refl);
    is_first = λ l c s. elim s [ inl x ↦ is_self f l c x.0 x.1 | inr y ↦ h l c y ];
  };
}

module _ (g f : Fault) (S : ℕ → ℕ → Type 0) (stands : S f.place f.code) (first : (l c : ℕ) → S l c → comes_first f (fault l c) ≡ true) where
  keeps : comes_first g f ≡ true → IsFirstWith (Some g) S (Some g)
  keeps h = later_more g S (λ l c s. before_both g f l c h (first l c s))

  takes : comes_first g f ≡ false → IsFirstWith (Some g) S (Some f)
  takes h = record {
    first = record {
      stands = inr stands;
      is_first = λ l c s. elim s [ inl x ↦ before_both f g l c (other_way g f h) (is_self g l c x.0 x.1) | inr y ↦ first l c y ];
    };
  }

  by_test : (b : Bool) → comes_first g f ≡ b → IsFirstWith (Some g) S (cond b (Some g) (Some f))
  by_test true h = keeps h
  by_test false h = takes h

pub one_more : (a : Option Fault) (S : ℕ → ℕ → Type 0) (f : Fault) → S f.place f.code → ((l c : ℕ) → S l c → comes_first f (fault l c) ≡ true) → IsFirstWith a S (earlier a (Some f))
one_more None S f stands first = record {
  first = record {
    stands = inr stands;
    is_first = λ l c s. elim s [ inl x ↦ absurd x | inr y ↦ first l c y ];
  };
}
one_more (Some g) S f stands first = by_test g f S stands first (comes_first g f) refl

module _ (S T : ℕ → ℕ → Type 0) where
  Both : ℕ → ℕ → Type 0
  Both l c = S l c ⊎ T l c

  transport : (g h : Fault) → h.place ≡ g.place → h.code ≡ g.code → S g.place g.code → S h.place h.code
  transport g h e d s = subst (λ c. S h.place c) (sym d) (subst (λ p. S p g.code) (sym e) s)

  -- first those of the one kind are taken in, then those of the other
  pub both_more : (a b c : Option Fault) → IsFirstWith a S b → IsFirstWith b T c → IsFirstWith a (λ l k. S l k ⊎ T l k) c
  both_more a None None x y = record {
    first = λ l k s. elim s [
      | inl i ↦ x.first l k (inl i)
      | inr st ↦ elim st [ inl i ↦ x.first l k (inr i) | inr j ↦ y.first l k (inr j) ]
    ];
  }
  both_more a (Some g) None x y = absurd (y.first g.place g.code (inl (refl, refl)))
  both_more a None (Some h) x y = record {
    first = record {
      stands = elim y.first.stands [ inl i ↦ absurd i | inr j ↦ inr (inr j) ];
      is_first = λ l k s. elim s [
        | inl i ↦ absurd (x.first l k (inl i))
        | inr st ↦ elim st [ inl i ↦ absurd (x.first l k (inr i)) | inr j ↦ y.first.is_first l k (inr j) ]
      ];
    };
  }
  both_more None (Some g) (Some h) x y = record {
    first = record {
      stands = elim y.first.stands [
        | inl i ↦ elim x.first.stands [ inl z ↦ absurd z | inr s ↦ inr (inl (transport g h i.0 i.1 s)) ]
        | inr j ↦ inr (inr j)
      ];
      is_first = λ l k s. elim s [
        | inl i ↦ absurd i
        | inr st ↦ elim st [
          | inl i ↦ before_both h g l k (y.first.is_first g.place g.code (inl (refl, refl))) (x.first.is_first l k (inr i))
          | inr j ↦ y.first.is_first l k (inr j)
        ]
      ];
    };
  }
  both_more (Some f) (Some g) (Some h) x y = record {
    first = record {
      stands = elim y.first.stands [
        | inl i ↦ elim x.first.stands [ inl z ↦ inl (i.0 ∙ z.0, i.1 ∙ z.1) | inr s ↦ inr (inl (transport g h i.0 i.1 s)) ]
        | inr j ↦ inr (inr j)
      ];
      is_first = λ l k s. elim s [
        | inl i ↦ before_both h g l k (y.first.is_first g.place g.code (inl (refl, refl))) (x.first.is_first l k (inl i))
        | inr st ↦ elim st [
          | inl i ↦ before_both h g l k (y.first.is_first g.place g.code (inl (refl, refl))) (x.first.is_first l k (inr i))
          | inr j ↦ y.first.is_first l k (inr j)
        ]
      ];
    };
  }

  -- the same faults
  pub same_more : (a b : Option Fault) → ((l c : ℕ) → S l c → T l c) → ((l c : ℕ) → T l c → S l c) → IsFirstWith a S b → IsFirstWith a T b
  same_more a None there back x = record { first = λ l c s. elim s [ inl i ↦ x.first l c (inl i) | inr t ↦ x.first l c (inr (back l c t)) ] }
  same_more a (Some f) there back x = record {
    first = record {
      stands = elim x.first.stands [ inl i ↦ inl i | inr s ↦ inr (there f.place f.code s) ];
      is_first = λ l c s. elim s [ inl i ↦ x.first.is_first l c (inl i) | inr t ↦ x.first.is_first l c (inr (back l c t)) ];
    };
  }

  -- with none before
  pub first_of : (b : Option Fault) → ((l c : ℕ) → S l c → T l c) → ((l c : ℕ) → T l c → S l c) → IsFirstWith None S b → IsFirstOf T b
  first_of None there back x = λ l c t. x.first l c (inr (back l c t))
  first_of (Some f) there back x = record {
    stands = elim x.first.stands [ inl i ↦ absurd i | inr s ↦ there f.place f.code s ];
    is_first = λ l c t. x.first.is_first l c (inr (back l c t));
  }

-- ---- tests with their codes

-- the codes do not fall, from this number on
abbrev pub AreFrom : ℕ → List (ℕ × Bool) → Type 0
AreFrom n [] = Unit {0}
AreFrom n (t ∷ ts) = (n ≤ t.0) × AreFrom t.0 ts

at_head : (t : ℕ × Bool) (ts : List (ℕ × Bool)) (c : ℕ) → slice_get (t ∷ ts) 0 ≡ Some (c, true) → (t.0 ≡ c) × (t.1 ≡ true)
at_head t ts c e = let same : t ≡ (c, true) = ap (λ (o : Option (ℕ × Bool)). unwrap_or o t) e in (ap (λ (p : ℕ × Bool). p.0) same, ap (λ (p : ℕ × Bool). p.1) same)

code_from : (n : ℕ) (ts : List (ℕ × Bool)) (c k : ℕ) → AreFrom n ts → slice_get ts k ≡ Some (c, true) → n ≤ c
code_from n [] c k a e = absurd (cc)
code_from n (t ∷ ts) c zero a e = let h = (at_head t ts c e).0 in omega (arith, a.0, h)
code_from n (t ∷ ts) c (suc k) a e = let h = code_from t.0 ts c k a.1 e in omega (arith, a.0, h)

some_code : (a c : ℕ) → Some a ≡ Some c → a ≡ c
some_code a c e = ap (λ (o : Option ℕ). unwrap_or o a) e

module _ (line : ℕ) where
  holds_later : (t : ℕ × Bool) (ts : List (ℕ × Bool)) (c : ℕ) → HoldsIn ts c → HoldsIn (t ∷ ts) c
  holds_later t ts c h = (suc h.0, h.1)

  not_first : (t : ℕ × Bool) (ts : List (ℕ × Bool)) → t.1 ≡ false → (c k : ℕ) → slice_get (t ∷ ts) k ≡ Some (c, true) → HoldsIn ts c
  not_first t ts fails c zero e = let bad : true ≡ false = sym (at_head t ts c e).1 ∙ fails in absurd (cc)
  not_first t ts fails c (suc k) e = (k, e)

  Taken : Option Fault → List (ℕ × Bool) → Type 0
  Taken a ts = IsFirstWith a (λ l c. (l ≡ line) × HoldsIn ts c) (earlier a (option_map (fault line) (first_true ts)))

  -- the first test holds, or the rest decide
  by_head : (a : Option Fault) (t : ℕ × Bool) (ts : List (ℕ × Bool)) → AreFrom t.0 ts → Taken a ts → (b : Bool) → t.1 ≡ b
      → IsFirstWith a (λ l c. (l ≡ line) × HoldsIn (t ∷ ts) c) (earlier a (option_map (fault line) (cond b (Some t.0) (first_true ts))))
  unfolding Taken
  by_head a t ts from_t rest true e = one_more a (λ l c. (l ≡ line) × HoldsIn (t ∷ ts) c) (fault line t.0)
      (refl, (0, ap (λ (b : Bool). let p : ℕ × Bool = (t.0, b) in Some p) e))
      (λ l c s. is_from line t.0 l c s.0 (code_from t.0 (t ∷ ts) c s.1.0 (omega arith, from_t) s.1.1))
  by_head a t ts from_t rest false e = same_more (λ l c. (l ≡ line) × HoldsIn ts c) (λ l c. (l ≡ line) × HoldsIn (t ∷ ts) c) a (earlier a (option_map (fault line) (first_true ts)))
      (λ l c s. (s.0, holds_later t ts c s.1)) (λ l c s. (s.0, not_first t ts e c s.1.0 s.1.1)) rest

  taken_by : (a : Option Fault) (n : ℕ) (ts : List (ℕ × Bool)) → AreFrom n ts → Taken a ts
  unfolding Taken
  taken_by None n [] from_n = none_more None (λ l c. (l ≡ line) × HoldsIn [] c) (λ l c s. nothing c s.1.0 s.1.1)
    where
      nothing : (c k : ℕ) → slice_get {X = ℕ × Bool} [] k ≡ Some (c, true) → ⊥
      nothing c k e = cc
  taken_by (Some f) n [] from_n = none_more (Some f) (λ l c. (l ≡ line) × HoldsIn [] c) (λ l c s. nothing c s.1.0 s.1.1)
    where
      nothing : (c k : ℕ) → slice_get {X = ℕ × Bool} [] k ≡ Some (c, true) → ⊥
      nothing c k e = cc
  taken_by a n (t ∷ ts) from_n = by_head a t ts from_n.1 (taken_by a t.0 ts from_n.1) t.1 refl

  -- the first test that holds is the first fault of those at a line
  pub taken : (a : Option Fault) (n : ℕ) (ts : List (ℕ × Bool)) → AreFrom n ts → IsFirstWith a (λ l c. (l ≡ line) × HoldsIn ts c) (earlier a (option_map (fault line) (first_true ts)))
  unfolding Taken
  taken a n ts from_n = taken_by a n ts from_n
