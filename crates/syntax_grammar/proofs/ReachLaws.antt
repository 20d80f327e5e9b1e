-- The walk that reaches typecodes, step by step.
use Rattle.std.proofs.Common.{◌⊎◌, ⊎_elim, inl, inr, ◌≡◌, ◌==◌, ◌<◌, ◌≤◌, ◌+◌, ◌||◌, ℕ, Bool, true, false, List, [], ◌∷◌, ◌++◌, nat_eq, take, length, get_or, refl, sym, ap, subst, ◌∙◌, arith}
use Rattle.std.proofs.lemmas.List.{take_all, take-append-le, length-append, append-nil, append_assoc}
use Rattle.std.proofs.lemmas.List.Folds.{list_any_more, list_any_at, list_any-append}
use Rattle.std.proofs.lemmas.Bool.Decides.{nat_tests}
use Rattle.mm_base.specs.declared.rows.Rows.{Rows}
use Rattle.mm_base.specs.declared.symbols.Typecode.{Typecode}
use Rattle.mm_base.specs.Rows.{row_at}
use Rattle.syntax_grammar.specs.Joins.{has, has_code, is_noted, IsReachedToo, IsClosedUnder, IsReached}

or_assoc : (a b c : Bool) → ((a || b) || (c || false)) ≡ (a || (b || c))
or_assoc true b c = refl
or_assoc false true c = refl
or_assoc false false true = refl
or_assoc false false false = refl

or_none : (a : Bool) → a ≡ (a || false)
or_none true = refl
or_none false = refl

absorbed : (n o x t : Bool) → n ≡ (o || x) → (t ≡ true → n ≡ true) → n ≡ (o || (x || t))
absorbed n true x t e h = e
absorbed n false true t e h = e
absorbed n false false true e h = h refl
absorbed n false false false e h = e

pub or_case : (a b : Bool) → (a || b) ≡ true → (a ≡ true) ⊎ (b ≡ true)
or_case true b e = inl refl
or_case false b e = inr e

pub or_left : (a b : Bool) → a ≡ true → (a || b) ≡ true
or_left true b e = refl
or_left false b e = absurd (cc)

pub or_right : (a b : Bool) → b ≡ true → (a || b) ≡ true
or_right true b e = refl
or_right false b e = e

pub number_is : (a b : ℕ) → (a == b) ≡ true → a ≡ b
number_is a b e = grind (arith, nat_tests, e)

self_is : (a : ℕ) → (a == a) ≡ true
self_is a = grind (arith, nat_tests)

-- none, one that was not there, one that was
pub too_none : (old : List ℕ) (codes : List Typecode) → IsReachedToo old old (take 0 codes)
too_none old codes = record { more = []; longer = sym (append-nil old); has_new = λ q. or_none (has old q) }

pub too_new : (old mid new : List ℕ) (codes : List Typecode) (i : ℕ) (d : Typecode) → i < length codes → IsReachedToo old mid (take i codes)
    → new ≡ mid ++ (get_or codes i d).0.0 ∷ [] → IsReachedToo old new (take (i + 1) codes)
too_new old mid new codes i d l h is =
    let c = (get_or codes i d).0.0 in
    record {
      more = h.more ++ c ∷ [];
      longer = is ∙ ap (λ xs. xs ++ c ∷ []) h.longer ∙ append_assoc old h.more (c ∷ []);
      has_new = λ q.
          ap (λ xs. has xs q) is ∙ list_any-append (nat_eq q) mid (c ∷ []) ∙ ap (λ b. b || ((q == c) || false)) (h.has_new q)
          ∙ or_assoc (has old q) (has_code (take i codes) q) (q == c)
          ∙ ap (λ b. has old q || b) (sym (list_any_more (λ (x : Typecode). nat_eq q x.0.0) codes i d l));
    }

pub too_old : (old mid : List ℕ) (codes : List Typecode) (i : ℕ) (d : Typecode) → i < length codes → IsReachedToo old mid (take i codes)
    → has mid (get_or codes i d).0.0 ≡ true → IsReachedToo old mid (take (i + 1) codes)
too_old old mid codes i d l h there =
    let c = (get_or codes i d).0.0 in
    record {
      more = h.more;
      longer = h.longer;
      has_new = λ q.
          absorbed (has mid q) (has old q) (has_code (take i codes) q) (q == c) (h.has_new q) (λ e. subst (λ n. has mid n ≡ true) (sym (number_is q c e)) there)
          ∙ ap (λ b. has old q || b) (sym (list_any_more (λ (x : Typecode). nat_eq q x.0.0) codes i d l));
    }

-- a walk that is done with so many of those that it reached
pub record IsReachedUpTo (step : ℕ → ℕ → Bool) (from : ℕ) (codes : List ℕ) (done : ℕ) : Type 0 where
  pub within : done ≤ length codes
  pub begun : has codes from ≡ true
  pub closed : (q e : ℕ) → has (take done codes) q ≡ true → step q e ≡ true → has codes e ≡ true
  pub least : (S : ℕ → Bool) → S from ≡ true → IsClosedUnder step S → (q : ℕ) → has codes q ≡ true → S q ≡ true

pub reach_begin : (step : ℕ → ℕ → Bool) (from : ℕ) (none codes old : List ℕ) → none ≡ take 0 old → codes ≡ none ++ from ∷ [] → IsReachedUpTo step from codes 0
reach_begin step from none codes old e is =
    let one : codes ≡ from ∷ [] = is ∙ ap (λ xs. xs ++ from ∷ []) e in
    subst (λ xs. IsReachedUpTo step from xs 0) (sym one)
    (record {
      within = omega arith;
      begun = or_left (from == from) false (self_is from);
      closed = λ q e h j. absurd (cc);
      least = λ S s h q e. ⊎_elim (λ k. subst (λ n. S n ≡ true) (sym (number_is q from k)) s) (λ (k : false ≡ true). absurd (cc)) (or_case (q == from) false e);
    })

pub reach_turn : (ends : Rows Typecode) (from : ℕ) (old new : List ℕ) (done d : ℕ) (row : List Typecode) → done < length old → row ≡ row_at ends (get_or old done d)
    → IsReachedUpTo (is_noted ends) from old done → IsReachedToo old new row → IsReachedUpTo (is_noted ends) from new (done + 1)
reach_turn ends from old new done d row l is h too =
    let c = get_or old done d in
    let len : length new ≡ length old + length too.more = ap length too.longer ∙ length-append old too.more in
    let front : take (done + 1) new ≡ take (done + 1) old = ap (take (done + 1)) too.longer ∙ take-append-le (done + 1) old too.more (omega (arith, l)) in
    let among : (q : ℕ) → has (take (done + 1) new) q ≡ (has (take done old) q || (q == c)) = λ q. ap (λ xs. has xs q) front ∙ list_any_more (nat_eq q) old done d l in
    let here : (e : ℕ) → has_code row e ≡ is_noted ends c e = λ e. ap (λ xs. has_code xs e) is in
    let at : has old c ≡ true = list_any_at (nat_eq c) old done d l (self_is c) in
    record {
      within = omega (arith, l, len);
      begun = too.has_new from ∙ or_left (has old from) (has_code row from) h.begun;
      closed = λ q e k j.
          too.has_new e
          ∙ ⊎_elim (λ b. or_left (has old e) (has_code row e) (h.closed q e b j))
          (λ b. or_right (has old e) (has_code row e) (here e ∙ subst (λ n. is_noted ends n e ≡ true) (number_is q c b) j))
          (or_case (has (take done old) q) (q == c) (sym (among q) ∙ k));
      least = λ S s k q e.
          ⊎_elim (λ b. h.least S s k q b) (λ b. k c q (h.least S s k c at) (sym (here q) ∙ b))
          (or_case (has old q) (has_code row q) (sym (too.has_new q) ∙ e));
    }

pub reach_end : (step : ℕ → ℕ → Bool) (from : ℕ) (codes : List ℕ) (done : ℕ) → length codes ≤ done → IsReachedUpTo step from codes done → IsReached step from codes
reach_end step from codes done l h =
    record {
      begun = h.begun;
      closed = λ q e k j. h.closed q e (ap (λ xs. has xs q) (take_all done codes l) ∙ k) j;
      least = h.least;
    }
