-- Lists that fall, and their reverses that rise.
use Rattle.std.proofs.Common.{◌≡◌, ℕ, zero, suc, ◌+◌, ◌<◌, ◌≤◌, List, [], ◌∷◌, ◌++◌, length, drop, reverse, get_or, refl, subst, ap, ◌∙◌, add-one, add-zero, zero-add, arith}
use Rattle.std.specs.List.{range_with_len}
use Rattle.std.proofs.lemmas.List.{reverse-append}
use Rattle.hyp_order.specs.Falls.{AtMost, Falls}

abbrev pub AtLeast : ℕ → List ℕ → Type 0
AtLeast b [] = Unit {0}
AtLeast b (x ∷ xs) = (b ≤ x) × AtLeast b xs

abbrev pub Rises : List ℕ → Type 0
Rises [] = Unit {0}
Rises (x ∷ xs) = AtLeast x xs × Rises xs

-- ---- bounds

at_most_wider : (a b : ℕ) (xs : List ℕ) → a ≤ b → AtMost a xs → AtMost b xs
at_most_wider a b [] h k = tt
at_most_wider a b (x ∷ xs) h k = (omega (arith, k.0), at_most_wider a b xs h k.1)

at_most_both : (b : ℕ) (xs ys : List ℕ) → AtMost b xs → AtMost b ys → AtMost b (xs ++ ys)
at_most_both b [] ys h k = k
at_most_both b (x ∷ xs) ys h k = (h.0, at_most_both b xs ys h.1 k)

at_most_reversed : (b : ℕ) (xs : List ℕ) → AtMost b xs → AtMost b (reverse xs)
at_most_reversed b [] h = tt
at_most_reversed b (x ∷ xs) h = rw (reverse-append (x ∷ []) xs) (at_most_both b (reverse xs) (x ∷ []) (at_most_reversed b xs h.1) (h.0, tt))

pub at_most_there : (b : ℕ) (xs : List ℕ) (j : ℕ) → AtMost b xs → j < length xs → get_or xs j 0 ≤ b
at_most_there b [] j h k = absurd (omega arith)
at_most_there b (x ∷ xs) zero h k = h.0
at_most_there b (x ∷ xs) (suc j) h k = at_most_there b xs j h.1 (omega arith)

-- ---- a list that falls

one_falls : (x y : ℕ) (ys : List ℕ) → y ≤ x → Falls (y ∷ ys) → Falls (x ∷ y ∷ ys)
one_falls x y ys h f = ((h, at_most_wider y x ys h f.0), f)

pub more_falls : (s : List ℕ) (k : ℕ) → suc k < length s → get_or s (suc k) 0 ≤ get_or s k 0 → Falls (drop (suc k) s) → Falls (drop k s)
more_falls [] k h g f = absurd (omega arith)
more_falls (x ∷ []) k h g f = absurd (omega arith)
more_falls (x ∷ y ∷ ys) zero h g f = one_falls x y ys g f
more_falls (x ∷ y ∷ ys) (suc k) h g f = more_falls (y ∷ ys) k (omega arith) g f

pub end_falls : (s : List ℕ) (k : ℕ) → length s ≤ k + 1 → Falls (drop k s)
end_falls [] zero h = tt
end_falls [] (suc k) h = tt
end_falls (x ∷ []) zero h = (tt, tt)
end_falls (x ∷ y ∷ ys) zero h = absurd (omega arith)
end_falls (x ∷ xs) (suc k) h = end_falls xs k (omega arith)

-- ---- its reverse

at_least_more : (b x : ℕ) (xs : List ℕ) → AtLeast b xs → b ≤ x → AtLeast b (xs ++ x ∷ [])
at_least_more b x [] h k = (k, tt)
at_least_more b x (y ∷ ys) h k = (h.0, at_least_more b x ys h.1 k)

rises_more : (x : ℕ) (xs : List ℕ) → Rises xs → AtMost x xs → Rises (xs ++ x ∷ [])
rises_more x [] r h = (tt, tt)
rises_more x (y ∷ ys) r h = (at_least_more y x ys r.0 h.0, rises_more x ys r.1 h.1)

pub reverse_rises : (s : List ℕ) → Falls s → Rises (reverse s)
reverse_rises [] f = tt
reverse_rises (x ∷ xs) f = rw (reverse-append (x ∷ []) xs) (rises_more x (reverse xs) (reverse_rises xs f.1) (at_most_reversed x xs f.0))

-- the same, where the one place stands behind the other
pub falls_before : (s : List ℕ) (k m : ℕ) → m ≡ suc k → m < length s → get_or s m 0 ≤ get_or s k 0 → Falls (drop m s) → Falls (drop k s)
falls_before s k m e h g f =
    more_falls s k (omega arith) (subst (λ n. get_or s n 0 ≤ get_or s k 0) e g) (subst (λ n. Falls (drop n s)) e f)

-- ---- the numbers from one on

at_least_range : (b a n : ℕ) → b ≤ a → AtLeast b (range_with_len a n)
at_least_range b a zero h = tt
at_least_range b a (suc n) h = (h, at_least_range b (a + 1) n (omega arith))

pub range_rises : (a n : ℕ) → Rises (range_with_len a n)
range_rises a zero = tt
range_rises a (suc n) = (at_least_range a (a + 1) n (omega arith), range_rises (a + 1) n)

range_more : (a n : ℕ) → range_with_len a (n + 1) ≡ range_with_len a n ++ (a + n) ∷ []
range_more a n = rw (add-one n) (more a n)
  where
    more : (a n : ℕ) → range_with_len a (suc n) ≡ range_with_len a n ++ (a + n) ∷ []
    more a zero = rw (add-zero a) refl
    more a (suc n) = let e : (a + 1) + n ≡ a + suc n = omega arith in ap (λ xs. a ∷ xs) (more (a + 1) n ∙ ap (λ k. range_with_len (a + 1) n ++ k ∷ []) e)

pub range_next : (n : ℕ) → range_with_len 0 (n + 1) ≡ range_with_len 0 n ++ n ∷ []
range_next n = range_more 0 n ∙ ap (λ k. range_with_len 0 n ++ k ∷ []) (zero-add n)

-- ---- a list that rises, and its reverse

at_least_both : (b : ℕ) (xs ys : List ℕ) → AtLeast b xs → AtLeast b ys → AtLeast b (xs ++ ys)
at_least_both b [] ys h k = k
at_least_both b (x ∷ xs) ys h k = (h.0, at_least_both b xs ys h.1 k)

at_least_reversed : (b : ℕ) (xs : List ℕ) → AtLeast b xs → AtLeast b (reverse xs)
at_least_reversed b [] h = tt
at_least_reversed b (x ∷ xs) h = rw (reverse-append (x ∷ []) xs) (at_least_both b (reverse xs) (x ∷ []) (at_least_reversed b xs h.1) (h.0, tt))

at_most_more : (b x : ℕ) (xs : List ℕ) → AtMost b xs → x ≤ b → AtMost b (xs ++ x ∷ [])
at_most_more b x [] h k = (k, tt)
at_most_more b x (y ∷ ys) h k = (h.0, at_most_more b x ys h.1 k)

falls_more : (x : ℕ) (xs : List ℕ) → Falls xs → AtLeast x xs → Falls (xs ++ x ∷ [])
falls_more x [] r h = (tt, tt)
falls_more x (y ∷ ys) r h = (at_most_more y x ys r.0 h.0, falls_more x ys r.1 h.1)

pub reverse_falls : (s : List ℕ) → Rises s → Falls (reverse s)
reverse_falls [] f = tt
reverse_falls (x ∷ xs) f = rw (reverse-append (x ∷ []) xs) (falls_more x (reverse xs) (reverse_falls xs f.1) (at_least_reversed x xs f.0))

-- each number is less than those behind it
abbrev pub Climbs : List ℕ → Type 0
Climbs [] = Unit {0}
Climbs (x ∷ xs) = AtLeast (suc x) xs × Climbs xs

at_least_lower : (a b : ℕ) (xs : List ℕ) → a ≤ b → AtLeast b xs → AtLeast a xs
at_least_lower a b [] h k = tt
at_least_lower a b (x ∷ xs) h k = (omega (arith, k.0), at_least_lower a b xs h k.1)

pub climbs_rise : (xs : List ℕ) → Climbs xs → Rises xs
climbs_rise [] c = tt
climbs_rise (x ∷ xs) c = (at_least_lower x (suc x) xs (omega arith) c.0, climbs_rise xs c.1)

range_above : (b a n : ℕ) → b ≤ a → AtLeast b (range_with_len a n)
range_above b a zero h = tt
range_above b a (suc n) h = (h, range_above b (a + 1) n (omega arith))

pub range_climbs : (a n : ℕ) → Climbs (range_with_len a n)
range_climbs a zero = tt
range_climbs a (suc n) = (range_above (suc a) (a + 1) n (omega arith), range_climbs (a + 1) n)

at_least_left : (b : ℕ) (xs ys : List ℕ) → AtLeast b (xs ++ ys) → AtLeast b xs × AtLeast b ys
at_least_left b [] ys h = (tt, h)
at_least_left b (x ∷ xs) ys h = let p = at_least_left b xs ys h.1 in ((h.0, p.0), p.1)

-- a number is left out
pub climbs_without : (pre : List ℕ) (y : ℕ) (ys : List ℕ) → Climbs (pre ++ y ∷ ys) → Climbs (pre ++ ys)
climbs_without [] y ys c = c.1
climbs_without (x ∷ pre) y ys c =
    let p = at_least_left (suc x) pre (y ∷ ys) c.0 in
    (at_least_both (suc x) pre ys p.0 p.1.1, climbs_without pre y ys c.1)

-- what stands before a number and behind it
pub climbs_before : (pre : List ℕ) (y : ℕ) (ys : List ℕ) → Climbs (pre ++ y ∷ ys) → AtMost y pre
climbs_before [] y ys c = tt
climbs_before (x ∷ pre) y ys c = let p = at_least_left (suc x) pre (y ∷ ys) c.0 in (omega (arith, p.1.0), climbs_before pre y ys c.1)

pub climbs_behind : (pre : List ℕ) (y : ℕ) (ys : List ℕ) → Climbs (pre ++ y ∷ ys) → Climbs (y ∷ ys)
climbs_behind [] y ys c = c
climbs_behind (x ∷ pre) y ys c = climbs_behind pre y ys c.1
