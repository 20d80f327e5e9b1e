-- The next order: the last rise takes the least greater number behind it, and the rest rises.
use Rattle.std.proofs.Common.{◌≡◌, ℕ, zero, suc, ◌+◌, ◌<◌, ◌≤◌, ◌⊎◌, List, [], ◌∷◌, ◌++◌, length, take, drop, reverse, get_or, set, refl, sym, ap}
use Rattle.std.proofs.Common.{◌∙◌, subst, inl, inr, add-one, arith}
use Rattle.std.specs.List.{swap}
use Rattle.std.specs.List.Sorted.{IsPermutation}
use Rattle.std.proofs.lemmas.List.{get_or_default, take-append-drop}
use Rattle.std.proofs.lemmas.List.Sorted.{IsPermutation-append_right, IsPermutation-reverse, IsPermutation-trans}
use Rattle.hyp_order.specs.Orders.{ComesBefore, IsFirstOrder, IsLastOrder, IsNextOrder}
use Rattle.hyp_order.specs.Falls.{AtMost, Falls}
use Rattle.hyp_order.proofs.FallLaws.{Rises, at_most_there, reverse_rises}
use Rattle.hyp_order.proofs.OrderLaws.{one, count, SameCounts, same_counts, here_or, head_counted, tails_same, le_cases, counted_at_most, rises_first, falls_last}

-- ---- a number is put in the place of another

at_most_set : (b x : ℕ) (s : List ℕ) (j : ℕ) → AtMost b s → x ≤ b → AtMost b (set s j x)
at_most_set b x [] j h k = tt
at_most_set b x (a ∷ s) zero h k = (k, h.1)
at_most_set b x (a ∷ s) (suc j) h k = (h.0, at_most_set b x s j h.1 k)

falls_set : (x : ℕ) (s : List ℕ) (j : ℕ) → Falls s → j < length s → x ≤ get_or s j 0 → AtMost x (drop (suc j) s) → Falls (set s j x)
falls_set x [] j f k h r = tt
falls_set x (a ∷ s) zero f k h r = (r, f.1)
falls_set x (a ∷ s) (suc j) f k h r =
    let below : get_or s j 0 ≤ a = at_most_there a s j f.0 (omega arith) in
    (at_most_set a x s j f.0 (omega arith), falls_set x s j f.1 (omega arith) h r)

count_set : (v x : ℕ) (s : List ℕ) (j : ℕ) → j < length s → one v (get_or s j 0) + count v (set s j x) ≡ one v x + count v s
count_set v x [] j k = absurd (omega arith)
count_set v x (a ∷ s) zero k = omega arith
count_set v x (a ∷ s) (suc j) k = omega (arith, count_set v x s j (omega arith))

least_above : (x z : ℕ) (s : List ℕ) (j : ℕ) → Falls s → j < length s → AtMost x (drop (suc j) s) → x < z → 0 < count z s → get_or s j 0 ≤ z
least_above x z [] j f k r l c = absurd (omega arith)
least_above x z (a ∷ s) zero f k r l c =
    elim (here_or z a) [ inl e ↦ omega (arith, e) | inr e ↦ let most = counted_at_most x z s r (omega (arith, e, c)) in absurd (omega (arith, most)) ]
least_above x z (a ∷ s) (suc j) f k r l c =
    elim (here_or z a) [ inl e ↦ omega (arith, e, at_most_there a s j f.0 (omega arith)) | inr e ↦ least_above x z s j f.1 (omega arith) r l (omega (arith, e, c)) ]

-- ---- the least order behind one

abbrev pub IsLeastBehind : List ℕ → List ℕ → Type 0
IsLeastBehind s new = (other : List ℕ) → SameCounts s other → ComesBefore s other → (new ≡ other) ⊎ ComesBefore new other

pub heads_join : (x y : ℕ) (xs ys : List ℕ) → x ≡ y → xs ≡ ys → x ∷ xs ≡ y ∷ ys
heads_join x y xs ys e f = cc

module _ (x : ℕ) (s : List ℕ) (j : ℕ) (f : Falls s) (k : j < length s) (l : x < get_or s j 0) (r : AtMost x (drop (suc j) s)) where
  rest_same : (z : ℕ) (zs : List ℕ) → SameCounts (x ∷ s) (z ∷ zs) → get_or s j 0 ≡ z → SameCounts (reverse (set s j x)) zs
  rest_same z zs same e v =
      let turned = same_counts (set s j x) (reverse (set s j x)) (IsPermutation-reverse (set s j x)) v in
      let head : one v (get_or s j 0) ≡ one v z = ap (one v) e in
      omega (arith, turned, head, count_set v x s j k, same v)

  least_here : IsLeastBehind (x ∷ s) (get_or s j 0 ∷ reverse (set s j x))
  least_here [] same b = absurd b
  least_here (z ∷ zs) same (inl less) =
      let counted : 0 < count z s = elim (here_or z x) [ inl e ↦ absurd (omega (arith, e)) | inr e ↦ omega (arith, e, head_counted z zs (x ∷ s) same) ] in
      elim (le_cases (get_or s j 0) z (least_above x z s j f k r less counted)) [
        | inl h ↦ inr (inl h)
        | inr e ↦
            elim (rises_first (reverse (set s j x)) zs (reverse_rises (set s j x) (falls_set x s j f k (omega arith) r)) (rest_same z zs same e)) [
              | inl h ↦ inl (heads_join (get_or s j 0) z (reverse (set s j x)) zs e h)
              | inr b ↦ inr (inr (e, b))
            ]
      ]
  least_here (z ∷ zs) same (inr h) = absurd (falls_last s zs f (tails_same x s zs (subst (λ y. SameCounts (x ∷ s) (y ∷ zs)) (sym h.0) same)) h.1)

pub least_behind : (p : ℕ) (s new : List ℕ) → IsLeastBehind s new → IsLeastBehind (p ∷ s) (p ∷ new)
least_behind p s new h [] same b = absurd b
least_behind p s new h (z ∷ zs) same (inl less) = inr (inl less)
least_behind p s new h (z ∷ zs) same (inr b) =
    elim (h zs (tails_same p s zs (subst (λ y. SameCounts (p ∷ s) (y ∷ zs)) (sym b.0) same)) b.1) [
      | inl e ↦ inl (heads_join p z new zs b.0 e)
      | inr c ↦ inr (inr (b.0, c))
    ]

-- ---- the next order at a place

abbrev swapped : List ℕ → ℕ → ℕ → List ℕ
swapped s i j = set (set s i (get_or s j 0)) j (get_or s i 0)

swap_is : (s : List ℕ) (i j : ℕ) → i < length s → j < length s → swap s i j ≡ swapped s i j
swap_is [] i j h k = refl
swap_is (d ∷ s) i j h k = rw (get_or_default (d ∷ s) i d 0 h, get_or_default (d ∷ s) j d 0 k) refl

abbrev turned : ℕ → List ℕ → List ℕ
turned i s = take (suc i) s ++ reverse (drop (suc i) s)

next_at : (s : List ℕ) (i j : ℕ) → i < j → j < length s → get_or s i 0 < get_or s j 0 → AtMost (get_or s i 0) (drop (suc j) s) → Falls (drop (suc i) s)
    → ComesBefore s (turned i (swapped s i j)) × IsLeastBehind s (turned i (swapped s i j))
next_at [] i j h k l r f = absurd (omega arith)
next_at (x ∷ s) zero zero h k l r f = absurd (omega arith)
next_at (x ∷ s) zero (suc j) h k l r f = (inl l, least_here x s j f (omega arith) l r)
next_at (x ∷ s) (suc i) zero h k l r f = absurd (omega arith)
next_at (x ∷ s) (suc i) (suc j) h k l r f =
    let rest = next_at s i j (omega arith) (omega arith) l r f in
    (inr (refl, rest.0), least_behind x s (turned i (swapped s i j)) rest.1)

turned_same : (n : ℕ) (s : List ℕ) → IsPermutation s (take n s ++ reverse (drop n s))
turned_same n s =
    subst (λ (l : List ℕ). IsPermutation l (take n s ++ reverse (drop n s))) (take-append-drop n s)
    (IsPermutation-append_right (take n s) (drop n s) (reverse (drop n s)) (IsPermutation-reverse (drop n s)))

pub is_next : (s mid new : List ℕ) (i j : ℕ) → i < j → j < length s → get_or s i 0 < get_or s j 0 → AtMost (get_or s i 0) (drop (j + 1) s) → Falls (drop (i + 1) s)
    → mid ≡ swap s i j → IsPermutation s mid → new ≡ take (i + 1) mid ++ reverse (drop (i + 1) mid) → IsNextOrder s new
is_next s mid new i j h k l r f e same d =
    let at = next_at s i j h k l (subst (λ n. AtMost (get_or s i 0) (drop n s)) (add-one j) r) (subst (λ n. Falls (drop n s)) (add-one i) f) in
    let is : turned i (swapped s i j) ≡ new = sym (d ∙ ap (λ n. take n mid ++ reverse (drop n mid)) (add-one i) ∙ ap (turned i) (e ∙ swap_is s i j (omega arith) k)) in
    let moved : IsPermutation s new = subst (IsPermutation s) (sym d) (IsPermutation-trans s mid (take (i + 1) mid ++ reverse (drop (i + 1) mid)) same (turned_same (i + 1) mid)) in
    record { same = moved; after = subst (ComesBefore s) is at.0; least = λ other p b. subst (λ n. IsLeastBehind s n) is at.1 other (same_counts s other p) b }

pub is_last : (s : List ℕ) → Falls s → IsLastOrder s
is_last s f other p b = falls_last s other f (same_counts s other p) b

pub is_first : (s : List ℕ) → Rises s → IsFirstOrder s
is_first s r other p = rises_first s other r (same_counts s other p)
