-- The orders of rising numbers are listed one after the other.
use Rattle.std.proofs.Common.{◌≡◌, ℕ, zero, suc, ◌+◌, ◌<◌, ◌≤◌, List, [], ◌∷◌, ◌++◌, Bool, true, false, if◌then◌else◌, Option, Some, None, MatchBool}
use Rattle.std.proofs.Common.{map, take, drop, length, reverse, slice_get, append_assoc, add-one, refl, sym, ap, subst, ◌∙◌, inl, inr, arith}
use Rattle.std.specs.List.{flat_map, range_with_len}
use Rattle.std.specs.List.Sorted.{IsPermutation}
use Rattle.std.proofs.lemmas.List.{append-nil, drop_all, length-append, reverse-append, take_all}
use Rattle.std.proofs.lemmas.List.FromFn.{length-range_with_len}
use Rattle.std.proofs.lemmas.List.Sorted.{IsPermutation-reverse, IsPermutation-trans, IsPermutation-sym, IsPermutation-cons, IsPermutation-middle}
use Rattle.solve_model.specs.Firsts.{picks, orders}
use Rattle.hyp_order.specs.Orders.{ComesBefore, IsLastOrder, IsNextOrder}
use Rattle.hyp_order.specs.Falls.{AtMost, Falls}
use Rattle.hyp_order.proofs.FallLaws.{Climbs, climbs_rise, climbs_without, climbs_before, climbs_behind, range_climbs, reverse_falls}
use Rattle.hyp_order.proofs.OrderLaws.{one, count, SameCounts, same_counts, here_or, head_counted, tails_same, le_cases, counted_from_head, rises_first, falls_last}
use Rattle.hyp_order.proofs.NextLaws.{IsLeastBehind, heads_join, least_behind}

-- ---- two orders, one behind the other

pub record Link (a b : List ℕ) : Type 0 where
  pub same : IsPermutation a b
  pub after : ComesBefore a b
  pub least : IsLeastBehind a b

-- a list of orders, each linked to the next, ends in one
abbrev pub Run : List ℕ → List (List ℕ) → List ℕ → Type 0
Run a [] b = a ≡ b
Run a (y ∷ rest) b = Link a y × Run y rest b

link_behind : (x : ℕ) (a b : List ℕ) → Link a b → Link (x ∷ a) (x ∷ b)
link_behind x a b l = record { same = IsPermutation-cons x a b l.same; after = inr (refl, l.after); least = least_behind x a b l.least }

run_behind : (x : ℕ) (a : List ℕ) (rest : List (List ℕ)) (b : List ℕ) → Run a rest b → Run (x ∷ a) (map (λ o. x ∷ o) rest) (x ∷ b)
run_behind x a [] b r = ap (λ o. x ∷ o) r
run_behind x a (y ∷ rest) b r = (link_behind x a y r.0, run_behind x y rest b r.1)

run_on : (a : List ℕ) (rest : List (List ℕ)) (b c : List ℕ) (more : List (List ℕ)) (d : List ℕ) → Run a rest b → Link b c → Run c more d → Run a (rest ++ c ∷ more) d
run_on a [] b c more d r l s = (subst (λ x. Link x c) (sym r) l, s)
run_on a (y ∷ rest) b c more d r l s = (r.0, run_on y rest b c more d r.1 l s)

-- ---- from the last order with one head to the first with the next

count-append : (v : ℕ) (xs ys : List ℕ) → count v (xs ++ ys) ≡ count v xs + count v ys
count-append v [] ys = omega arith
count-append v (x ∷ xs) ys = omega (arith, count-append v xs ys)

none_there : (b v : ℕ) (xs : List ℕ) → AtMost b xs → b < v → count v xs ≡ 0
none_there b v [] h l = refl
none_there b v (x ∷ xs) h l = elim (here_or v x) [ inl e ↦ absurd (omega (arith, e, h.0, l)) | inr e ↦ omega (arith, e, none_there b v xs h.1 l) ]

module _ (pre : List ℕ) (y z : ℕ) (zs : List ℕ) (c : Climbs (pre ++ y ∷ z ∷ zs)) where
  abbrev others : List ℕ
  others = pre ++ z ∷ zs

  abbrev next : List ℕ
  next = pre ++ y ∷ zs

  less : y < z
  less = let b = climbs_behind pre y (z ∷ zs) c in omega (arith, b.0.0)

  turned_counts : (v : ℕ) → count v (reverse others) ≡ count v others
  turned_counts v = sym (same_counts others (reverse others) (IsPermutation-reverse others) v)

  next_climbs : Climbs next
  next_climbs = subst Climbs (append_assoc pre (y ∷ []) zs) (climbs_without (pre ++ y ∷ []) z zs (subst Climbs (sym (append_assoc pre (y ∷ []) (z ∷ zs))) c))

  rest_same : (w : ℕ) (ws : List ℕ) → SameCounts (y ∷ reverse others) (w ∷ ws) → z ≡ w → SameCounts next ws
  rest_same w ws same e v =
      let head : one v z ≡ one v w = ap (one v) e in
      omega (arith, head, same v, turned_counts v, count-append v pre (z ∷ zs), count-append v pre (y ∷ zs))

  change_least : IsLeastBehind (y ∷ reverse others) (z ∷ next)
  change_least [] same b = absurd b
  change_least (w ∷ ws) same (inl l) =
      let counted : 0 < count w (y ∷ reverse others) = head_counted w ws (y ∷ reverse others) same in
      let there : 0 < count w others = elim (here_or w y) [ inl e ↦ absurd (omega (arith, e, l)) | inr e ↦ omega (arith, e, counted, turned_counts w) ] in
      let none = none_there y w pre (climbs_before pre y (z ∷ zs) c) l in
      let behind : 0 < count w (z ∷ zs) = omega (arith, none, there, count-append w pre (z ∷ zs)) in
      let from : z ≤ w = counted_from_head z w zs (climbs_rise (z ∷ zs) (climbs_behind pre y (z ∷ zs) c).1).0 behind in
      elim (le_cases z w from) [
        | inl h ↦ inr (inl h)
        | inr e ↦ elim (rises_first next ws (climbs_rise next next_climbs) (rest_same w ws same e)) [ inl h ↦ inl (heads_join z w next ws e h) | inr b ↦ inr (inr (e, b)) ]
      ]
  change_least (w ∷ ws) same (inr h) =
      absurd
      (falls_last (reverse others) ws (reverse_falls others (climbs_rise others (climbs_without pre y (z ∷ zs) c)))
      (tails_same y (reverse others) ws (subst (λ x. SameCounts (y ∷ reverse others) (x ∷ ws)) (sym h.0) same)) h.1)

  change_same : IsPermutation (y ∷ reverse others) (z ∷ next)
  change_same =
      IsPermutation-trans (y ∷ reverse others) (y ∷ others) (z ∷ next) (IsPermutation-cons y (reverse others) others (IsPermutation-sym others (reverse others) (IsPermutation-reverse others)))
      (IsPermutation-trans (y ∷ others) (y ∷ z ∷ (pre ++ zs)) (z ∷ next) (IsPermutation-cons y others (z ∷ (pre ++ zs)) (IsPermutation-middle pre z zs))
      (IsPermutation-trans (y ∷ z ∷ (pre ++ zs)) (z ∷ y ∷ (pre ++ zs)) (z ∷ next) (IsPermutation-middle (y ∷ []) z (pre ++ zs))
      (IsPermutation-cons z (y ∷ (pre ++ zs)) next (IsPermutation-sym next (y ∷ (pre ++ zs)) (IsPermutation-middle pre y zs)))))

  change : Link (y ∷ reverse others) (z ∷ next)
  change = record { same = change_same; after = inl less; least = change_least }

-- ---- all orders

abbrev Listed : ℕ → List ℕ → Type 0
Listed n xs = (rest : List (List ℕ)) × (orders n xs ≡ xs ∷ rest) × Run xs rest (reverse xs)

module _ (n : ℕ) (ih : (xs : List ℕ) → Climbs xs → length xs ≡ n → Listed n xs) where
  abbrev block : List ℕ → ℕ × List ℕ → List (List ℕ)
  block pre p = map (λ o. p.0 ∷ o) (orders n (pre ++ p.1))

  abbrev blocks : List ℕ → List ℕ → List (List ℕ)
  blocks pre ys = flat_map (block pre) (picks ys)

  passed : (pre : List ℕ) (y : ℕ) (ps : List (ℕ × List ℕ)) → flat_map (block pre) (map (λ p. (p.0, y ∷ p.1)) ps) ≡ flat_map (block (pre ++ y ∷ [])) ps
  passed pre y [] = refl
  passed pre y (p ∷ ps) =
      ap (λ xs. map (λ o. p.0 ∷ o) (orders n xs) ++ flat_map (block pre) (map (λ p. (p.0, y ∷ p.1)) ps)) (sym (append_assoc pre (y ∷ []) p.1))
      ∙ ap (λ os. block (pre ++ y ∷ []) p ++ os) (passed pre y ps)

  listed_from : (ys pre : List ℕ) (y : ℕ) → Climbs (pre ++ y ∷ ys) → length (pre ++ ys) ≡ n
      → (rest : List (List ℕ)) × (blocks pre (y ∷ ys) ≡ (y ∷ (pre ++ ys)) ∷ rest) × Run (y ∷ (pre ++ ys)) rest (reverse (pre ++ y ∷ ys))
  listed_from [] pre y c l =
      let first = ih (pre ++ []) (climbs_without pre y [] c) l in
      let here : Run (y ∷ (pre ++ [])) (map (λ o. y ∷ o) first.0) (y ∷ reverse (pre ++ [])) = run_behind y (pre ++ []) first.0 (reverse (pre ++ [])) first.2 in
      let last : y ∷ reverse (pre ++ []) ≡ reverse (pre ++ y ∷ []) = ap (λ xs. y ∷ reverse xs) (append-nil pre) ∙ sym (reverse-append pre (y ∷ [])) in (
        map (λ o. y ∷ o) first.0,
        append-nil (block pre (y, [])) ∙ ap (λ os. map (λ o. y ∷ o) os) first.1,
        subst (Run (y ∷ (pre ++ [])) (map (λ o. y ∷ o) first.0)) last here,
      )
  listed_from (z ∷ zs) pre y c l =
      let first = ih (pre ++ z ∷ zs) (climbs_without pre y (z ∷ zs) c) l in
      let here : Run (y ∷ (pre ++ z ∷ zs)) (map (λ o. y ∷ o) first.0) (y ∷ reverse (pre ++ z ∷ zs)) = run_behind y (pre ++ z ∷ zs) first.0 (reverse (pre ++ z ∷ zs)) first.2 in
      let long : length ((pre ++ y ∷ []) ++ zs) ≡ n = omega (arith, l, length-append pre (z ∷ zs), length-append (pre ++ y ∷ []) zs, length-append pre (y ∷ [])) in
      let more = listed_from zs (pre ++ y ∷ []) z (subst Climbs (sym (append_assoc pre (y ∷ []) (z ∷ zs))) c) long in
      let link : Link (y ∷ reverse (pre ++ z ∷ zs)) (z ∷ ((pre ++ y ∷ []) ++ zs)) =
      subst (λ xs. Link (y ∷ reverse (pre ++ z ∷ zs)) (z ∷ xs)) (sym (append_assoc pre (y ∷ []) zs)) (change pre y z zs c) in
      let all = run_on (y ∷ (pre ++ z ∷ zs)) (map (λ o. y ∷ o) first.0) (y ∷ reverse (pre ++ z ∷ zs)) (z ∷ ((pre ++ y ∷ []) ++ zs)) more.0 (reverse ((pre ++ y ∷ []) ++ z ∷ zs)) here link more.2 in
      let last : reverse ((pre ++ y ∷ []) ++ z ∷ zs) ≡ reverse (pre ++ y ∷ z ∷ zs) = ap (λ (xs : List ℕ). reverse xs) (append_assoc pre (y ∷ []) (z ∷ zs)) in
      let rest : List (List ℕ) = map (λ o. y ∷ o) first.0 ++ (z ∷ ((pre ++ y ∷ []) ++ zs)) ∷ more.0 in (
        rest,
        ap (λ os. block pre (y, z ∷ zs) ++ os) (passed pre y (picks (z ∷ zs)) ∙ more.1) ∙ ap (λ os. map (λ o. y ∷ o) os ++ (z ∷ ((pre ++ y ∷ []) ++ zs)) ∷ more.0) first.1,
        subst (Run (y ∷ (pre ++ z ∷ zs)) rest) last all,
      )

listed : (n : ℕ) (xs : List ℕ) → Climbs xs → length xs ≡ n → Listed n xs
listed zero [] c l = ([], refl, refl)
listed zero (x ∷ xs) c l = absurd (omega arith)
listed (suc n) [] c l = absurd (omega arith)
listed (suc n) (x ∷ xs) c l = listed_from n (listed n) xs [] x c (omega arith)

-- ---- the order behind one in the list

run_next : (rest : List (List ℕ)) (a b x y : List ℕ) (k : ℕ) → Run a rest b → slice_get (a ∷ rest) k ≡ Some x → slice_get (a ∷ rest) (suc k) ≡ Some y → Link x y
run_next [] a b x y zero r e f = absurd (cc)
run_next [] a b x y (suc k) r e f = absurd (cc)
run_next (c ∷ rest) a b x y zero r e f = let one : a ≡ x = cc in let other : c ≡ y = cc in subst (λ u. Link u y) one (subst (λ u. Link a u) other r.0)
run_next (c ∷ rest) a b x y (suc k) r e f = run_next rest c b x y k r.1 e f

run_end : (rest : List (List ℕ)) (a b x : List ℕ) (k : ℕ) → Run a rest b → slice_get (a ∷ rest) k ≡ Some x → slice_get (a ∷ rest) (suc k) ≡ None → x ≡ b
run_end [] a b x zero r e f = let one : a ≡ x = cc in sym one ∙ r
run_end [] a b x (suc k) r e f = absurd (cc)
run_end (c ∷ rest) a b x zero r e f = absurd (cc)
run_end (c ∷ rest) a b x (suc k) r e f = run_end rest c b x k r.1 e f

not_both : (a b : List ℕ) → ComesBefore a b → ComesBefore b a → ⊥
not_both [] b h k = h
not_both (x ∷ a) [] h k = h
not_both (x ∷ a) (y ∷ b) (inl h) (inl k) = omega arith
not_both (x ∷ a) (y ∷ b) (inl h) (inr k) = omega (arith, k.0)
not_both (x ∷ a) (y ∷ b) (inr h) (inl k) = omega (arith, h.0)
not_both (x ∷ a) (y ∷ b) (inr h) (inr k) = not_both a b h.1 k.1

next_once : (a b c : List ℕ) → Link a b → IsNextOrder a c → b ≡ c
next_once a b c l n = elim (l.least c (same_counts a c n.same) n.after) [
  | inl e ↦ e
  | inr h ↦ elim (n.least b l.same l.after) [ inl e ↦ sym e | inr k ↦ absurd (not_both b c h k) ]
]

module _ (n k : ℕ) (old : List ℕ) where
  numbers_listed : Listed n (range_with_len 0 n)
  numbers_listed = listed n (range_with_len 0 n) (range_climbs 0 n) (length-range_with_len 0 n)

  at_list : (j : ℕ) → slice_get (orders n (range_with_len 0 n)) j ≡ slice_get (range_with_len 0 n ∷ numbers_listed.0) j
  at_list j = ap (λ os. slice_get os j) numbers_listed.1

  next_listed : (y : List ℕ) → slice_get (orders n (range_with_len 0 n)) k ≡ Some old → slice_get (orders n (range_with_len 0 n)) (suc k) ≡ Some y → Link old y
  next_listed y e f = run_next numbers_listed.0 (range_with_len 0 n) (reverse (range_with_len 0 n)) old y k numbers_listed.2 (sym (at_list k) ∙ e) (sym (at_list (suc k)) ∙ f)

  last_listed : slice_get (orders n (range_with_len 0 n)) k ≡ Some old → slice_get (orders n (range_with_len 0 n)) (suc k) ≡ None → Falls old
  last_listed e f =
      subst Falls (sym (run_end numbers_listed.0 (range_with_len 0 n) (reverse (range_with_len 0 n)) old k numbers_listed.2 (sym (at_list k) ∙ e) (sym (at_list (suc k)) ∙ f)))
      (reverse_falls (range_with_len 0 n) (climbs_rise (range_with_len 0 n) (range_climbs 0 n)))

  pub listed_next : (new : List ℕ) (b : Bool) → MatchBool b (IsNextOrder old new) ((new ≡ old) × IsLastOrder old) → slice_get (orders n (range_with_len 0 n)) k ≡ Some old
      → slice_get (orders n (range_with_len 0 n)) (k + 1) ≡ (if b then Some new else None)
  listed_next new b m e = rw (add-one k) (by b (slice_get (orders n (range_with_len 0 n)) (suc k)) m refl)
    where
      by : (b : Bool) (o : Option (List ℕ)) → MatchBool b (IsNextOrder old new) ((new ≡ old) × IsLastOrder old)
          → slice_get (orders n (range_with_len 0 n)) (suc k) ≡ o → o ≡ (if b then Some new else None)
      by true None m f = absurd (falls_last old new (last_listed e f) (same_counts old new m.same) m.after)
      by true (Some y) m f = ap (λ (x : List ℕ). Some x) (next_once old y new (next_listed y e f) m)
      by false None m f = refl
      by false (Some y) m f = let l = next_listed y e f in absurd (m.1 y l.same l.after)

pub first_listed : (n : ℕ) → slice_get (orders n (range_with_len 0 n)) 0 ≡ Some (range_with_len 0 n)
first_listed n = ap (λ os. slice_get os 0) (listed n (range_with_len 0 n) (range_climbs 0 n) (length-range_with_len 0 n)).1

-- what a whole slice leaves in its list
pub put_back : (len : ℕ) (new items old : List ℕ) → len ≡ length items → length new ≡ length old → old ≡ items → take len (new ++ drop (length new) items) ≡ new
put_back len new items old e f g =
    let long : length old ≡ length items = ap (λ (l : List ℕ). length l) g in
    ap (λ l. take len (new ++ l)) (drop_all (length new) items (omega (arith, f, long))) ∙ ap (take len) (append-nil new) ∙ take_all len new (omega (arith, e, f, long))
