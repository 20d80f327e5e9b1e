-- Places where no block is open.
use Rattle.std.proofs.Common.{◌≡◌, ℕ, zero, suc, ◌+◌, ◌-◌, ◌<◌, ◌≤◌, ◌==◌, Bool, true, false, cond, List, [], ◌∷◌, length, drop, map, Some, None}
use Rattle.std.proofs.Common.{slice_get, option_map, unwrap_or, eqb, refl, sym, ap, ◌∙◌, arith, inl, inr}
use Rattle.std.specs.Prelude.{find}
use Rattle.std.specs.List.{range_with_len}
use Rattle.std.proofs.lemmas.Bool.{cases_Bool}
use Rattle.std.proofs.lemmas.Bool.Decides.{nat_tests}
use Rattle.mm_model.specs.Names.{Name}
use Rattle.mm_model.specs.Statements.{Statement, is_empty, path}
use Rattle.mm_model.specs.Frames.{below}
use Rattle.mm_model.proofs.Scopes.{path-open, path-close, path-plain}
use Rattle.frame_lists.specs.declared.entry.Entry.{Entry}
use Rattle.frame_lists.specs.declared.entry.EntryKind.{EntryKind}
use Rattle.frame_lists.specs.declared.entry.EntryKind.TheVariants as entry
use Rattle.frame_lists.specs.Entries.{entry_in, kind_in}
use Rattle.frame_lists.specs.Listings.{place_behind}
use Rattle.frame_lists.specs.Places.{depth_after, depth_at, depth_upto, place_by}
use Rattle.frame_lists.proofs.Keywords.{opens, closes, neither}
use Rattle.frame_lists.proofs.Placed.{below-next}
use Rattle.frame_lists.proofs.MandatoryLaws.{get-map}
use Rattle.frame_lists.proofs.Upto.{next-is}
use Rattle.frame_lists.proofs.UptoLaws.{statement-at}

find-at : (q : ℕ → Bool) (a n r : ℕ) → a ≤ r → r < a + n → q r ≡ true → ((p : ℕ) → a ≤ p → p < r → q p ≡ false) → find q (range_with_len a n) ≡ Some r
find-at q a zero r low high h none = let bad : ⊥ = omega (arith, low, high) in absurd bad
find-at q a (suc n) r low high h none = elim (cases_Bool (eqb a r)) [
  | inl e ↦ let same : a ≡ r = grind (arith, nat_tests) in let here : q a ≡ true = ap q same ∙ h in rw here (ap (λ (k : ℕ). Some k) same)
  | inr e ↦
      let less : a < r = grind (arith, nat_tests, low) in
      let no : q a ≡ false = none a (omega arith) less in
      rw no (find-at q (a + 1) n r (omega (arith, less)) (omega (arith, high)) h (λ p l m. none p (omega (arith, l)) m))
]

find-none : (q : ℕ → Bool) (a n : ℕ) → ((p : ℕ) → a ≤ p → p < a + n → q p ≡ false) → find q (range_with_len a n) ≡ None
find-none q a zero none = refl
find-none q a (suc n) none = let no : q a ≡ false = none a (omega arith) (omega arith) in rw no (find-none q (a + 1) n (λ p l m. none p (omega (arith, l)) (omega (arith, m))))

find-same : (q r : ℕ → Bool) (a n : ℕ) → ((p : ℕ) → a ≤ p → p < a + n → q p ≡ r p) → find q (range_with_len a n) ≡ find r (range_with_len a n)
find-same q r a zero same = refl
find-same q r a (suc n) same =
    let later = find-same q r (a + 1) n (λ p l m. same p (omega (arith, l)) (omega (arith, m))) in
    ap (λ b. cond b (Some a) (find q (range_with_len (a + 1) n))) (same a (omega arith) (omega arith)) ∙ ap (λ o. cond (r a) (Some a) o) later

zero-test : (n : ℕ) → n ≡ 0 → (n == 0) ≡ true
zero-test n h = grind (arith, nat_tests, h)

not-zero : (n : ℕ) → (n ≡ 0 → ⊥) → (n == 0) ≡ false
not-zero zero h = absurd (h refl)
not-zero (suc n) h = grind (arith, nat_tests)

-- the first place behind the position with no open block
pub place-found : (xs : List Entry) (position r : ℕ) → suc position ≤ r → r ≤ length xs → depth_upto xs r ≡ 0
    → ((p : ℕ) → suc position ≤ p → p < r → depth_upto xs p ≡ 0 → ⊥) → r ≡ place_by xs position
place-found xs position r low high h none =
    sym (ap (λ o. unwrap_or o (length xs))
    (find-at (λ p. depth_upto xs p == 0) (suc position) (length xs - position) r low (omega (arith, low, high)) (zero-test (depth_upto xs r) h)
    (λ p l m. not-zero (depth_upto xs p) (none p l m))))

pub no-place : (xs : List Entry) (position : ℕ) → ((p : ℕ) → suc position ≤ p → p ≤ length xs → depth_upto xs p ≡ 0 → ⊥) → length xs ≡ place_by xs position
no-place xs position none =
    sym (ap (λ o. unwrap_or o (length xs)) (find-none (λ p. depth_upto xs p == 0) (suc position) (length xs - position) (λ p l m. not-zero (depth_upto xs p) (none p l (within p l m)))))
  where
    within : (p : ℕ) → suc position ≤ p → p < suc position + (length xs - position) → p ≤ length xs
    within p l m = omega (arith, l, m)

pub depth-step : (xs : List Entry) (k d : ℕ) (x : Entry) → slice_get xs k ≡ Some x → d ≡ depth_upto xs k → depth_after x.kind d ≡ depth_upto xs (k + 1)
depth-step xs k d x h is = ap (λ (n : ℕ). depth_after x.kind n) is ∙ ap (λ o. depth_at o (depth_upto xs k)) (sym h) ∙ ap (λ (n : ℕ). depth_upto xs n) (sym (next-is k))

pub depth-grows : (k : EntryKind) (d n : ℕ) → d ≤ n → depth_after k d ≤ n + 1
depth-grows entry.OpenBlock d n h = omega (arith, h)
depth-grows entry.CloseBlock d n h = omega (arith, h)
depth-grows (entry.Statement k) d n h = omega (arith, h)

-- ---- how many blocks are open

drop-length : (p : List ℕ) → length (drop 1 p) ≡ length p - 1
drop-length [] = refl
drop-length (n ∷ p) = omega arith

depth-law : (names : List Name) (ss : List Statement) (k : ℕ) → k ≤ length ss → depth_upto (map (entry_in names) ss) k ≡ length (path (below ss k))
depth-law names ss zero h = refl
depth-law names ss (suc k) h =
    let s = statement-at ss k (omega (arith, h)) in
    let e = below ss k in
    let before = depth-law names ss k (omega (arith, h)) in
    ap (λ o. depth_at o (depth_upto (map (entry_in names) ss) k)) (get-map (entry_in names) ss k ∙ ap (λ o. option_map (entry_in names) o) s.1)
    ∙ ap (λ (n : ℕ). depth_after (kind_in s.0) n) before ∙ by_kind s.0 e (kind_in s.0) refl ∙ ap (λ b. length (path b)) (sym (below-next ss k s.0 s.1))
  where
    by_kind : (s : Statement) (e : List Statement) (k : EntryKind) → kind_in s ≡ k → depth_after k (length (path e)) ≡ length (path (s ∷ e))
    by_kind s e entry.OpenBlock is = let open_ = ap (λ (p : List ℕ). length p) (path-open s e (opens s is)) in omega (arith, open_)
    by_kind s e entry.CloseBlock is = let c = closes s is in sym (ap (λ (p : List ℕ). length p) (path-close s e c.0 c.1) ∙ drop-length (path e))
    by_kind s e (entry.Statement k) is = let n = neither s is in sym (ap (λ (p : List ℕ). length p) (path-plain s e n.0 n.1))

empty-test : (p : List ℕ) → (length p == 0) ≡ is_empty p
empty-test [] = refl
empty-test (n ∷ p) = grind (arith, nat_tests)

mapped-length : (names : List Name) (ss : List Statement) → length (map (entry_in names) ss) ≡ length ss
mapped-length names [] = refl
mapped-length names (s ∷ ss) = ap (λ (n : ℕ). suc n) (mapped-length names ss)

pub place-law : (names : List Name) (ss : List Statement) (position : ℕ) → place_by (map (entry_in names) ss) position ≡ place_behind ss position
place-law names ss position =
    let xs = map (entry_in names) ss in
    let long = mapped-length names ss in
    ap (λ (n : ℕ). unwrap_or (find (λ p. depth_upto xs p == 0) (range_with_len (suc position) (n - position))) n) long
    ∙ ap (λ o. unwrap_or o (length ss)) (find-same (λ p. depth_upto xs p == 0) (λ p. is_empty (path (below ss p))) (suc position) (length ss - position)
    (λ p l m. ap (λ (d : ℕ). d == 0) (depth-law names ss p (omega (arith, l, m))) ∙ empty-test (path (below ss p))))
