-- An index of heads that grows entry by entry.
use Rattle.std.specs.Prelude.{◌≡◌, ◌+◌, ◌++◌, ◌&&◌, ℕ, zero, suc, Bool, true, false, List, [], ◌∷◌, take, slice_get, Option, Some, None, nat_eq, unwrap_or, refl}
use Rattle.std.proofs.Common.{arith, sym, ap, ◌∙◌, cond, inl, inr}
use Rattle.std.proofs.lemmas.Bool.{cases_Bool, and_parts, eqb-true}
use Rattle.mm_base.specs.declared.symbols.Label.{Label}
use Rattle.mm_model.specs.Names.{label}
use Rattle.mm_database.specs.declared.assertions.Parsed.{Parsed}
use Rattle.mm_database.specs.declared.heads.Heads.{Heads}
use Rattle.mm_database.specs.HeadKeys.{entry_key, is_at, labels_from}
use Rattle.mm_database.specs.Heads.{labels_at, AreHeads}

abbrev pub same_key : ℕ × ℕ → ℕ × ℕ → Bool
same_key a b = nat_eq a.0 b.0 && nat_eq a.1 b.1

abbrev pair : ℕ → ℕ → ℕ × ℕ
pair x y = (x, y)

keys_same : (k : ℕ × ℕ) (h n : ℕ) → same_key k (h, n) ≡ true → (let q : ℕ × ℕ = (h, n) in k ≡ q)
keys_same k h n e =
    let both = and_parts (nat_eq k.0 h) (nat_eq k.1 n) e in
    let a : k.0 ≡ h = eqb-true k.0 h both.0 in
    let b : k.1 ≡ n = eqb-true k.1 n both.1 in
    ap (λ x. pair x k.1) a ∙ ap (λ y. pair h y) b

-- the list at a key is taken out, and put back with one more
pub heads_turn : (f m g : ℕ × ℕ → Option (List Label)) (k : ℕ × ℕ) (labels : List Label) (l : Label) → labels ≡ unwrap_or (f k) []
    → ((q : ℕ × ℕ) → m q ≡ cond (same_key k q) None (f q)) → ((q : ℕ × ℕ) → g q ≡ cond (same_key k q) (Some (labels ++ l ∷ [])) (m q))
    → (h n : ℕ) → unwrap_or (g (h, n)) [] ≡ cond (nat_eq k.0 h && nat_eq k.1 n) (unwrap_or (f (h, n)) [] ++ l ∷ []) (unwrap_or (f (h, n)) [])
heads_turn f m g k labels l is taken put h n = elim (cases_Bool (nat_eq k.0 h && nat_eq k.1 n)) [
  | inl d ↦
      let there = put (h, n) ∙ ap (λ b. cond b (Some (labels ++ l ∷ [])) (m (h, n))) d in
      ap (λ o. unwrap_or o []) there ∙ ap (λ xs. xs ++ l ∷ []) (is ∙ ap (λ q. unwrap_or (f q) []) (keys_same k h n d))
      ∙ ap (λ b. cond b (unwrap_or (f (h, n)) [] ++ l ∷ []) (unwrap_or (f (h, n)) [])) (sym d)
  | inr d ↦
      let there = put (h, n) ∙ ap (λ b. cond b (Some (labels ++ l ∷ [])) (m (h, n))) d ∙ taken (h, n) ∙ ap (λ b. cond b None (f (h, n))) d in
      ap (λ o. unwrap_or o []) there ∙ ap (λ b. cond b (unwrap_or (f (h, n)) [] ++ l ∷ []) (unwrap_or (f (h, n)) [])) (sym d)
]

-- ---- the labels at a key, entry by entry

abbrev one_more : Bool → List Label → ℕ → List Label
one_more b ls n = cond b (ls ++ label n ∷ []) ls

behind : (b c : Bool) (at n : ℕ) (ls : List Label) → cond b (label at ∷ one_more c ls n) (one_more c ls n) ≡ one_more c (cond b (label at ∷ ls) ls) n
behind true true at n ls = refl
behind true false at n ls = refl
behind false true at n ls = refl
behind false false at n ls = refl

first_more : (b : Bool) (at n : ℕ) → n ≡ at → cond b (label at ∷ []) [] ≡ one_more b [] n
first_more true at n is = ap (λ k. label k ∷ []) (sym is)
first_more false at n is = refl

module _ (h n : ℕ) where
  labels_more : (at : ℕ) (ps : List (Option Parsed)) (k : ℕ) (p : Option Parsed) → slice_get ps k ≡ Some p
      → labels_from h n at (take (suc k) ps) ≡ one_more (is_at h n (entry_key p)) (labels_from h n at (take k ps)) (at + k)
  labels_more at [] k p is = absurd (cc)
  labels_more at (x ∷ ps) zero p is =
      let same : x ≡ p = cc in
      ap (λ (y : Option Parsed). cond (is_at h n (entry_key y)) (label at ∷ []) []) same ∙ first_more (is_at h n (entry_key p)) at (at + 0) (omega arith)
  labels_more at (x ∷ ps) (suc k) p is =
      let next : suc at + k ≡ at + suc k = omega arith in
      let more = labels_more (suc at) ps k p is ∙ ap (λ j. one_more (is_at h n (entry_key p)) (labels_from h n (suc at) (take k ps)) j) next in
      ap (λ ls. cond (is_at h n (entry_key x)) (label at ∷ ls) ls) more ∙ behind (is_at h n (entry_key x)) (is_at h n (entry_key p)) at (at + suc k) (labels_from h n (suc at) (take k ps))

  pub next_labels : (ps : List (Option Parsed)) (k : ℕ) (p : Option Parsed) → slice_get ps k ≡ Some p
      → labels_from h n 0 (take (k + 1) ps) ≡ one_more (is_at h n (entry_key p)) (labels_from h n 0 (take k ps)) k
  next_labels ps k p is =
      let next : k + 1 ≡ suc k = omega arith in
      let same : 0 + k ≡ k = omega arith in
      ap (λ j. labels_from h n 0 (take j ps)) next ∙ labels_more 0 ps k p is ∙ ap (λ j. one_more (is_at h n (entry_key p)) (labels_from h n 0 (take k ps)) j) same

module _ (ps : List (Option Parsed)) (k : ℕ) (p : Option Parsed) (at : slice_get ps k ≡ Some p) where
  -- an entry with a key
  pub heads_added : (old new : Heads) (q : ℕ × ℕ) → entry_key p ≡ Some q
      → ((h n : ℕ) → labels_at new h n ≡ cond (nat_eq q.0 h && nat_eq q.1 n) (labels_at old h n ++ label k ∷ []) (labels_at old h n)) → AreHeads (take k ps) old → AreHeads (take (k + 1) ps) new
  heads_added old new q is added before h n =
      added h n ∙ ap (λ ls. one_more (nat_eq q.0 h && nat_eq q.1 n) ls k) (before h n)
      ∙ ap (λ o. one_more (is_at h n o) (labels_from h n 0 (take k ps)) k) (sym is) ∙ sym (next_labels h n ps k p at)

  -- an entry without one
  pub heads_skipped : (x : Heads) → entry_key p ≡ None → AreHeads (take k ps) x → AreHeads (take (k + 1) ps) x
  heads_skipped x none before h n = before h n ∙ ap (λ o. one_more (is_at h n o) (labels_from h n 0 (take k ps)) k) (sym none) ∙ sym (next_labels h n ps k p at)
