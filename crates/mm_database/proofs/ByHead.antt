-- The labels at a key are those with the key's head.
use Rattle.std.specs.Prelude.{◌≡◌, ◌+◌, ◌==◌, ◌&&◌, ℕ, suc, false, List, [], ◌∷◌, length, map, filter, slice_get, Option, Some, None, option_map, option_and_then, nat_eq, refl}
use Rattle.std.specs.List.{range_with_len}
use Rattle.std.proofs.Common.{arith, sym, ap, ◌∙◌, cond}
use Rattle.std.proofs.lemmas.Bool.Decides.{nat_tests}
use Rattle.mm_base.specs.declared.symbols.Label.{Label}
use Rattle.mm_base.specs.declared.tree.Tree.{Tree, out-Tree}
use Rattle.mm_base.specs.declared.tree.Tree.TheOpen.{Tree-F}
use Rattle.mm_model.specs.Names.{label}
use Rattle.mm_database.specs.declared.assertions.Parsed.{Parsed}
use Rattle.mm_database.specs.HeadKeys.{head_key, layer_key, entry_key, is_at, labels_from}
use Rattle.mm_database.specs.ByHead.{is_head, stands_by, by_head}

not_next : (n : ℕ) → nat_eq (n + 1) 0 ≡ false
not_next n = grind (arith, nat_tests)

next_not : (n : ℕ) → nat_eq 0 (n + 1) ≡ false
next_not n = grind (arith, nat_tests)

next_same : (m n : ℕ) → nat_eq (m + 1) (n + 1) ≡ nat_eq m n
next_same m n = grind (arith, nat_tests)

abbrev keyed : ℕ → ℕ → ℕ × ℕ
keyed m h = (h, m)

layer_at : (head : Option Label) (y : Tree-F Tree) (m n : ℕ) → (is_head head y && m == n) ≡ is_at (head_key head) n (option_map (keyed m) (layer_key y))
layer_at None (Tree-F.Var s c) m n = refl
layer_at None (Tree-F.Work c k) m n = refl
layer_at None (Tree-F.Fresh c k) m n = refl
layer_at None (Tree-F.Node l c ts) m n = ap (λ b. b && nat_eq m n) (sym (not_next l.0))
layer_at (Some h) (Tree-F.Var s c) m n = ap (λ b. b && nat_eq m n) (sym (next_not h.0))
layer_at (Some h) (Tree-F.Work c k) m n = refl
layer_at (Some h) (Tree-F.Fresh c k) m n = refl
layer_at (Some h) (Tree-F.Node l c ts) m n = ap (λ b. b && nat_eq m n) (sym (next_same l.0 h.0))

module _ (head : Option Label) (n : ℕ) where
  entry_at : (p : Option Parsed) → stands_by head n p ≡ is_at (head_key head) n (entry_key p)
  entry_at None = refl
  entry_at (Some p) = layer_at head (out-Tree p.tree) (length p.hyps) n

  abbrev passing : (ℕ → Option Parsed) → ℕ → ℕ → List Label
  passing f at many = filter (λ (l : Label). stands_by head n (f l.0)) (map label (range_with_len at many))

  -- f gives the entries, the first of them at a number
  passing_from : (f : ℕ → Option Parsed) (at : ℕ) (ps : List (Option Parsed))
      → ((k : ℕ) → f (k + at) ≡ option_and_then (λ (o : Option Parsed). o) (slice_get ps k)) → passing f at (length ps) ≡ labels_from (head_key head) n at ps
  passing_from f at [] is = refl
  passing_from f at (p ∷ ps) is =
      let here : f at ≡ p = ap f (let same : at ≡ 0 + at = omega arith in same) ∙ is 0 in
      let rest = passing_from f (at + 1) ps (λ k. ap f (let same : k + (at + 1) ≡ suc k + at = omega arith in same) ∙ is (suc k)) in
      let next : at + 1 ≡ suc at = omega arith in
      let test = ap (stands_by head n) here ∙ entry_at p in
      ap (λ b. cond b (label at ∷ passing f (at + 1) (length ps)) (passing f (at + 1) (length ps))) test
      ∙ ap (λ (ls : List Label). cond (is_at (head_key head) n (entry_key p)) (label at ∷ ls) ls) (rest ∙ ap (λ j. labels_from (head_key head) n j ps) next)

  pub by_key : (parsed : List (Option Parsed)) → by_head parsed head n ≡ labels_from (head_key head) n 0 parsed
  by_key parsed = passing_from (λ k. option_and_then (λ (o : Option Parsed). o) (slice_get parsed k)) 0 parsed
      (λ k. ap (λ j. option_and_then (λ (o : Option Parsed). o) (slice_get parsed j)) (let same : k + 0 ≡ k = omega arith in same))
