-- The turns of the search over the places at which a part of a text is divided.
use Rattle.std.specs.Prelude.{◌≡◌, ◌<◌, ◌≤◌, ◌+◌, ◌-◌, ℕ, zero, suc, List, length, take, drop}
use Rattle.std.proofs.Common.{arith, sym, ap, ◌∙◌, subst}
use Rattle.mm_base.specs.declared.symbols.Typecode.{Typecode}
use Rattle.mm_base.specs.declared.tree.Tree.{Tree}
use Rattle.mm_model.specs.declared.rows.Item.{Item}
use Rattle.mm_model.specs.declared.rows.Leaf.{Leaf}
use Rattle.mm_model.specs.declared.rows.Production.{Production}
use Rattle.mm_model.specs.Typed.{Parses}
use Rattle.mm_model.specs.Rows.{AreRows}
use Rattle.formula_parse.specs.declared.found.Found.{Found}
use Rattle.formula_parse.specs.declared.found.Found.TheVariants.{Nothing}
use Rattle.formula_parse.specs.declared.reach.Entry.{Entry}
use Rattle.formula_parse.specs.Finds.{Finds, joined, paired}
use Rattle.formula_parse.specs.Fits.{Fits, IsDivided, IsDividedBelow}
use Rattle.formula_parse.specs.Charts.{span, IsEntry, Reaches, IsChart}
use Rattle.formula_parse.proofs.Divisions.{place_begin, place_skip, place_skip_rest, place_skip_both, place_end, place_found}
use Rattle.formula_parse.proofs.Reaching.{parses_entry, fits_reaches}
use Rattle.formula_parse.proofs.Spans.{span_length, span_take, span_drop}

module _ (rows : List Production) (before : ℕ) (ok : AreRows rows) (leaves : List Leaf) (chart : List (List Entry)) (full : IsChart rows before leaves 0 chart)
    (slots : List Typecode) (items : List Item) (code : Typecode) (b e : ℕ) (l : b ≤ e) (m : e ≤ length leaves) where
  abbrev Below : ℕ → List Tree → Type 0
  Below = IsDividedBelow rows before slots items code (span leaves b e)

  front : (k : ℕ) → b + k + 1 ≤ e → take (k + 1) (span leaves b e) ≡ span leaves b (b + k + 1)
  front k i = span_take leaves b e (k + 1) (omega arith) ∙ ap (span leaves b) (let same : b + (k + 1) ≡ b + k + 1 = omega arith in same)

  back : (k : ℕ) → b + k + 1 ≤ e → drop (k + 1) (span leaves b e) ≡ span leaves (b + k + 1) e
  back k i = span_drop leaves b e (k + 1) (omega arith) ∙ ap (λ q. span leaves q e) (let same : b + (k + 1) ≡ b + k + 1 = omega arith in same)

  -- the chart has no such front
  pub part_skip : (k : ℕ) → b + k + 1 ≤ e → ((IsEntry chart b (b + k + 1) code) → ⊥) → (a : Found (List Tree)) → Finds (Below k) a → Finds (Below (k + 1)) a
  part_skip k i none a h = place_skip rows before ok slots items code (span leaves b e) k
      (λ t p. none (parses_entry rows before ok leaves chart 0 full b (b + k + 1) code t (omega arith) (omega arith) (omega arith)
      (subst (λ xs. Parses rows before xs code t) (front k i) p))) a h

  -- the chart does not lead on from there
  pub part_skip_rest : (k : ℕ) → b + k + 1 ≤ e → (Reaches leaves chart slots items (b + k + 1) e → ⊥) → (a : Found (List Tree)) → Finds (Below k) a → Finds (Below (k + 1)) a
  part_skip_rest k i none a h = place_skip_rest rows before ok slots items code (span leaves b e) k
      (λ us f. none (fits_reaches rows before ok leaves chart 0 full slots items (b + k + 1) e us (omega arith) i m
      (subst (λ xs. Fits rows before slots items xs us) (back k i) f))) a h

  -- the chart has no such front from which it leads on
  pub part_skip_both : (k : ℕ) → b + k + 1 ≤ e → (IsEntry chart b (b + k + 1) code → Reaches leaves chart slots items (b + k + 1) e → ⊥)
      → (a : Found (List Tree)) → Finds (Below k) a → Finds (Below (k + 1)) a
  part_skip_both k i none a h = place_skip_both rows before ok slots items code (span leaves b e) k
      (λ t us p f. none
      (parses_entry rows before ok leaves chart 0 full b (b + k + 1) code t (omega arith) (omega arith) (omega arith) (subst (λ xs. Parses rows before xs code t) (front k i) p))
      (fits_reaches rows before ok leaves chart 0 full slots items (b + k + 1) e us (omega arith) i m (subst (λ xs. Fits rows before slots items xs us) (back k i) f))) a h

  pub part_found : (k : ℕ) → b + k + 1 ≤ e → (a : Found (List Tree)) (f : Found Tree) (g more result : Found (List Tree)) → Finds (Below k) a
      → Finds (Parses rows before (span leaves b (b + k + 1)) code) f
      → Finds (Fits rows before slots items (span leaves (b + k + 1) e)) g → more ≡ paired f g → result ≡ joined a more → Finds (Below (k + 1)) result
  part_found k i a f g more result h p q is was =
      place_found rows before ok slots items code (span leaves b e) k (omega (arith, span_length leaves b e l m)) (span leaves (b + k + 1) e) (sym (back k i)) a f g more result h
      (subst (λ xs. Finds (Parses rows before xs code) f) (sym (front k i)) p) q is was

  pub part_end : (k : ℕ) → e ≤ b + k + length items → (a : Found (List Tree)) → Finds (Below k) a → Finds (IsDivided rows before slots items code (span leaves b e)) a
  part_end k i a h = place_end rows before ok slots items code (span leaves b e) k (omega (arith, span_length leaves b e l m)) a h

  -- more places, of each of which not both hold
  part_skip_more : (d k : ℕ) → ((j : ℕ) → k ≤ j → j < k + d → b + j + 1 ≤ e)
      → ((j : ℕ) → k ≤ j → j < k + d → IsEntry chart b (b + j + 1) code → Reaches leaves chart slots items (b + j + 1) e → ⊥)
      → (a : Found (List Tree)) → Finds (Below k) a → Finds (Below (k + d)) a
  part_skip_more zero k i none a h = subst (λ n. Finds (Below n) a) (let same : k ≡ k + 0 = omega arith in same) h
  part_skip_more (suc d) k i none a h =
      let more = part_skip_both k (i k (omega arith) (omega arith)) (none k (omega arith) (omega arith)) a h in
      subst (λ n. Finds (Below n) a) (let same : k + 1 + d ≡ k + suc d = omega arith in same)
      (part_skip_more d (k + 1) (λ j p q. i j (omega arith) (omega arith)) (λ j p q. none j (omega arith) (omega arith)) a more)

  -- up to the first place of which both hold
  pub part_first : (k : ℕ) → b + k ≤ e → ((j : ℕ) → j < k → IsEntry chart b (b + j + 1) code → Reaches leaves chart slots items (b + j + 1) e → ⊥) → Finds (Below k) Nothing
  part_first k i none = subst (λ n. Finds (Below n) Nothing) (let same : 0 + k ≡ k = omega arith in same)
      (part_skip_more k 0 (λ j p q. omega arith) (λ j p q. none j (omega arith)) Nothing (place_begin rows before ok slots items code (span leaves b e)))

  -- behind the last place of which both hold
  pub part_last : (k most : ℕ) → b + most ≤ e → e ≤ b + most + length items
      → ((j : ℕ) → k ≤ j → j < most → IsEntry chart b (b + j + 1) code → Reaches leaves chart slots items (b + j + 1) e → ⊥)
      → (a : Found (List Tree)) → Finds (Below k) a → Finds (IsDivided rows before slots items code (span leaves b e)) a
  part_last k most i last none a h = part_end (k + (most - k)) (omega arith) a
      (part_skip_more (most - k) k (λ j p q. omega arith) (λ j p q. none j p (omega arith)) a h)
