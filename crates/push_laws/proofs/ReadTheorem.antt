-- The theorem of a sheet does not look at the numbers of lines.
use Rattle.std.specs.Prelude.{◌≡◌, ℕ, zero, suc, Bool, true, false, List, [], ◌∷◌, ◌++◌, length, map, drop, filter, filter_map, flat_map, find, Option, Some, refl}
use Rattle.std.specs.Option.{option_map_or}
use Rattle.std.proofs.Common.{sym, ap, ◌∙◌, cond}
use Rattle.mm_base.specs.declared.symbols.Pair.{Pair}
use Rattle.mm_model.specs.declared.frames.Hyp.{Hyp}
use Rattle.mm_model.specs.Book.{Database}
use Rattle.proof_model.specs.declared.theorem.Theorem.{Theorem}
use Rattle.proof_model.specs.Machine.{Formula}
use Rattle.sheet_text.specs.declared.sheet.Sheet.{Sheet}
use Rattle.sheet_text.specs.declared.sheet.SheetItem.{SheetItem}
use Rattle.sheet_text.specs.declared.sheet.SheetItem.TheVariants as item
use Rattle.sheet_text.specs.declared.sheet.SheetStep.{SheetStep}
use Rattle.sheet_text.specs.declared.sheet.PairLine.{PairLine}
use Rattle.sheet_text.specs.Layout.{steps, step_of_item}
use Rattle.sheet_text.specs.Reads.{unnumbered, unnumbered_item, unnumbered_pairs}
use Rattle.solve_model.specs.PairSets.{pair_set}
use Rattle.solve_model.specs.Binding.{place_of, given_hyps, is_qed, qed_formula, symbols_from, new_hyp, theorem_hyps, mandatory_of, given_pairs, theorem_of}

abbrev unlined : SheetStep → SheetStep
unlined t = record t { line = 0 }

steps_same : (items : List SheetItem) → filter_map step_of_item (map unnumbered_item items) ≡ map unlined (filter_map step_of_item items)
steps_same [] = refl
steps_same (item.Comment lines ∷ items) = steps_same items
steps_same (item.Step t ∷ items) = ap (λ ts. unlined t ∷ ts) (steps_same items)

hyps_same : (ts : List SheetStep) → filter (λ (t : SheetStep). t.hyp) (map unlined ts) ≡ map unlined (filter (λ (t : SheetStep). t.hyp) ts)
hyps_same [] = refl
hyps_same (x ∷ xs) = go x.hyp (hyps_same xs)
  where
    go : (b : Bool) → filter (λ (t : SheetStep). t.hyp) (map unlined xs) ≡ map unlined (filter (λ (t : SheetStep). t.hyp) xs)
        → cond b (unlined x ∷ filter (λ (t : SheetStep). t.hyp) (map unlined xs)) (filter (λ (t : SheetStep). t.hyp) (map unlined xs))
        ≡ map unlined (cond b (x ∷ filter (λ (t : SheetStep). t.hyp) xs) (filter (λ (t : SheetStep). t.hyp) xs))
    go true h = ap (λ ts. unlined x ∷ ts) h
    go false h = h

pairs_same : (f : PairLine → List Pair) → ((p : PairLine) → f (unnumbered_pairs p) ≡ f p) → (ps : List PairLine) → flat_map f (map unnumbered_pairs ps) ≡ flat_map f ps
pairs_same f e [] = refl
pairs_same f e (p ∷ ps) = ap (λ xs. xs ++ flat_map f (map unnumbered_pairs ps)) (e p) ∙ ap (λ xs. f p ++ xs) (pairs_same f e ps)

module _ (db : Database) where
  drop_same : (n : ℕ) (ts : List SheetStep) → map (new_hyp db) (drop n (map unlined ts)) ≡ map (new_hyp db) (drop n ts)
  drop_same zero [] = refl
  drop_same zero (x ∷ xs) = ap (λ hs. new_hyp db x ∷ hs) (drop_same zero xs)
  drop_same (suc n) [] = refl
  drop_same (suc n) (x ∷ xs) = drop_same n xs

  abbrev formula_in : Option SheetStep → Formula
  formula_in o = option_map_or (λ (t : SheetStep). symbols_from db t.formula) o []

  qed_same : (ts : List SheetStep) → formula_in (find is_qed (map unlined ts)) ≡ formula_in (find is_qed ts)
  qed_same [] = refl
  qed_same (x ∷ xs) = go (is_qed x) (qed_same xs)
    where
      go : (b : Bool) → formula_in (find is_qed (map unlined xs)) ≡ formula_in (find is_qed xs)
          → formula_in (cond b (Some (unlined x)) (find is_qed (map unlined xs))) ≡ formula_in (cond b (Some x) (find is_qed xs))
      go true h = refl
      go false h = h

  abbrev theorem_from : ℕ → Formula → List Hyp → List Pair → Theorem
  theorem_from at formula hyps pairs = record { at = at; formula = formula; hyps = hyps; mandatory = mandatory_of formula hyps; pairs = pairs }

  formula_read : (s : Sheet) → qed_formula db (unnumbered s) ≡ qed_formula db s
  formula_read s = ap (λ ts. formula_in (find is_qed ts)) (steps_same s.items) ∙ qed_same (steps s)

  hyps_read : (s : Sheet) → theorem_hyps db (unnumbered s) ≡ theorem_hyps db s
  hyps_read s =
      ap (λ ts. (db.active_at (place_of db s)).hyps ++ map (new_hyp db) (drop (length (given_hyps db s)) ts)) (ap (filter (λ (t : SheetStep). t.hyp)) (steps_same s.items) ∙ hyps_same (steps s))
      ∙ ap (λ hs. (db.active_at (place_of db s)).hyps ++ hs) (drop_same (length (given_hyps db s)) (filter (λ (t : SheetStep). t.hyp) (steps s)))

  pairs_read : (s : Sheet) → given_pairs db (unnumbered s) ≡ given_pairs db s
  pairs_read s = ap pair_set (pairs_same _ (λ p. refl) s.pairs)

  pub theorem_of-unnumbered : (s : Sheet) → theorem_of db (unnumbered s) ≡ theorem_of db s
  theorem_of-unnumbered s =
      ap (λ f. theorem_from (place_of db s) f (theorem_hyps db (unnumbered s)) (given_pairs db (unnumbered s))) (formula_read s)
      ∙ ap (λ hs. theorem_from (place_of db s) (qed_formula db s) hs (given_pairs db (unnumbered s))) (hyps_read s)
      ∙ ap (theorem_from (place_of db s) (qed_formula db s) (theorem_hyps db s)) (pairs_read s)

  pub theorem_same : (s t : Sheet) → unnumbered s ≡ unnumbered t → theorem_of db s ≡ theorem_of db t
  theorem_same s t e = sym (theorem_of-unnumbered s) ∙ ap (theorem_of db) e ∙ theorem_of-unnumbered t
