-- The theorem of a written worksheet is that of the definitions.
use Rattle.std.specs.Prelude.{◌≡◌, ℕ, zero, suc, Bool, true, false, List, [], ◌∷◌, drop, filter, filter_map, fold, length, map, unwrap_or, Option, Some, None, refl}
use Rattle.std.specs.List.{last_or}
use Rattle.std.specs.Option.{option_map_or}
use Rattle.std.proofs.Common.{sym, ap, ◌∙◌, cond}
use Rattle.mm_base.specs.declared.symbols.Pair.{Pair}
use Rattle.mm_model.specs.Book.{Database, symbol_name}
use Rattle.mm_model.specs.Names.{Name}
use Rattle.install_model.specs.declared.install.NewTheorem.{NewTheorem}
use Rattle.install_model.specs.Installed.{outer_hyps, new_theorem}
use Rattle.sheet_text.specs.declared.sheet.Sheet.{Sheet}
use Rattle.sheet_text.specs.declared.sheet.SheetStep.{SheetStep}
use Rattle.sheet_text.specs.Layout.{step_of_item}
use Rattle.written_model.specs.declared.options.Options.{Options}
use Rattle.written_model.specs.WrittenSteps.{WrittenStep, WrittenItem, comment, step, steps_in}
use Rattle.written_model.specs.Written.{Writing, formula_tokens, written_step, written_item, written_pair, written_pairs, written_sheet, written_proof}
use Rattle.sheet_theorem.specs.Parts.{pair_of, hyp_of, grown, put_item, put_formula, theorem_in}
use Rattle.sheet_theorem.proofs.ListLaws.{hyps_grown, formula_of, formula_is_last}

-- ---- a written worksheet

module _ (db : Database) where
  sheet_steps : (is : List WrittenItem) → filter_map step_of_item (map (written_item db) is) ≡ map (written_step db) (steps_in is)
  sheet_steps [] = refl
  sheet_steps (comment lines ∷ is) = sheet_steps is
  sheet_steps (step e ∷ is) = ap (λ ss. written_step db e ∷ ss) (sheet_steps is)

  abbrev hyps_in : List WrittenStep → List WrittenStep
  hyps_in es = filter (λ (e : WrittenStep). e.hyp) es

  one_kept : (e : WrittenStep) (ss : List SheetStep) (es : List WrittenStep) (b : Bool) → ss ≡ map (written_step db) es → cond b (written_step db e ∷ ss) ss ≡ map (written_step db) (cond b (e ∷ es) es)
  one_kept e ss es true h = ap (λ xs. written_step db e ∷ xs) h
  one_kept e ss es false h = h

  sheet_hyps : (es : List WrittenStep) → filter (λ (t : SheetStep). t.hyp) (map (written_step db) es) ≡ map (written_step db) (hyps_in es)
  sheet_hyps [] = refl
  sheet_hyps (e ∷ es) = one_kept e (filter (λ (t : SheetStep). t.hyp) (map (written_step db) es)) (hyps_in es) e.hyp (sheet_hyps es)

  abbrev named : WrittenStep → Name × List Name
  named e = (unwrap_or e.reference [], formula_tokens db e.tree)

  past : (n : ℕ) (es : List WrittenStep) → map hyp_of (drop n (map (written_step db) es)) ≡ map named (drop n es)
  past zero [] = refl
  past zero (e ∷ es) = ap (λ hs. named e ∷ hs) (past zero es)
  past (suc n) [] = refl
  past (suc n) (e ∷ es) = past n es

  abbrev pair_named : Pair → Name × Name
  pair_named p = (symbol_name db p.a, symbol_name db p.b)

  sheet_pairs : (ps : List Pair) → map pair_of (map (written_pair db) ps) ≡ map pair_named ps
  sheet_pairs [] = refl
  sheet_pairs (p ∷ ps) = ap (λ qs. pair_named p ∷ qs) (sheet_pairs ps)

  abbrev tokens_of : Option WrittenStep → List Name
  tokens_of o = option_map_or (λ (e : WrittenStep). formula_tokens db e.tree) o []

  last_tokens : (es : List WrittenStep) (e : WrittenStep) → formula_of (last_or (Some (written_step db e)) (map (written_step db) es)) ≡ tokens_of (last_or (Some e) es)
  last_tokens [] e = refl
  last_tokens (f ∷ es) e = last_tokens es f

  sheet_formula : (es : List WrittenStep) → formula_of (last_or None (map (written_step db) es)) ≡ tokens_of (last_or None es)
  sheet_formula [] = refl
  sheet_formula (e ∷ es) = last_tokens es e

  hyps_are : (is : List WrittenItem) (n : ℕ) → (fold put_item (grown n []) (map (written_item db) is)).hyps ≡ map named (drop n (hyps_in (steps_in is)))
  hyps_are is n =
      hyps_grown (map (written_item db) is) n
      ∙ ap (λ (ss : List SheetStep). map hyp_of (drop n (filter (λ (t : SheetStep). t.hyp) ss))) (sheet_steps is)
      ∙ ap (λ (ss : List SheetStep). map hyp_of (drop n ss)) (sheet_hyps (steps_in is))
      ∙ past n (hyps_in (steps_in is))

  formula_is : (is : List WrittenItem) → fold put_formula [] (map (written_item db) is) ≡ tokens_of (last_or None (steps_in is))
  formula_is is = formula_is_last (map (written_item db) is) None ∙ ap (λ (ss : List SheetStep). formula_of (last_or None ss)) (sheet_steps is) ∙ sheet_formula (steps_in is)

-- ---- its theorem

abbrev theorem_with : Name → List (Name × Name) → List (Name × List Name) → List Name → List ℕ → NewTheorem
theorem_with name pairs hyps formula proof = record { name = name; pairs = pairs; hyps = hyps; formula = formula; proof = proof }

module _ (db : Database) (options : Options) (w : Writing) where
  abbrev items : List WrittenItem
  items = w.items

  abbrev proof : List ℕ
  proof = unwrap_or (written_proof db options w) []

  written_theorem : theorem_in (outer_hyps db options w) (written_sheet db options w) (written_proof db options w) ≡ new_theorem db options w
  written_theorem =
      let n = outer_hyps db options w in
      let pairs = map (pair_named db) (written_pairs db options w) in
      let hyps = map (named db) (drop n (hyps_in db (steps_in items))) in
      ap (λ ps. theorem_with w.read.theorem ps (fold put_item (grown n []) (map (written_item db) items)).hyps (fold put_formula [] (map (written_item db) items)) proof)
      (sheet_pairs db (written_pairs db options w))
      ∙ ap (λ hs. theorem_with w.read.theorem pairs hs (fold put_formula [] (map (written_item db) items)) proof) (hyps_are db items n)
      ∙ ap (λ f. theorem_with w.read.theorem pairs hyps f proof) (formula_is db items)

  pub theorem_is : (outer : ℕ) (sheet : Sheet) (proof : Option (List ℕ)) → outer ≡ outer_hyps db options w → sheet ≡ written_sheet db options w → proof ≡ written_proof db options w
      → theorem_in outer sheet proof ≡ new_theorem db options w
  theorem_is outer sheet proof o s p =
      ap (λ n. theorem_in n sheet proof) o ∙ ap (λ x. theorem_in (outer_hyps db options w) x proof) s
      ∙ ap (λ q. theorem_in (outer_hyps db options w) (written_sheet db options w) q) p
      ∙ written_theorem
