-- Each worksheet is bound, or has a first fault over the database.
use Rattle.std.specs.Prelude.{◌≡◌, ◌⊎◌, ◌==◌, ◌&&◌, not, ℕ, suc, Bool, true, false, List, [], ◌∷◌, length, slice_get, Option, Some, None, is_some, refl}
use Rattle.std.specs.List.{AllZip}
use Rattle.std.proofs.Common.{sym, subst, arith, inl, inr}
use Rattle.std.proofs.lemmas.Bool.{cases_Bool, eqb-true}
use Rattle.mm_base.specs.declared.tree.Tree.{Tree}
use Rattle.mm_model.specs.Rows.{IsGrammar}
use Rattle.mm_model.specs.Faults.{Fault}
use Rattle.mm_model.specs.Names.{Name}
use Rattle.mm_model.specs.Book.{Database}
use Rattle.sheet_text.specs.declared.sheet.Sheet.{Sheet}
use Rattle.sheet_text.specs.declared.sheet.SheetStep.{SheetStep}
use Rattle.sheet_text.specs.Layout.{steps}
use Rattle.solve_model.specs.declared.bound.Bound.{Bound}
use Rattle.solve_model.specs.declared.bound.BoundStep.{BoundStep}
use Rattle.solve_model.specs.Formulas.{IsTheTree, HasNoTree, HasTwoTrees}
use Rattle.solve_model.specs.Binding.{existing, place_of, given_pairs, theorem_of}
use Rattle.solve_model.specs.BindFaults.{header_rules, step_rules, not_variable, is_blank, not_provable, unknown_symbol, formula_long, asks_for_tree, BindFaultAt, IsBindFault}
use Rattle.solve_model.specs.Bound.{HasTree, IsBoundStep, Binds}
use Rattle.writing_laws.specs.Decisions.{Decided}
use Rattle.writing_laws.proofs.Decide.{both_decided, bool_decided}
use Rattle.writing_laws.proofs.Listing.{Listed, none_or_first, listed_with, both_listed, one_listed, OfElement, all_listed}
use Rattle.writing_laws.proofs.TreesTold.{trees_told, two_decided}

module _ (db : Database) (grammar : IsGrammar db.rows) (s : Sheet) where
  abbrev At : Type 0 → ℕ → ℕ → ℕ → ℕ → Type 0
  At A line code l c = A × ((l ≡ line) × (c ≡ code))

  abbrev Header : ℕ → ℕ → Type 0
  Header = OfElement (header_rules db) (λ k r. At (r.1 s ≡ true) s.line r.0)

  abbrev Step : ℕ → ℕ → Type 0
  Step = OfElement (steps s) (λ i t. OfElement (step_rules db s) (λ k r. At (r.1 i t ≡ true) t.line r.0))

  abbrev Pairs : ℕ → ℕ → Type 0
  Pairs = OfElement s.pairs (λ i p. At (not_variable db s p ≡ true) p.line 70)

  abbrev NoTree : ℕ → ℕ → Type 0
  NoTree = OfElement (steps s) (λ i t. At ((asks_for_tree db s t ≡ true) × HasNoTree db (place_of db s) t.formula) t.line 67)

  abbrev TwoTrees : ℕ → ℕ → Type 0
  TwoTrees = OfElement (steps s) (λ i t. At ((asks_for_tree db s t ≡ true) × HasTwoTrees db (place_of db s) t.formula) t.line 68)

  no_tree_decided : (tokens : List Name) → Decided (HasNoTree db (place_of db s) tokens)
  no_tree_decided tokens = by (trees_told db grammar (place_of db s) tokens)
    where
      by : HasNoTree db (place_of db s) tokens ⊎ (((t : Tree) × IsTheTree db (place_of db s) tokens t) ⊎ HasTwoTrees db (place_of db s) tokens) → Decided (HasNoTree db (place_of db s) tokens)
      by (inl none) = inl none
      by (inr (inl one)) = inr (λ h. h one.0 one.1.parses)
      by (inr (inr two)) = inr (λ h. h two.one two.one_parses)

  headers : Listed Header
  headers = all_listed (header_rules db) (λ k r. At (r.1 s ≡ true) s.line r.0) (λ k r. one_listed (r.1 s ≡ true) s.line r.0 (bool_decided (r.1 s)))

  all_steps : Listed Step
  all_steps =
      all_listed (steps s) (λ i t. OfElement (step_rules db s) (λ k r. At (r.1 i t ≡ true) t.line r.0))
      (λ i t. all_listed (step_rules db s) (λ k r. At (r.1 i t ≡ true) t.line r.0) (λ k r. one_listed (r.1 i t ≡ true) t.line r.0 (bool_decided (r.1 i t))))

  all_pairs : Listed Pairs
  all_pairs = all_listed s.pairs (λ i p. At (not_variable db s p ≡ true) p.line 70) (λ i p. one_listed (not_variable db s p ≡ true) p.line 70 (bool_decided (not_variable db s p)))

  without_tree : Listed NoTree
  without_tree =
      all_listed (steps s) (λ i t. At ((asks_for_tree db s t ≡ true) × HasNoTree db (place_of db s) t.formula) t.line 67)
      (λ i t. one_listed ((asks_for_tree db s t ≡ true) × HasNoTree db (place_of db s) t.formula) t.line 67 (both_decided (bool_decided (asks_for_tree db s t)) (no_tree_decided t.formula)))

  with_two : Listed TwoTrees
  with_two =
      all_listed (steps s) (λ i t. At ((asks_for_tree db s t ≡ true) × HasTwoTrees db (place_of db s) t.formula) t.line 68)
      (λ i t. one_listed ((asks_for_tree db s t ≡ true) × HasTwoTrees db (place_of db s) t.formula) t.line 68
      (both_decided (bool_decided (asks_for_tree db s t)) (two_decided db grammar (place_of db s) t.formula)))

  abbrev Any : ℕ → ℕ → Type 0
  Any l c = Header l c ⊎ (Step l c ⊎ (Pairs l c ⊎ (NoTree l c ⊎ TwoTrees l c)))

  moved : (l c line code : ℕ) → l ≡ line → c ≡ code → BindFaultAt db s line code → BindFaultAt db s l c
  moved l c line code e f h = subst (λ n. BindFaultAt db s n c) (sym e) (subst (λ n. BindFaultAt db s line n) (sym f) h)

  there : (l c : ℕ) → Any l c → BindFaultAt db s l c
  there l c (inl h) = moved l c s.line h.1.0 h.3.1.0 h.3.1.1 (BindFaultAt.at_header h.0 {code = h.1.0} {rule = h.1.1} h.2 h.3.0)
  there l c (inr (inl h)) = moved l c h.1.line h.3.1.0 h.3.3.1.0 h.3.3.1.1 (BindFaultAt.at_step h.3.0 h.0 {code = h.3.1.0} {rule = h.3.1.1} {t = h.1} h.3.2 h.2 h.3.3.0)
  there l c (inr (inr (inl h))) = moved l c h.1.line 70 h.3.1.0 h.3.1.1 (BindFaultAt.at_pairs h.0 {p = h.1} h.2 h.3.0)
  there l c (inr (inr (inr (inl h)))) = moved l c h.1.line 67 h.3.1.0 h.3.1.1 (BindFaultAt.no_tree h.0 {t = h.1} h.2 h.3.0.0 h.3.0.1)
  there l c (inr (inr (inr (inr h)))) = moved l c h.1.line 68 h.3.1.0 h.3.1.1 (BindFaultAt.two_trees h.0 {t = h.1} h.2 h.3.0.0 h.3.0.1)

  back : (l c : ℕ) → BindFaultAt db s l c → Any l c
  back l c (BindFaultAt.at_header k {code = code} {rule = rule} e h) = inl (k, (code, rule), e, (h, (refl, refl)))
  back l c (BindFaultAt.at_step k i {code = code} {rule = rule} {t = t} e f h) = inr (inl (i, t, f, (k, (code, rule), e, (h, (refl, refl)))))
  back l c (BindFaultAt.at_pairs i {p = p} e h) = inr (inr (inl (i, p, e, (h, (refl, refl)))))
  back l c (BindFaultAt.no_tree i {t = t} e h n) = inr (inr (inr (inl (i, t, e, ((h, n), (refl, refl))))))
  back l c (BindFaultAt.two_trees i {t = t} e h n) = inr (inr (inr (inr (i, t, e, ((h, n), (refl, refl))))))

  all_faults : Listed (BindFaultAt db s)
  all_faults =
      listed_with Any (BindFaultAt db s) there back
      (both_listed Header (λ l c. Step l c ⊎ (Pairs l c ⊎ (NoTree l c ⊎ TwoTrees l c))) headers
      (both_listed Step (λ l c. Pairs l c ⊎ (NoTree l c ⊎ TwoTrees l c)) all_steps
      (both_listed Pairs (λ l c. NoTree l c ⊎ TwoTrees l c) all_pairs (both_listed NoTree TwoTrees without_tree with_two))))

  -- ---- without a fault each formula that is not blank has its one tree

  module _ (sound : (line code : ℕ) → BindFaultAt db s line code → ⊥) where
    rule_fails : (k i : ℕ) (code : ℕ) (rule : ℕ → SheetStep → Bool) (t : SheetStep) → slice_get (step_rules db s) k ≡ Some (code, rule) → slice_get (steps s) i ≡ Some t → rule i t ≡ false
    rule_fails k i code rule t e f = elim (cases_Bool (rule i t)) [ inl h ↦ absurd (sound t.line code (BindFaultAt.at_step k i {code = code} {rule = rule} {t = t} e f h)) | inr h ↦ h ]

    asks : (i : ℕ) (t : SheetStep) → slice_get (steps s) i ≡ Some t → is_blank t ≡ false → asks_for_tree db s t ≡ true
    asks i t f b =
        all_false (is_blank t) (not_provable db t) (unknown_symbol db s t) (formula_long t) b
        (rule_fails 3 i 65 (λ j u. not_provable db u) t refl f) (rule_fails 4 i 66 (λ j u. unknown_symbol db s u) t refl f) (rule_fails 6 i 71 (λ j u. formula_long u) t refl f)
      where
        all_false : (a b c d : Bool) → a ≡ false → b ≡ false → c ≡ false → d ≡ false → (not a && not b && not c && not d) ≡ true
        all_false a b c d e f g h = rw (e, f, g, h) refl

    abbrev HasOne : SheetStep → Type 0
    HasOne t = (o : Option Tree) × HasTree db (place_of db s) t.formula o

    no_tokens : (ts : List Name) → (length ts == 0) ≡ true → ts ≡ []
    no_tokens [] e = refl
    no_tokens (t ∷ ts) e = let bad = eqb-true (suc (length ts)) 0 e in absurd (omega (arith, bad))

    tree_of : (i : ℕ) (t : SheetStep) → slice_get (steps s) i ≡ Some t → HasOne t
    tree_of i t f = elim (cases_Bool (is_blank t)) [
      | inl b ↦ (None, no_tokens t.formula b)
      | inr b ↦ by (asks i t f b) (trees_told db grammar (place_of db s) t.formula)
    ]
      where
        by : asks_for_tree db s t ≡ true → HasNoTree db (place_of db s) t.formula ⊎ (((u : Tree) × IsTheTree db (place_of db s) t.formula u) ⊎ HasTwoTrees db (place_of db s) t.formula) → HasOne t
        by a (inl none) = absurd (sound t.line 67 (BindFaultAt.no_tree i {t = t} f a none))
        by a (inr (inl one)) = (Some one.0, one.1)
        by a (inr (inr two)) = absurd (sound t.line 68 (BindFaultAt.two_trees i {t = t} f a two))

    bound_all : (ts : List SheetStep) → ((i : ℕ) (t : SheetStep) → slice_get ts i ≡ Some t → HasOne t) → (bs : List BoundStep) × AllZip (IsBoundStep db (place_of db s)) ts bs
    bound_all [] h = ([], tt)
    bound_all (t ∷ ts) h =
        let one = h 0 t refl in
        let rest = bound_all ts (λ i u e. h (suc i) u e) in (
          record { line = t.line; hyp = t.hyp; name = t.name; places = t.places; reference = t.reference; tree = one.0 } ∷ rest.0,
          (record { hyp = refl; name = refl; places = refl; reference = refl; tree = one.1 }, rest.1),
        )

    bound_is : (bound : Bound) × Binds db s bound
    bound_is =
        let bs = bound_all (steps s) tree_of in (
          record { place = place_of db s; existing = is_some (existing db s); steps = bs.0; pairs = given_pairs db s; theorem = theorem_of db s },
          record { sound = sound; place = refl; existing = refl; steps = bs.1; pairs = refl; theorem = refl },
        )

  pub bound_or_fault : ((f : Fault) × IsBindFault db s f) ⊎ ((bound : Bound) × Binds db s bound)
  bound_or_fault = elim (none_or_first (BindFaultAt db s) all_faults) [ inl f ↦ inl f | inr none ↦ inr (bound_is none) ]
