-- The written sheet binds, with the written trees.
use Rattle.std.specs.Prelude.{◌≡◌, ◌||◌, ℕ, suc, Bool, true, false, List, [], ◌∷◌, map, slice_get, Contains, Some, refl}
use Rattle.std.specs.List.{AllByRecursion, AllZip, list_all}
use Rattle.std.proofs.Common.{sym, ap, subst, ◌∙◌}
use Rattle.std.proofs.lemmas.Bool.{and_parts, both_ways}
use Rattle.std.proofs.lemmas.Slice.Eq.{bytes_eq-Decides}
use Rattle.mm_base.specs.declared.tree.Tree.{Tree}
use Rattle.mm_model.specs.declared.rows.Leaf.{Leaf}
use Rattle.mm_model.specs.Names.{Name}
use Rattle.mm_model.specs.Texts.{text}
use Rattle.mm_model.specs.Book.{Database}
use Rattle.sheet_text.specs.declared.sheet.Sheet.{Sheet}
use Rattle.sheet_text.specs.declared.sheet.SheetStep.{SheetStep}
use Rattle.sheet_text.specs.Layout.{steps}
use Rattle.sheet_text.specs.Spellable.{is_token}
use Rattle.solve_model.specs.Bound.{IsBoundStep, Binds}
use Rattle.solve_model.specs.BindFaults.{header_rules, step_rules, BindFaultAt, begins_with_token}
use Rattle.solve_model.specs.Binding.{place_of, is_qed}
use Rattle.solve_model.specs.Formulas.{leaf_of, is_known, IsTreeOf, IsTheTree, HasTwoTrees}
use Rattle.written_model.specs.declared.options.Options.{Options}
use Rattle.written_model.specs.WrittenSteps.{WrittenStep, trees}
use Rattle.written_model.specs.Written.{Writing, HasNoLateFault, LateFault, written_sheet, written_bound, written_step, bound_step, leaf_name, formula_tokens, IsTooLong, IsAmbiguous}
use Rattle.again_laws.proofs.Lists.{get_map, get_mapped, all_at, zip_right}
use Rattle.again_laws.proofs.PairsAgain.{pairs_again, pairs_sound}
use Rattle.again_laws.proofs.SecondSteps.{IsWrittenOf, IsNewOf, none_first, parses_again, the_tree_again}
use Rattle.again_laws.proofs.Setting.{Setting}
use Rattle.again_laws.proofs.StepRules.{steps_are, rules_fail, filled, provable, known}
use Rattle.again_laws.proofs.Uses.{written_steps}
use Rattle.again_laws.proofs.Woven.{Woven}

module _ (db : Database) (options : Options) (w : Writing) (numbers : List ℕ) (ds : List WrittenStep) (S : Setting db options w numbers ds)
    (woven : Woven (λ k s e. slice_get (steps w.read) k ≡ Some s → IsWrittenOf db options w numbers ds S k s e) (IsNewOf db options w numbers ds S) 0
    (steps w.read) (written_steps db options w numbers ds S))
    (rd : Binds db w.read w.bound) (inked : (k : ℕ) (s : SheetStep) → slice_get (steps w.read) k ≡ Some s → list_all is_token s.formula ≡ true)
    (back : (i : ℕ) (t : Tree) → slice_get (trees (written_steps db options w numbers ds S)) i ≡ Some t → (x : Leaf) → Contains (text db.rows t) x
    → leaf_of db w.bound.place (leaf_name db x) ≡ Some x)
    (qed_at : ℕ) (qed : SheetStep) (qed_there : slice_get (steps w.read) qed_at ≡ Some qed) (qed_is : is_qed qed ≡ true) (late : HasNoLateFault db options w) where
  abbrev es : List WrittenStep
  es = written_steps db options w numbers ds S

  abbrev ws : Sheet
  ws = written_sheet db options w

  -- ---- the provable typecode is known

  qed_filled : qed.formula ≡ [] → ⊥
  qed_filled = filled db options w numbers ds S woven rd inked qed_at qed qed_there (last qed.hyp (is_qed qed) qed_is)
    where
      last : (a b : Bool) → b ≡ true → (a || b) ≡ true
      last true b e = refl
      last false b e = e

  provable_known : is_known db w.bound.place db.provable ≡ true
  provable_known =
      by qed.formula qed_filled (provable db options w numbers ds S woven rd inked qed_at qed qed_there qed_filled) (known db options w numbers ds S woven rd inked qed_at qed qed_there)
    where
      by : (f : List Name) → (f ≡ [] → ⊥) → begins_with_token db.provable f ≡ true → list_all (is_known db w.bound.place) f ≡ true → is_known db w.bound.place db.provable ≡ true
      by [] full p k = absurd (full refl)
      by (t ∷ ts) full p k =
          let same : t ≡ db.provable = (bytes_eq-Decides t db.provable).0 p in
          subst (λ n. is_known db w.bound.place n ≡ true) same (and_parts (is_known db w.bound.place t) (list_all (is_known db w.bound.place) ts) k).0

  -- ---- no formula is too long, and none has two trees

  none_long : AllByRecursion (λ e. IsTooLong db options w e → ⊥) es
  none_long = none_first (IsTooLong db options w) es (λ e f. late 0 _ (LateFault.long e f))

  none_ambiguous : AllByRecursion (λ e. IsAmbiguous db options w e → ⊥) es
  none_ambiguous = none_first (IsAmbiguous db options w) es (λ e f. late 1 _ (LateFault.ambiguous e f))

  tree_of : (i : ℕ) (e : WrittenStep) → slice_get es i ≡ Some e → slice_get (trees es) i ≡ Some e.tree
  tree_of i e at = get_map (λ (x : WrittenStep). x.tree) es i e at

  the_tree : (i : ℕ) (e : WrittenStep) → slice_get es i ≡ Some e → IsTheTree db w.bound.place (formula_tokens db e.tree) e.tree
  the_tree i e at = the_tree_again db options w numbers ds S back i e.tree (tree_of i e at) (all_at (λ x. IsAmbiguous db options w x → ⊥) es i e none_ambiguous at)

  fails : AllByRecursion (λ p. (i : ℕ) (e : WrittenStep) → slice_get es i ≡ Some e → p.1 i (written_step db e) ≡ false) (step_rules db ws)
  fails = rules_fail db options w numbers ds S woven rd inked provable_known back (λ i e at. all_at (λ x. IsTooLong db options w x → ⊥) es i e none_long at)

  -- ---- no fault

  step_from : (i : ℕ) (t : SheetStep) → slice_get (steps ws) i ≡ Some t → (e : WrittenStep) × (slice_get es i ≡ Some e) × (written_step db e ≡ t)
  step_from i t at = get_mapped (written_step db) es i t (ap (λ xs. slice_get xs i) (sym (steps_are db options w numbers ds S woven rd inked)) ∙ at)

  abbrev SameHeader : ℕ × (Sheet → Bool) → ℕ × (Sheet → Bool) → Type 0
  SameHeader p q = (p.0 ≡ q.0) × (q.1 w.read ≡ p.1 ws)

  same_header : AllZip SameHeader (header_rules db) (header_rules db)
  same_header = ((refl, refl), ((refl, refl), ((refl, refl), tt)))

  header_sound : (k code : ℕ) (rule : Sheet → Bool) → slice_get (header_rules db) k ≡ Some (code, rule) → rule ws ≡ true → ⊥
  header_sound k code rule e h =
      let r = zip_right SameHeader (header_rules db) (header_rules db) same_header k (code, rule) e in
      rd.sound w.read.line r.0.0 (BindFaultAt.at_header k {code = r.0.0} {rule = r.0.1} r.1 (r.2.1 ∙ h))

  step_sound : (k i code : ℕ) (rule : ℕ → SheetStep → Bool) (t : SheetStep) → slice_get (step_rules db ws) k ≡ Some (code, rule) → slice_get (steps ws) i ≡ Some t → rule i t ≡ true → ⊥
  step_sound k i code rule t e at h =
      let s = step_from i t at in
      let off = all_at (λ p. (n : ℕ) (x : WrittenStep) → slice_get es n ≡ Some x → p.1 n (written_step db x) ≡ false) (step_rules db ws) k (code, rule) fails e i s.0 s.1 in
      both_ways (rule i t) (ap (rule i) (sym s.2) ∙ off) h

  clash : (b : Bool) → b ≡ false → b ≡ true → ⊥
  clash true e h = cc
  clash false e h = cc

  sound : (line code : ℕ) → BindFaultAt db ws line code → ⊥
  sound line code (BindFaultAt.at_header k {code = c} {rule = rule} e h) = header_sound k c rule e h
  sound line code (BindFaultAt.at_step k i {code = c} {rule = rule} {t = t} e at h) = step_sound k i c rule t e at h
  sound line code (BindFaultAt.at_pairs i {p = p} at h) = clash _ (pairs_sound db options w numbers ds S rd back i p at) h
  sound line code (BindFaultAt.no_tree i {t = t} at h n) =
      let s = step_from i t at in
      let parses = subst (λ p. IsTreeOf db p (formula_tokens db s.0.tree) s.0.tree) rd.place (parses_again db options w numbers ds S back i s.0.tree (tree_of i s.0 s.1)) in
      n s.0.tree (subst (λ (x : SheetStep). IsTreeOf db (place_of db w.read) x.formula s.0.tree) s.2 parses)
  sound line code (BindFaultAt.two_trees i {t = t} at h n) =
      let s = step_from i t at in
      all_at (λ x. IsAmbiguous db options w x → ⊥) es i s.0 none_ambiguous s.1
      (subst (λ p. HasTwoTrees db p (formula_tokens db s.0.tree)) (sym rd.place) (subst (λ (x : SheetStep). HasTwoTrees db (place_of db w.read) x.formula) (sym s.2) n))

  -- ---- the steps with their trees

  zip_steps : (xs : List WrittenStep) → ((i : ℕ) (e : WrittenStep) → slice_get xs i ≡ Some e → IsTheTree db w.bound.place (formula_tokens db e.tree) e.tree)
      → AllZip (IsBoundStep db (place_of db w.read)) (map (written_step db) xs) (map (bound_step db options w) xs)
  zip_steps [] h = tt
  zip_steps (e ∷ xs) h = (
    record { hyp = refl; name = refl; places = refl; reference = refl; tree = subst (λ p. IsTheTree db p (formula_tokens db e.tree) e.tree) rd.place (h 0 e refl) },
    zip_steps xs (λ i x at. h (suc i) x at),
  )

  pub second_binds : Binds db (written_sheet db options w) (written_bound db options w)
  second_binds = record {
    sound = sound;
    place = rd.place;
    existing = rd.existing;
    steps = subst (λ xs. AllZip (IsBoundStep db (place_of db w.read)) xs (map (bound_step db options w) es)) (sym (steps_are db options w numbers ds S woven rd inked)) (zip_steps es the_tree);
    pairs = pairs_again db options w numbers ds S rd back;
    theorem = refl;
  }
