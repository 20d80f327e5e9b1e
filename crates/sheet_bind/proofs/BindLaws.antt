-- What is judged of a worksheet is its first fault, or that it has none and its steps with their trees.
use Rattle.std.specs.Prelude.{◌≡◌, ◌≤◌, ℕ, zero, suc, ◌⊎◌, ◌&&◌, not, Bool, true, false, List, [], ◌∷◌, length, fold, slice_get, unwrap_or, Option}
use Rattle.std.specs.Prelude.{Some, None, option_map, is_some, is_none, refl}
use Rattle.std.specs.List.{AllZip, list_all}
use Rattle.std.specs.Option.{option_map_or}
use Rattle.std.proofs.Common.{arith, lit≤, sym, ap, subst, ◌∙◌, inl, inr, cond}
use mathlib.Core.Path.{fun_ext}
use Rattle.mm_base.specs.declared.kinds.Kinds.{Kinds}
use Rattle.mm_model.specs.declared.frames.Frame.{Frame}
use Rattle.mm_model.specs.Faults.{Fault, fault, earlier}
use Rattle.mm_model.specs.Names.{Name, label_named}
use Rattle.mm_model.specs.Book.{Database}
use Rattle.mm_database.specs.Opened.{Opened}
use Rattle.sheet_text.specs.declared.sheet.Sheet.{Sheet}
use Rattle.sheet_text.specs.declared.sheet.SheetStep.{SheetStep}
use Rattle.sheet_text.specs.declared.sheet.PairLine.{PairLine}
use Rattle.sheet_text.specs.Layout.{steps}
use Rattle.solve_model.specs.declared.bound.BoundStep.{BoundStep}
use Rattle.solve_model.specs.BindFaults.{BindFaultAt, at_header, at_step, at_pairs, no_tree, two_trees, header_rules, step_rules, theorem_name, not_variable as not_variable_at}
use Rattle.solve_model.specs.Bound.{IsBoundStep}
use Rattle.sheet_bind.specs.declared.setting.Setting.{Setting}
use Rattle.sheet_bind.specs.Judging.{IsFirstOf, IsFirstWith, IsJudged, with_pair, start_of}
use Rattle.sheet_bind.specs.Rules.{header_tests, is_known_label, not_variable}
use Rattle.sheet_bind.specs.Shown.{PlaceFacts}
use Rattle.sheet_bind.specs.Tests.{HoldsIn, first_true}
use Rattle.sheet_bind.proofs.FirstLaws.{none_more, one_more, both_more, first_of, taken, is_self}
use Rattle.sheet_bind.proofs.TokenLaws.{kept, SaysConstants, variable_is}
use Rattle.sheet_bind.proofs.RuleLaws.{tested, rule_of, test_of, base, frame, place, here, StepAt}
use Rattle.sheet_bind.proofs.RunLaws.{Among, among_at, among_one, AreTaken, items_taken, none_before}

none_or_not : {X : Type 0} (o : Option X) → not (is_some o) ≡ is_none o
none_or_not None = refl
none_or_not (Some x) = refl

none_mapped : {X Y : Type 0} (f : X → Y) (o : Option X) → is_none (option_map f o) ≡ not (is_some o)
none_mapped f None = refl
none_mapped f (Some x) = refl

module _ (kinds : Kinds) (facts : PlaceFacts) (d : Opened) (s : Sheet)
    (says : SaysConstants kinds facts d (place kinds facts d s) (frame kinds facts d s))
    (within : place kinds facts d s ≤ length d.contents.entries) where
  abbrev db : Database
  db = base kinds facts d s

  abbrev x : Setting
  x = kept kinds facts d (place kinds facts d s) (frame kinds facts d s)

  -- ---- the header

  tests : Bool → Bool → List (ℕ × Bool)
  tests a b = (60, a) ∷ (61, b) ∷ (73, theorem_name s) ∷ []

  header_same : header_tests d.contents x s ≡ tested (λ (rule : Sheet → Bool). rule s) (header_rules db)
  unfolding tests
  header_same =
      ap (λ (n : Bool). tests (n && option_map_or (λ l. not (is_known_label d.contents l)) s.loc false) (n && is_known_label d.contents s.theorem))
      (none_mapped (λ (f : Frame). f.formula) (frame kinds facts d s))
      ∙ ap (λ (f : Name → Bool). tests (not (is_some (frame kinds facts d s)) && option_map_or f s.loc false) (not (is_some (frame kinds facts d s)) && is_known_label d.contents s.theorem))
      (fun_ext (λ l. none_or_not (label_named d.contents.labels l)))

  abbrev Header : ℕ → ℕ → Type 0
  Header l c = (l ≡ s.line) × HoldsIn (tested (λ (rule : Sheet → Bool). rule s) (header_rules db)) c

  header_first : IsFirstWith None Header (option_map (fault s.line) (first_true (header_tests d.contents x s)))
  header_first =
      subst (λ (ts : List (ℕ × Bool)). IsFirstWith None (λ l c. (l ≡ s.line) × HoldsIn ts c) (option_map (fault s.line) (first_true (header_tests d.contents x s)))) header_same
      (taken s.line None 0 (header_tests d.contents x s) (lit≤ tt, (lit≤ tt, (lit≤ tt, tt))))

  -- ---- the `$d` statements

  abbrev PairAt : PairLine → ℕ → ℕ → Type 0
  PairAt p l c = (l ≡ p.line) × (c ≡ 70) × (not_variable_at db s p ≡ true)

  abbrev InPairs : List PairLine → ℕ → ℕ → Type 0
  InPairs [] l c = ⊥
  InPairs (p ∷ ps) l c = PairAt p l c ⊎ InPairs ps l c

  pair_same : (p : PairLine) → not_variable d.contents x p ≡ not_variable_at db s p
  pair_same p = ap (λ (f : Name → Bool). not (list_all f p.names)) (variable_is kinds facts d (place kinds facts d s) (frame kinds facts d s) says within)

  pair_first : (a : Option Fault) (p : PairLine) → IsFirstWith a (PairAt p) (with_pair d.contents x a p)
  pair_first a p = by (not_variable d.contents x p) refl
    where
      by : (b : Bool) → not_variable d.contents x p ≡ b → IsFirstWith a (λ l c. (l ≡ p.line) × (c ≡ 70) × (not_variable_at db s p ≡ true)) (cond b (earlier a (Some (fault p.line 70))) a)
      by true e = one_more a (λ l c. (l ≡ p.line) × (c ≡ 70) × (not_variable_at db s p ≡ true)) (fault p.line 70) (refl, refl, sym (pair_same p) ∙ e) (λ l c h. is_self (fault p.line 70) l c h.0 h.1)
      by false e = none_more a (λ l c. (l ≡ p.line) × (c ≡ 70) × (not_variable_at db s p ≡ true)) (λ l c h. clash (sym (pair_same p) ∙ e) h.2)
        where
          clash : {b : Bool} → b ≡ false → b ≡ true → ⊥
          clash f t = let bad : true ≡ false = sym t ∙ f in cc

  pairs_first : (ps : List PairLine) (a : Option Fault) → IsFirstWith a (InPairs ps) (fold (with_pair d.contents x) a ps)
  pairs_first [] a = none_more a (λ l c. ⊥) (λ l c h. h)
  pairs_first (p ∷ ps) a =
      both_more (PairAt p) (InPairs ps) a (with_pair d.contents x a p) (fold (with_pair d.contents x) (with_pair d.contents x a p) ps)
      (pair_first a p) (pairs_first ps (with_pair d.contents x a p))

  pair_in : (ps : List PairLine) (i : ℕ) (p : PairLine) → slice_get ps i ≡ Some p → not_variable_at db s p ≡ true → InPairs ps p.line 70
  pair_in [] i p e h = absurd (cc)
  pair_in (q ∷ ps) zero p e h =
      let same : q ≡ p = ap (λ (o : Option PairLine). unwrap_or o q) e in
      inl (ap (λ (r : PairLine). r.line) (sym same), refl, subst (λ (r : PairLine). not_variable_at db s r ≡ true) (sym same) h)
  pair_in (q ∷ ps) (suc i) p e h = inr (pair_in ps i p e h)

  record OnePair (ps : List PairLine) (l c : ℕ) : Type 0 where
    pub index : ℕ
    pub pair : PairLine
    pub there : slice_get ps index ≡ Some pair
    pub line : l ≡ pair.line
    pub code : c ≡ 70
    pub test : not_variable_at db s pair ≡ true

  in_pair : (ps : List PairLine) (l c : ℕ) → InPairs ps l c → OnePair ps l c
  in_pair [] l c h = absurd h
  in_pair (p ∷ ps) l c (inl h) = record { index = 0; pair = p; there = refl; line = h.0; code = h.1; test = h.2 }
  in_pair (p ∷ ps) l c (inr h) = let r = in_pair ps l c h in record { index = suc r.index; pair = r.pair; there = r.there; line = r.line; code = r.code; test = r.test }

  -- ---- all of them

  abbrev All : ℕ → ℕ → Type 0
  All l c = (Header l c ⊎ Among kinds facts d s says within 0 (steps s) l c) ⊎ InPairs s.pairs l c

  moved : (l m c k : ℕ) → l ≡ m → c ≡ k → BindFaultAt db s m k → BindFaultAt db s l c
  moved l m c k e f h = subst (λ (n : ℕ). BindFaultAt db s n c) (sym e) (subst (λ (n : ℕ). BindFaultAt db s m n) (sym f) h)

  step_stands : (i : ℕ) (t : SheetStep) (l c : ℕ) → slice_get (steps s) i ≡ Some t → StepAt kinds facts d s i t l c → BindFaultAt db s l c
  step_stands i t l c e h = elim h.1 [
    | inl w ↦ let r = rule_of (λ (rule : ℕ → SheetStep → Bool). rule i t) (step_rules db s) w.0 c w.1 in moved l t.line c c h.0 refl (at_step w.0 i r.1 e r.2)
    | inr w ↦ elim w.1 [
      | inl f ↦ moved l t.line c 67 h.0 f.0 (no_tree i e w.0 f.1)
      | inr f ↦ moved l t.line c 68 h.0 f.0 (two_trees i e w.0 (record { one = f.1.one; other = f.1.other; one_parses = f.1.one_is; other_parses = f.1.other_is; differ = f.1.differ }))
    ]
  ]

  there : (l c : ℕ) → All l c → BindFaultAt db s l c
  there l c (inl (inl h)) = let r = rule_of (λ (rule : Sheet → Bool). rule s) (header_rules db) h.1.0 c h.1.1 in moved l s.line c c h.0 refl (at_header h.1.0 r.1 r.2)
  there l c (inl (inr h)) =
      let r = among_one kinds facts d s says within (steps s) 0 l c h in
      step_stands r.index r.step l c r.there (subst (λ (i : ℕ). StepAt kinds facts d s i r.step l c) (omega arith) r.stands)
  there l c (inr h) = let r = in_pair s.pairs l c h in moved l r.pair.line c 70 r.line r.code (at_pairs r.index r.there r.test)

  step_in : (i : ℕ) (t : SheetStep) (c : ℕ) → slice_get (steps s) i ≡ Some t → StepAt kinds facts d s i t t.line c → All t.line c
  step_in i t c e h = inl (inr (among_at kinds facts d s says within (steps s) 0 i i t t.line c e (omega arith) h))

  back : (l c : ℕ) → BindFaultAt db s l c → All l c
  back l c (at_header k {code = code} {rule = rule} e h) = inl (inl (refl, (k, test_of (λ (r : Sheet → Bool). r s) (header_rules db) k code rule e h)))
  back l c (at_step k i {code = code} {rule = rule} {t = t} e f h) = step_in i t code f (refl, inl (k, test_of (λ (r : ℕ → SheetStep → Bool). r i t) (step_rules db s) k code rule e h))
  back l c (at_pairs i {p = p} e h) = inr (pair_in s.pairs i p e h)
  back l c (no_tree i {t = t} e a h) = step_in i t 67 e (refl, inr (a, inl (refl, h)))
  back l c (two_trees i {t = t} e a h) = step_in i t 68 e (refl, inr (a, inr (refl, record { one = h.one; other = h.other; one_is = h.one_parses; other_is = h.other_parses; differ = h.differ })))

  module _ (first : Option Fault) (found : List BoundStep) (j : IsJudged (here kinds facts d s) s first found) where
    taken_in : AreTaken kinds facts d s says within 0 (steps s) (start_of (option_map (fault s.line) (first_true (header_tests d.contents x s)))) j.state
    taken_in =
        items_taken kinds facts d s says within s.items []
        (start_of (option_map (fault s.line) (first_true (header_tests d.contents x s)))) j.state refl
        (record { count = refl; labels = λ l. refl }) j.runs

    header_and_steps : IsFirstWith None (λ l c. Header l c ⊎ Among kinds facts d s says within 0 (steps s) l c) j.state.first
    header_and_steps =
        both_more Header (Among kinds facts d s says within 0 (steps s)) None
        (option_map (fault s.line) (first_true (header_tests d.contents x s))) j.state.first header_first taken_in.first

    all_first : IsFirstWith None All first
    unfolding All
    all_first =
        subst (IsFirstWith None (λ l c. (Header l c ⊎ Among kinds facts d s says within 0 (steps s) l c) ⊎ InPairs s.pairs l c)) (sym j.first_is)
        (both_more (λ l c. Header l c ⊎ Among kinds facts d s says within 0 (steps s) l c) (InPairs s.pairs) None j.state.first
        (fold (with_pair d.contents x) j.state.first s.pairs) header_and_steps (pairs_first s.pairs j.state.first))

    -- the first fault is the first of the definitions, or there is none
    pub first_fault : IsFirstOf (BindFaultAt db s) first
    first_fault = first_of All (BindFaultAt db s) first there back all_first

    -- where there is none, the steps are read
    pub steps_read : first ≡ None → AllZip (IsBoundStep db (place kinds facts d s)) (steps s) found
    steps_read none =
        let before = none_before j.state.first (InPairs s.pairs) (fold (with_pair d.contents x) j.state.first s.pairs) (pairs_first s.pairs j.state.first) (sym j.first_is ∙ none) in
        subst (AllZip (IsBoundStep db (place kinds facts d s)) (steps s)) (sym (j.steps_are ∙ taken_in.steps_are)) (taken_in.read before)
