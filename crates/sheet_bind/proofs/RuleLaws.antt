-- The rules of a step, by what is kept of the theorem's place and of the steps before it, are those of the definitions.
use Rattle.std.specs.Prelude.{◌≡◌, ◌≤◌, ℕ, zero, suc, ◌⊎◌, ◌&&◌, ◌||◌, not, Bool, true, false, List, [], ◌∷◌, length, map, take, filter, nat_lt}
use Rattle.std.specs.Prelude.{nat_le, slice_get, unwrap_or, Option, Some, None, option_map, is_some, is_none, refl}
use Rattle.std.specs.List.{list_all, list_any}
use Rattle.std.specs.Option.{option_map_or}
use Rattle.std.specs.Str.{bytes_eq}
use Rattle.std.proofs.Common.{sym, ap, subst, ◌∙◌, inl, inr}
use mathlib.Core.Path.{fun_ext}
use Rattle.mm_base.specs.declared.kinds.Kinds.{Kinds}
use Rattle.mm_model.specs.declared.frames.Frame.{Frame}
use Rattle.mm_model.specs.declared.frames.Hyp.{Hyp}
use Rattle.mm_model.specs.declared.rows.Leaf.{Leaf}
use Rattle.mm_model.specs.Names.{Name, contains}
use Rattle.mm_model.specs.Typed.{Parses}
use Rattle.mm_model.specs.Book.{Database, logic_code}
use Rattle.mm_database.specs.Opened.{Opened}
use Rattle.sheet_text.specs.declared.sheet.Sheet.{Sheet}
use Rattle.sheet_text.specs.declared.sheet.SheetStep.{SheetStep}
use Rattle.sheet_text.specs.Layout.{steps}
use Rattle.solve_model.specs.Binding.{place_of, given_hyps, hyps_before, has_label, is_qed, same_tokens}
use Rattle.solve_model.specs.BindFaults.{step_rules, asks_for_tree, is_blank, hyp_with_hyps, wants_formula, formula_long}
use Rattle.solve_model.specs.Formulas.{IsTreeOf, is_known}
use Rattle.sheet_bind.specs.declared.hyps.HypSteps.{HypSteps}
use Rattle.sheet_bind.specs.Judging.{Scene, scene, TreeFault, IsTreeIn, StepStands}
use Rattle.sheet_bind.specs.Rules.{step_tests, asks, is_known_label, is_hyp, not_provable}
use Rattle.sheet_bind.specs.Seen.{existing_in, are_known, names_in}
use Rattle.sheet_bind.specs.Shown.{PlaceFacts, shown}
use Rattle.sheet_bind.specs.Tests.{HoldsIn}
use Rattle.sheet_bind.proofs.TokenLaws.{kept, SaysConstants, known_is, expression_is}

-- ---- small ones

pub some_mapped : {X Y : Type 0} (f : X → Y) (o : Option X) → is_some (option_map f o) ≡ is_some o
some_mapped f None = refl
some_mapped f (Some x) = refl

none_mapped : {X Y : Type 0} (f : X → Y) (o : Option X) → is_none (option_map f o) ≡ not (is_some o)
none_mapped f None = refl
none_mapped f (Some x) = refl

mapped_or : {X Y Z : Type 0} (f : X → Y) (g : Y → Z) (o : Option X) (e : Z) → option_map_or g (option_map f o) e ≡ option_map_or (λ x. g (f x)) o e
mapped_or f g None e = refl
mapped_or f g (Some x) e = refl

not_not : (b : Bool) → not (not b) ≡ b
not_not true = refl
not_not false = refl

-- ---- rules as tests

module _ {R : Type 0} (f : R → Bool) where
  abbrev pub tested : List (ℕ × R) → List (ℕ × Bool)
  tested rules = map (λ (r : ℕ × R). let t : ℕ × Bool = (r.0, f r.1) in t) rules

  pub rule_of : (rules : List (ℕ × R)) (k c : ℕ) → slice_get (tested rules) k ≡ Some (c, true) → (r : R) × (slice_get rules k ≡ Some (c, r)) × (f r ≡ true)
  rule_of [] k c e = absurd (cc)
  rule_of (r ∷ rs) zero c e =
      let same : (r.0, f r.1) ≡ (c, true) = ap (λ (o : Option (ℕ × Bool)). unwrap_or o (r.0, f r.1)) e in
      (r.1, ap (λ (n : ℕ). let p : ℕ × R = (n, r.1) in Some p) (ap (λ (p : ℕ × Bool). p.0) same), ap (λ (p : ℕ × Bool). p.1) same)
  rule_of (r ∷ rs) (suc k) c e = rule_of rs k c e

  pub test_of : (rules : List (ℕ × R)) (k c : ℕ) (r : R) → slice_get rules k ≡ Some (c, r) → f r ≡ true → slice_get (tested rules) k ≡ Some (c, true)
  test_of [] k c r e h = absurd (cc)
  test_of (q ∷ rs) zero c r e h =
      let same : q ≡ (c, r) = ap (λ (o : Option (ℕ × R)). unwrap_or o q) e in
      ap (λ (p : ℕ × R). let t : ℕ × Bool = (p.0, f p.1) in Some t) same ∙ ap (λ (b : Bool). let t : ℕ × Bool = (c, b) in Some t) h
  test_of (q ∷ rs) (suc k) c r e h = test_of rs k c r e h

-- ---- what is noted of the steps before

abbrev pub has_hyp_label : List SheetStep → Name → Bool
has_hyp_label done l = list_any (λ (u : SheetStep). u.hyp && has_label u.reference l) done

pub record AreNoted (hyps : HypSteps) (done : List SheetStep) : Type 0 where
  pub count : hyps.count ≡ length (filter (λ (t : SheetStep). t.hyp) done)
  pub labels : (l : Name) → contains hyps.labels l ≡ has_hyp_label done l

module _ (kinds : Kinds) (facts : PlaceFacts) (d : Opened) (s : Sheet) where
  abbrev pub base : Database
  base = shown kinds facts d

  abbrev pub frame : Option Frame
  frame = existing_in d.contents s.theorem

  abbrev pub place : ℕ
  place = place_of base s

  abbrev pub here : Scene
  here = scene d kinds.provable s.theorem (kept kinds facts d place frame)

  -- a fault of the step of a number
  abbrev pub StepAt : ℕ → SheetStep → ℕ → ℕ → Type 0
  StepAt i t l c =
      (l ≡ t.line)
      × (HoldsIn (tested (λ (rule : ℕ → SheetStep → Bool). rule i t) (step_rules base s)) c
      ⊎ ((asks_for_tree base s t ≡ true) × TreeFault (IsTreeOf base place t.formula) c))

  module _ (says : SaysConstants kinds facts d place frame) (within : place ≤ length d.contents.entries) where
    pub asks_same : (t : SheetStep) → asks kinds.provable (are_known d.contents (kept kinds facts d place frame) t.formula) t ≡ asks_for_tree base s t
    asks_same t =
        ap (λ (b : Bool). not (is_blank t) && not (not_provable kinds.provable t) && b && not (formula_long t))
        (known_is kinds facts d place frame says within t.formula ∙ sym (not_not (list_all (is_known base place) t.formula)))

    abbrev tests : SheetStep → Bool → Bool → Bool → Bool → List (ℕ × Bool)
    tests t a b c e =
        (62, a) ∷ (63, b) ∷ (64, hyp_with_hyps t) ∷ (65, not_provable kinds.provable t) ∷ (66, c) ∷ (69, wants_formula t) ∷ (71, formula_long t) ∷ (72, e) ∷ []

    module _ (i : ℕ) (t : SheetStep) (hyps : HypSteps) (noted : AreNoted hyps (take i (steps s))) where
      given : List Hyp
      given = given_hyps base s

      differs : (n : ℕ) (o : Option Frame) → hyps.count ≡ n
          → ((t.hyp && option_map_or (λ h. not (is_hyp d.contents.symbols h t)) (slice_get given hyps.count) (is_some (option_map (λ (f : Frame). f.formula) o)))
          || (is_qed t
          && (nat_lt hyps.count (length given)
          || option_map_or (λ f. not (same_tokens t.formula (names_in d.contents.symbols f)))
          (option_map (λ (f : Frame). f.formula) o) false)))
          ≡ ((t.hyp && option_map_or (λ h. not (is_hyp d.contents.symbols h t)) (slice_get given n) (is_some o))
          || (is_qed t && (nat_lt n (length given) || option_map_or (λ (f : Frame). not (same_tokens t.formula (names_in d.contents.symbols f.formula))) o false)))
      differs n None e =
          ap (λ (m : ℕ). (t.hyp && option_map_or (λ h. not (is_hyp d.contents.symbols h t)) (slice_get given m) false)
          || (is_qed t && (nat_lt m (length given) || false))) e
      differs n (Some f) e = ap (λ (m : ℕ). (t.hyp && option_map_or (λ h. not (is_hyp d.contents.symbols h t)) (slice_get given m) true)
          || (is_qed t && (nat_lt m (length given) || not (same_tokens t.formula (names_in d.contents.symbols f.formula))))) e

      taken_label : (n : ℕ) (o : Option Frame) → hyps.count ≡ n
          → (is_none (option_map (λ (f : Frame). f.formula) o) && t.hyp && nat_le (length given) hyps.count
          && option_map_or (λ l. is_known_label d.contents l || bytes_eq l s.theorem) t.reference false)
          ≡ (not (is_some o) && t.hyp && nat_le (length given) n && option_map_or (λ l. is_known_label d.contents l || bytes_eq l s.theorem) t.reference false)
      taken_label n None e =
          ap (λ (m : ℕ). true && t.hyp && nat_le (length given) m
          && option_map_or (λ l. is_known_label d.contents l || bytes_eq l s.theorem) t.reference false) e
      taken_label n (Some f) e = refl

      twice_label : (t.hyp && option_map_or (contains hyps.labels) t.reference false) ≡ (t.hyp && option_map_or (has_hyp_label (take i (steps s))) t.reference false)
      twice_label = ap (λ (f : Name → Bool). t.hyp && option_map_or f t.reference false) (fun_ext noted.labels)

      four : (a p b q c r e v : Bool) → a ≡ p → b ≡ q → c ≡ r → e ≡ v → tests t a b c e ≡ tests t p q r v
      four a p b q c r e v ap_a ap_b ap_c ap_e =
          ap (λ (z : Bool). tests t z b c e) ap_a ∙ ap (λ (z : Bool). tests t p z c e) ap_b ∙ ap (λ (z : Bool). tests t p q z e) ap_c ∙ ap (λ (z : Bool). tests t p q r z) ap_e

      pub tests_same : step_tests d.contents kinds.provable s.theorem (kept kinds facts d place frame) hyps t
          ≡ tested (λ (rule : ℕ → SheetStep → Bool). rule i t) (step_rules base s)
      unfolding given
      tests_same =
          four _ _ _ _ _ _ _ _ (differs (hyps_before s i) frame noted.count) (taken_label (hyps_before s i) frame noted.count)
          (ap not (known_is kinds facts d place frame says within t.formula)) twice_label

      tree_there : (c : ℕ) → TreeFault (IsTreeIn here t) c → TreeFault (IsTreeOf base place t.formula) c
      tree_there c h = subst (λ (e : List Leaf). TreeFault (λ u. Parses d.rows place e (logic_code base) u) c) (expression_is kinds facts d place frame says within t.formula) h

      tree_back : (c : ℕ) → TreeFault (IsTreeOf base place t.formula) c → TreeFault (IsTreeIn here t) c
      tree_back c h =
          subst (λ (e : List Leaf). TreeFault (λ u. Parses d.rows place e (logic_code base) u) c)
          (sym (expression_is kinds facts d place frame says within t.formula)) h

      pub step_there : (l c : ℕ) → StepStands here hyps t l c → StepAt i t l c
      step_there l c h = (
        h.0,
        elim h.1 [
          | inl w ↦ inl (subst (λ (ts : List (ℕ × Bool)). HoldsIn ts c) tests_same w)
          | inr w ↦ inr (sym (asks_same t) ∙ w.0, tree_there c w.1)
        ],
      )

      pub step_back : (l c : ℕ) → StepAt i t l c → StepStands here hyps t l c
      step_back l c h = (
        h.0,
        elim h.1 [
          | inl w ↦ inl (subst (λ (ts : List (ℕ × Bool)). HoldsIn ts c) (sym tests_same) w)
          | inr w ↦ inr (asks_same t ∙ w.0, tree_back c w.1)
        ],
      )
