-- The items of a worksheet taken in one by one are its steps, and what is taken in is the first of their faults.
use Rattle.std.specs.Prelude.{◌≡◌, ◌≤◌, ◌+◌, ℕ, zero, suc, ◌⊎◌, ◌&&◌, ◌||◌, ◌==◌, not, Bool, true, false, List, [], ◌∷◌, ◌++◌, length, take, filter}
use Rattle.std.specs.Prelude.{filter_map, slice_get, unwrap_or, Option, Some, None, refl}
use Rattle.std.specs.List.{AllZip}
use Rattle.std.specs.Str.{bytes_eq}
use Rattle.std.proofs.Common.{arith, sym, ap, subst, ◌∙◌, inl, inr, cond, append-nil, append_assoc}
use Rattle.std.proofs.lemmas.Bool.{cases_Bool}
use Rattle.std.proofs.lemmas.Bool.Decides.{nat_tests}
use Rattle.std.proofs.lemmas.List.{take_at, length-append}
use Rattle.std.proofs.lemmas.List.Elements.{filter-append}
use Rattle.std.proofs.lemmas.List.Folds.{list_any-append}
use Rattle.std.proofs.lemmas.Slice.Eq.{bytes_eq-Decides}
use Rattle.mm_base.specs.declared.kinds.Kinds.{Kinds}
use Rattle.mm_base.specs.declared.tree.Tree.{Tree}
use Rattle.mm_model.specs.declared.rows.Leaf.{Leaf}
use Rattle.mm_model.specs.Faults.{Fault}
use Rattle.mm_model.specs.Names.{Name, contains}
use Rattle.mm_model.specs.Book.{logic_code}
use Rattle.mm_model.specs.Typed.{Parses}
use Rattle.mm_database.specs.Opened.{Opened}
use Rattle.sheet_text.specs.declared.sheet.Sheet.{Sheet}
use Rattle.sheet_text.specs.declared.sheet.SheetItem.{SheetItem}
use Rattle.sheet_text.specs.declared.sheet.SheetItem.TheVariants as item
use Rattle.sheet_text.specs.declared.sheet.SheetStep.{SheetStep}
use Rattle.sheet_text.specs.Layout.{steps, step_of_item}
use Rattle.solve_model.specs.declared.bound.BoundStep.{BoundStep}
use Rattle.solve_model.specs.Binding.{has_label}
use Rattle.solve_model.specs.BindFaults.{is_blank, formula_long}
use Rattle.solve_model.specs.Bound.{IsBoundStep, HasTree}
use Rattle.sheet_bind.specs.declared.hyps.HypSteps.{HypSteps}
use Rattle.sheet_bind.specs.Judging.{IsFirstWith, State, StepStands, IsStepAdded, Runs, HasTreeIn, bound_of}
use Rattle.sheet_bind.specs.Rules.{noted, with_label, not_provable}
use Rattle.sheet_bind.specs.Seen.{are_known}
use Rattle.sheet_bind.specs.Shown.{PlaceFacts}
use Rattle.sheet_bind.proofs.FirstLaws.{none_more, both_more, same_more}
use Rattle.sheet_bind.proofs.TokenLaws.{kept, SaysConstants, expression_is}
use Rattle.sheet_bind.proofs.RuleLaws.{AreNoted, has_hyp_label, base, frame, place, here, StepAt, step_there, step_back}

-- ---- what is noted

no_true : (b : Bool) → (b ≡ true → ⊥) → b ≡ false
no_true true h = absurd (h refl)
no_true false h = refl

or_false : (a : Bool) → (a || false) ≡ a
or_false true = refl
or_false false = refl

label_there : (labels : List Name) (r l : Name) → contains labels r ≡ true → contains labels l ≡ (contains labels l || bytes_eq r l)
label_there labels r l h = elim (cases_Bool (bytes_eq r l)) [
  | inl e ↦
      let same : r ≡ l = (bytes_eq-Decides r l).0 e in
      let there : contains labels l ≡ true = subst (λ (n : Name). contains labels n ≡ true) same h in
      there ∙ sym (ap (λ (b : Bool). b || bytes_eq r l) there)
  | inr e ↦ sym (ap (λ (b : Bool). contains labels l || b) e ∙ or_false (contains labels l))
]

turned : (a b : List ℕ) → bytes_eq a b ≡ bytes_eq b a
turned a b = both (bytes_eq a b) (bytes_eq b a) (λ e. (bytes_eq-Decides b a).1 (sym ((bytes_eq-Decides a b).0 e))) (λ e. (bytes_eq-Decides a b).1 (sym ((bytes_eq-Decides b a).0 e)))
  where
    both : (a b : Bool) → (a ≡ true → b ≡ true) → (b ≡ true → a ≡ true) → a ≡ b
    both true b f g = sym (f refl)
    both false true f g = g refl
    both false false f g = refl

label_more : (labels : List Name) (o : Option Name) (l : Name) → contains (with_label labels o) l ≡ (contains labels l || has_label o l)
label_more labels None l = sym (or_false (contains labels l))
label_more labels (Some r) l = elim (cases_Bool (contains labels r)) [
  | inl e ↦ rw e (label_there labels r l e)
  | inr e ↦ rw e (list_any-append (bytes_eq l) labels (r ∷ []) ∙ ap (λ (b : Bool). contains labels l || b) (or_false (bytes_eq l r) ∙ turned l r))
]

one_counted : (b : Bool) (t : SheetStep) → t.hyp ≡ b → length (filter (λ (u : SheetStep). u.hyp) (t ∷ [])) ≡ cond b 1 0
one_counted true t e = rw e refl
one_counted false t e = rw e refl

module _ (hyps : HypSteps) (done : List SheetStep) (t : SheetStep) (h : AreNoted hyps done) where
  count_more : (b : Bool) → t.hyp ≡ b → length (filter (λ (u : SheetStep). u.hyp) (done ++ t ∷ [])) ≡ length (filter (λ (u : SheetStep). u.hyp) done) + cond b 1 0
  count_more b e =
      ap length (filter-append (λ (u : SheetStep). u.hyp) done (t ∷ []))
      ∙ length-append (filter (λ (u : SheetStep). u.hyp) done) (filter (λ (u : SheetStep). u.hyp) (t ∷ []))
      ∙ ap (λ (n : ℕ). length (filter (λ (u : SheetStep). u.hyp) done) + n) (one_counted b t e)

  labels_more : (b : Bool) → t.hyp ≡ b → (l : Name) → has_hyp_label (done ++ t ∷ []) l ≡ (has_hyp_label done l || (b && has_label t.reference l))
  labels_more b e l =
      list_any-append (λ (u : SheetStep). u.hyp && has_label u.reference l) done (t ∷ [])
      ∙ ap (λ (c : Bool). has_hyp_label done l || c) (or_false (t.hyp && has_label t.reference l) ∙ ap (λ (c : Bool). c && has_label t.reference l) e)

  by_hyp : (b : Bool) → t.hyp ≡ b → AreNoted (cond b (record { count = hyps.count + 1; labels = with_label hyps.labels t.reference }) hyps) (done ++ t ∷ [])
  by_hyp true e = record {
    count = let more = count_more true e in let old = h.count in omega (arith, more, old);
    labels = λ l. label_more hyps.labels t.reference l ∙ ap (λ (b : Bool). b || has_label t.reference l) (h.labels l) ∙ sym (labels_more true e l);
  }
  by_hyp false e = record {
    count = let more = count_more false e in let old = h.count in omega (arith, more, old);
    labels = λ l. h.labels l ∙ sym (labels_more false e l ∙ or_false (has_hyp_label done l));
  }

  pub noted_more : AreNoted (noted hyps t) (done ++ t ∷ [])
  noted_more = by_hyp t.hyp refl

-- ---- no fault before, where there is none after

pub none_before : (a : Option Fault) (S : ℕ → ℕ → Type 0) (b : Option Fault) → IsFirstWith a S b → b ≡ None → a ≡ None
none_before None S b x e = refl
none_before (Some f) S None x e = absurd (x.first f.place f.code (inl (refl, refl)))
none_before (Some f) S (Some g) x e = absurd (cc)

pub none_stands : (a : Option Fault) (S : ℕ → ℕ → Type 0) (b : Option Fault) → IsFirstWith a S b → b ≡ None → (l c : ℕ) → S l c → ⊥
none_stands a S None x e l c s = x.first l c (inr s)
none_stands a S (Some g) x e l c s = absurd (cc)

-- ---- the steps

blank_nil : {X : Type 0} (xs : List X) → (length xs == 0) ≡ true → xs ≡ []
blank_nil [] h = refl
blank_nil (x ∷ xs) h = let bad : ⊥ = grind (arith, nat_tests, h) in absurd bad

all_asked : (a b c d : Bool) → (a && b && c && d ≡ true → ⊥) → b ≡ true → c ≡ true → d ≡ true → a ≡ false
all_asked true b c d h e f g = absurd (h (rw (e, f, g) refl))
all_asked false b c d h e f g = refl

not_true : (b : Bool) → (b ≡ true → ⊥) → not b ≡ true
not_true true h = absurd (h refl)
not_true false h = refl

flip : (b : Bool) → not b ≡ false → b ≡ true
flip true h = refl
flip false h = absurd (cc)

is_true : (b : Bool) → (not b ≡ true → ⊥) → b ≡ true
is_true true h = refl
is_true false h = absurd (h refl)

module _ (kinds : Kinds) (facts : PlaceFacts) (d : Opened) (s : Sheet)
    (says : SaysConstants kinds facts d (place kinds facts d s) (frame kinds facts d s))
    (within : place kinds facts d s ≤ length d.contents.entries) where
  -- the steps from a number on
  abbrev pub Among : ℕ → List SheetStep → ℕ → ℕ → Type 0
  Among n [] l c = ⊥
  Among n (t ∷ ts) l c = StepAt kinds facts d s n t l c ⊎ Among (suc n) ts l c

  pub among_at : (ts : List SheetStep) (n i m : ℕ) (t : SheetStep) (l c : ℕ) → slice_get ts i ≡ Some t → m ≡ n + i → StepAt kinds facts d s m t l c → Among n ts l c
  among_at [] n i m t l c e sum h = absurd (cc)
  among_at (u ∷ ts) n zero m t l c e sum h =
      let same : u ≡ t = ap (λ (o : Option SheetStep). unwrap_or o u) e in
      let at : m ≡ n = omega (arith, sum) in
      inl (subst (λ (v : SheetStep). StepAt kinds facts d s n v l c) (sym same) (subst (λ (k : ℕ). StepAt kinds facts d s k t l c) at h))
  among_at (u ∷ ts) n (suc i) m t l c e sum h = inr (among_at ts (suc n) i m t l c e (omega (arith, sum)) h)

  pub record OneOf (n : ℕ) (ts : List SheetStep) (l c : ℕ) : Type 0 where
    pub index : ℕ
    pub step : SheetStep
    pub there : slice_get ts index ≡ Some step
    pub stands : StepAt kinds facts d s (n + index) step l c

  pub among_one : (ts : List SheetStep) (n l c : ℕ) → Among n ts l c → OneOf n ts l c
  among_one [] n l c h = absurd h
  among_one (t ∷ ts) n l c (inl h) = record { index = 0; step = t; there = refl; stands = subst (λ (k : ℕ). StepAt kinds facts d s k t l c) (omega arith) h }
  among_one (t ∷ ts) n l c (inr h) =
      let r = among_one ts (suc n) l c h in
      record { index = suc r.index; step = r.step; there = r.there; stands = subst (λ (k : ℕ). StepAt kinds facts d s k r.step l c) (omega arith) r.stands }

  -- the step is read, where it has no fault
  read_tree : (hyps : HypSteps) (t : SheetStep) (o : Option Tree) → ((l c : ℕ) → StepStands (here kinds facts d s) hyps t l c → ⊥) → HasTreeIn (here kinds facts d s) t o
      → HasTree (base kinds facts d s) (place kinds facts d s) t.formula o
  read_tree hyps t None no_fault h =
      let provable = not_true (not_provable kinds.provable t) (λ e. no_fault t.line 65 (refl, inl (3, ap (λ (b : Bool). let p : ℕ × Bool = (65, b) in Some p) e))) in
      let known =
      is_true (are_known d.contents (kept kinds facts d (place kinds facts d s) (frame kinds facts d s)) t.formula)
      (λ e. no_fault t.line 66 (refl, inl (4, ap (λ (b : Bool). let p : ℕ × Bool = (66, b) in Some p) e))) in
      let short = not_true (formula_long t) (λ e. no_fault t.line 71 (refl, inl (6, ap (λ (b : Bool). let p : ℕ × Bool = (71, b) in Some p) e))) in
      blank_nil t.formula
      (flip (is_blank t)
      (all_asked (not (is_blank t)) (not (not_provable kinds.provable t))
      (are_known d.contents (kept kinds facts d (place kinds facts d s) (frame kinds facts d s)) t.formula)
      (not (formula_long t)) h provable known short))
  read_tree hyps t (Some u) no_fault h =
      let P = λ (e : List Leaf) (v : Tree). Parses d.rows (place kinds facts d s) e (logic_code (base kinds facts d s)) v in
      let same = expression_is kinds facts d (place kinds facts d s) (frame kinds facts d s) says within t.formula in
      record {
        parses = subst (λ (e : List Leaf). P e u) same h.1.holds;
        only = λ v p. h.1.only v (subst (λ (e : List Leaf). P e v) (sym same) p);
      }

  pub record AreTaken (n : ℕ) (ts : List SheetStep) (a b : State) : Type 0 where
    pub first : IsFirstWith a.first (Among n ts) b.first
    pub added : List BoundStep
    pub steps_are : b.steps ≡ a.steps ++ added
    pub read : b.first ≡ None → AllZip (IsBoundStep (base kinds facts d s) (place kinds facts d s)) ts added

  nothing_taken : (n : ℕ) (a b : State) → b ≡ a → AreTaken n [] a b
  nothing_taken n a b e = subst (AreTaken n [] a) (sym e) (record { first = none_more a.first (Among n []) (λ l c x. x); added = []; steps_are = sym (append-nil a.steps); read = λ z. tt })

  one_taken : (n : ℕ) (t : SheetStep) (ts : List SheetStep) (a m b : State) → AreNoted a.hyps (take n (steps s))
      → IsStepAdded (here kinds facts d s) t a m → AreTaken (suc n) ts m b → AreTaken n (t ∷ ts) a b
  one_taken n t ts a m b are step rest =
      let first_is : m.first ≡ step.after = ap (λ (x : State). x.first) step.new_is in
      let steps_is : m.steps ≡ a.steps ++ bound_of t step.tree ∷ [] = ap (λ (x : State). x.steps) step.new_is in
      let judged : IsFirstWith a.first (StepStands (here kinds facts d s) a.hyps t) m.first =
      subst (IsFirstWith a.first (StepStands (here kinds facts d s) a.hyps t)) (sym first_is) step.judged.first in
      let one =
      same_more (StepStands (here kinds facts d s) a.hyps t) (StepAt kinds facts d s n t) a.first m.first
      (step_there kinds facts d s says within n t a.hyps are) (step_back kinds facts d s says within n t a.hyps are) judged in
      record {
        first = both_more (StepAt kinds facts d s n t) (Among (suc n) ts) a.first m.first b.first one rest.first;
        added = bound_of t step.tree ∷ rest.added;
        steps_are = rest.steps_are ∙ ap (λ (xs : List BoundStep). xs ++ rest.added) steps_is ∙ append_assoc a.steps (bound_of t step.tree ∷ []) rest.added;
        read = λ z.
            let none = none_before m.first (Among (suc n) ts) b.first rest.first z in
            let tree = step.judged.tree_is (sym first_is ∙ none) in (
              record {
                hyp = refl;
                name = refl;
                places = refl;
                reference = refl;
                tree = read_tree a.hyps t step.tree (none_stands a.first (StepStands (here kinds facts d s) a.hyps t) m.first judged none) tree;
              },
              rest.read z,
            );
      }

  -- the steps of the items, one by one
  pub items_taken : (xs : List SheetItem) (done : List SheetStep) (a b : State) → steps s ≡ done ++ filter_map step_of_item xs → AreNoted a.hyps done → Runs (here kinds facts d s) a xs b
      → AreTaken (length done) (filter_map step_of_item xs) a b
  items_taken [] done a b all are r = nothing_taken (length done) a b r
  items_taken (item.Comment lines ∷ xs) done a b all are r =
      subst (λ (m : State). AreTaken (length done) (filter_map step_of_item xs) m b) r.1
      (items_taken xs done r.0 b all (subst (λ (m : State). AreNoted m.hyps done) (sym r.1) are) r.2)
  items_taken (item.Step t ∷ xs) done a b all are r =
      let rest = filter_map step_of_item xs in
      let before : take (length done) (steps s) ≡ done = ap (take (length done)) all ∙ take_at done (t ∷ rest) (length done) refl in
      let hyps_is : r.0.hyps ≡ noted a.hyps t = ap (λ (x : State). x.hyps) r.1.new_is in
      let long : length (done ++ t ∷ []) ≡ suc (length done) = (let l = length-append done (t ∷ []) in omega (arith, l)) in
      one_taken (length done) t rest a r.0 b (subst (AreNoted a.hyps) (sym before) are) r.1
      (subst (λ (n : ℕ). AreTaken n rest r.0 b) long
      (items_taken xs (done ++ t ∷ []) r.0 b (all ∙ sym (append_assoc done (t ∷ []) rest)) (subst (λ (h : HypSteps). AreNoted h (done ++ t ∷ [])) (sym hyps_is) (noted_more a.hyps done t are)) r.2))
