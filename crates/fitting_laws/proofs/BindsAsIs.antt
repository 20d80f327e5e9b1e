-- A worksheet that fits has no fault over its database.
use Rattle.std.specs.Prelude.{◌≡◌, ◌<◌, ◌≤◌, ◌^◌, ◌==◌, ◌&&◌, ◌||◌, not, nat_lt, nat_le, ℕ, zero, suc, Bool, true, false, List, [], ◌∷◌, length, take, filter}
use Rattle.std.specs.Prelude.{codes, Contains, slice_get, is_some, Option, Some, refl}
use Rattle.std.specs.List.{AllByRecursion, AllZip, list_all, list_any}
use Rattle.std.specs.Option.{option_map_or}
use Rattle.std.specs.Str.{bytes_eq}
use Rattle.std.proofs.Common.{sym, ap, subst, ◌∙◌, arith, inl, inr}
use Rattle.std.proofs.lemmas.Bool.{cases_Bool, and_parts}
use Rattle.std.proofs.lemmas.Bool.Decides.{nat_tests}
use Rattle.std.proofs.lemmas.Slice.Eq.{bytes_eq-Decides}
use Rattle.mm_base.specs.declared.tree.Tree.{Tree}
use Rattle.mm_base.specs.Limits.{most_formula_tokens}
use Rattle.mm_model.specs.declared.frames.Hyp.{Hyp}
use Rattle.mm_model.specs.declared.frames.Frame.{Frame}
use Rattle.mm_model.specs.Labels.{is_label, is_label_byte}
use Rattle.mm_model.specs.Names.{Name}
use Rattle.mm_model.specs.Productions.{essentials}
use Rattle.mm_model.specs.Book.{Database, label_of}
use Rattle.model_laws.proofs.Listed.{Pairwise}
use Rattle.sheet_text.specs.declared.sheet.Sheet.{Sheet}
use Rattle.sheet_text.specs.declared.sheet.SheetStep.{SheetStep}
use Rattle.sheet_text.specs.Layout.{steps}
use Rattle.solve_model.specs.declared.bound.Bound.{Bound}
use Rattle.solve_model.specs.declared.bound.BoundStep.{BoundStep}
use Rattle.solve_model.specs.Bound.{Binds, IsBoundStep}
use Rattle.solve_model.specs.Binding.{existing, is_new, place_of, given_hyps, given_pairs, theorem_of, names_of, same_tokens, hyps_before, has_label, is_hyp}
use Rattle.solve_model.specs.Binding.{is_qed, hyp_differs, qed_differs}
use Rattle.solve_model.specs.BindFaults.{BindFaultAt, header_rules, step_rules, hyp_with_hyps, is_blank, begins_with_token, not_provable}
use Rattle.solve_model.specs.BindFaults.{unknown_symbol, formula_long, hyp_label_twice}
use Rattle.solve_model.specs.Formulas.{leaf_by, is_known}
use Rattle.again_laws.proofs.Lists.{all_at, contains_get, get_contains, get_within, some_same, zip_left, zip_long}
use Rattle.push_laws.proofs.Facts.{NamesUnlike}
use Rattle.push_laws.proofs.Lists.{any_contains}
use Rattle.fitting_laws.specs.FitsAsWritten.{FitsAsWritten, IsWhole, IsHypStep, IsActivePair, is_active, numbered_name}
use Rattle.fitting_laws.proofs.Numbered.{numbered_qed}
use Rattle.fitting_laws.proofs.Stated.{theorem_of_sheet, label_listed, active_symbol, whole_at}

-- ---- tests

same_self : (ts : List Name) → same_tokens ts ts ≡ true
same_self [] = refl
same_self (t ∷ ts) = let one = (bytes_eq-Decides t t).1 refl in rw (one, same_self ts) refl

and_false : (a : Bool) → (a && false) ≡ false
and_false true = refl
and_false false = refl

or_both : (a b : Bool) → a ≡ false → b ≡ false → (a || b) ≡ false
or_both true b e f = absurd cc
or_both false b e f = f

no_pass : (b : Bool) → (b ≡ true → ⊥) → b ≡ false
no_pass true h = absurd (h refl)
no_pass false h = refl

-- ---- the elements that pass, by their places

-- an element that passes is, among those that pass, the one with as many before it as pass before it
filter_place : {X : Type 0} (p : X → Bool) (xs : List X) (k : ℕ) (x : X) → slice_get xs k ≡ Some x → p x ≡ true → slice_get (filter p xs) (length (filter p (take k xs))) ≡ Some x
filter_place p [] k x at h = absurd cc
filter_place p (y ∷ xs) zero x at h =
    let same : y ≡ x = some_same y x at in
    let pass : p y ≡ true = ap p same ∙ h in
    rw pass (ap (λ z. Some z) same)
filter_place p (y ∷ xs) (suc k) x at h = elim (cases_Bool (p y)) [
  | inl d ↦ rw d (filter_place p xs k x at h)
  | inr d ↦ rw d (filter_place p xs k x at h)
]

-- where the last does not pass, all that pass stand before it
filter_front : {X : Type 0} (p : X → Bool) (xs : List X) (k : ℕ) (x : X) → slice_get xs k ≡ Some x → suc k ≡ length xs → p x ≡ false → length (filter p (take k xs)) ≡ length (filter p xs)
filter_front p [] k x at last h = absurd cc
filter_front p (y ∷ []) zero x at last h = let same : y ≡ x = some_same y x at in let fails : p y ≡ false = ap p same ∙ h in rw fails refl
filter_front p (y ∷ z ∷ xs) zero x at last h = absurd (omega (arith, last))
filter_front p (y ∷ xs) (suc k) x at last h = elim (cases_Bool (p y)) [
  | inl d ↦ rw d (ap (λ n. suc n) (filter_front p xs k x at (omega (arith, last)) h))
  | inr d ↦ rw d (filter_front p xs k x at (omega (arith, last)) h)
]

filter_taken : {X : Type 0} (p : X → Bool) (xs : List X) (k : ℕ) (x : X) → Contains (take k xs) x → p x ≡ true → (j : ℕ) × (slice_get (filter p xs) j ≡ Some x) × (j < length (filter p (take k xs)))
filter_taken p xs zero x m h = absurd (none m)
  where
    none : Contains [] x → ⊥
    none q = let less = q.1 in omega (arith, less)
filter_taken p [] (suc k) x m h = absurd (none m)
  where
    none : Contains [] x → ⊥
    none q = let less = q.1 in omega (arith, less)
filter_taken p (y ∷ xs) (suc k) x m h = by (contains_get (y ∷ take k xs) x m) (λ n. filter_taken p xs k x n h)
  where
    by : (j : ℕ) × (slice_get (y ∷ take k xs) j ≡ Some x)
        → (Contains (take k xs) x → (j : ℕ) × (slice_get (filter p xs) j ≡ Some x) × (j < length (filter p (take k xs))))
        → (j : ℕ) × (slice_get (filter p (y ∷ xs)) j ≡ Some x) × (j < length (filter p (take (suc k) (y ∷ xs))))
    by (zero, e) rest =
        let same : y ≡ x = some_same y x e in
        let pass : p y ≡ true = ap p same ∙ h in
        rw pass (0, ap (λ z. Some z) same, omega arith)
    by (suc j, e) rest = let r = rest (get_contains (take k xs) j x e) in elim (cases_Bool (p y)) [
      | inl d ↦ let less = r.2 in rw d (suc r.0, r.1, omega (arith, less))
      | inr d ↦ rw d r
    ]

-- no two elements apart
apart : {X : Type 0} (R : X → X → Type 0) (xs : List X) (i j : ℕ) (x y : X) → Pairwise R xs → slice_get xs i ≡ Some x → slice_get xs j ≡ Some y → i < j → R x y
apart R [] i j x y h p q l = absurd cc
apart R (z ∷ xs) i zero x y h p q l = absurd (omega (arith, l))
apart R (z ∷ xs) zero (suc j) x y h p q l = subst (λ w. R w y) (some_same z x p) (all_at (R z) xs j y h.0 q)
apart R (z ∷ xs) (suc i) (suc j) x y h p q l = apart R xs i j x y h.1 p q (omega (arith, l))

module _ (db : Database) (sheet : Sheet) (F : FitsAsWritten db sheet) (labels : (n : Name) → Contains db.labels n → is_label n ≡ true)
    (apart_hyps : Pairwise NamesUnlike (essentials F.frame.hyps)) (small : length (steps sheet) < 2 ^ 64)
    (qed_at : (k : ℕ) × (suc k ≡ length (steps sheet)) × (slice_get (steps sheet) k ≡ Some F.qed)) where
  abbrev ss : List SheetStep
  ss = steps sheet

  abbrev place : ℕ
  place = place_of db sheet

  abbrev gives : List Hyp
  gives = essentials F.frame.hyps

  given_is : given_hyps db sheet ≡ gives
  given_is = ap (λ o. option_map_or (λ (f : Frame). essentials f.hyps) o (essentials (db.active_at place).hyps)) F.theorem

  not_new : is_new db sheet ≡ false
  not_new = ap (λ (o : Option Frame). not (is_some o)) F.theorem

  not_new_and : (b : Bool) → (is_new db sheet && b) ≡ false
  not_new_and b = ap (λ x. x && b) not_new

  -- ---- the header

  header_fails : AllByRecursion (λ (p : ℕ × (Sheet → Bool)). p.1 sheet ≡ false) (header_rules db)
  header_fails =
      let t = theorem_of_sheet db sheet F.frame F.theorem in
      let name = and_parts (not (length sheet.theorem == 0)) (list_all is_label_byte sheet.theorem) (labels sheet.theorem (label_listed db sheet.theorem t.label t.label_is)) in
      (not_new_and _, (not_new_and _, (ap not name.1, tt)))

  -- ---- the `$e`

  -- an `h` step is the given `$e` of its number
  record Given (i : ℕ) (t : SheetStep) : Type 0 where
    hyp : Hyp
    hyp_at : slice_get gives (hyps_before sheet i) ≡ Some hyp
    is : IsHypStep db hyp t

  given_at : (i : ℕ) (t : SheetStep) → slice_get ss i ≡ Some t → t.hyp ≡ true → Given i t
  given_at i t at h =
      let there = filter_place (λ (x : SheetStep). x.hyp) ss i t at h in
      let r = zip_left (IsHypStep db) gives (filter (λ (x : SheetStep). x.hyp) ss) F.hyps (hyps_before sheet i) t there in
      record { hyp = r.0; hyp_at = r.1; is = r.2 }

  is_the_hyp : (h : Hyp) (t : SheetStep) → IsHypStep db h t → is_hyp db h t ≡ true
  is_the_hyp h t k =
      let label : has_label t.reference h.name ≡ true = ap (λ o. has_label o h.name) k.reference ∙ (bytes_eq-Decides h.name h.name).1 refl in
      let tokens : same_tokens t.formula (names_of db h.formula) ≡ true = ap (λ ts. same_tokens ts (names_of db h.formula)) k.formula ∙ same_self (names_of db h.formula) in
      rw (label, tokens) refl

  hyp_same : (i : ℕ) (t : SheetStep) → slice_get ss i ≡ Some t → hyp_differs db sheet i t ≡ false
  hyp_same i t at = by t.hyp refl
    where
      by : (b : Bool) → t.hyp ≡ b → hyp_differs db sheet i t ≡ false
      by false e = ap (λ b. b && option_map_or (λ h. not (is_hyp db h t)) (slice_get (given_hyps db sheet) (hyps_before sheet i)) (is_some (existing db sheet))) e
      by true e =
          let g = given_at i t at e in
          ap (λ b. b && option_map_or (λ h. not (is_hyp db h t)) (slice_get (given_hyps db sheet) (hyps_before sheet i)) (is_some (existing db sheet))) e
          ∙ ap (λ o. option_map_or (λ h. not (is_hyp db h t)) o (is_some (existing db sheet))) (ap (λ hs. slice_get hs (hyps_before sheet i)) given_is ∙ g.hyp_at)
          ∙ ap not (is_the_hyp g.hyp t g.is)

  -- ---- `qed`

  qed_is : (i : ℕ) (t : SheetStep) → slice_get ss i ≡ Some t → is_qed t ≡ true → (suc i ≡ length ss) × (t ≡ F.qed)
  qed_is i t at q =
      let name : numbered_name (length ss) i ≡ codes "qed" = sym (F.names i t at) ∙ (bytes_eq-Decides t.name (codes "qed")).0 q in
      let last = numbered_qed (length ss) i small (get_within ss i t at) name in
      let end = qed_at.1 in
      let same : i ≡ qed_at.0 = omega (arith, last, end) in
      (last, some_same t F.qed (sym at ∙ ap (slice_get ss) same ∙ qed_at.2))

  qed_same : (i : ℕ) (t : SheetStep) → slice_get ss i ≡ Some t → qed_differs db sheet i t ≡ false
  qed_same i t at = by (is_qed t) refl
    where
      not_below : (n m : ℕ) → n ≡ m → nat_lt n m ≡ false
      not_below n m e = grind (arith, nat_tests, e)

      by : (b : Bool) → is_qed t ≡ b → qed_differs db sheet i t ≡ false
      by false e =
          ap
          (λ b. b && (nat_lt (hyps_before sheet i) (length (given_hyps db sheet)) || option_map_or (λ (f : Frame). not (same_tokens t.formula (names_of db f.formula))) (existing db sheet) false))
          e
      by true e =
          let q = qed_is i t at e in
          let no_hyp : t.hyp ≡ false = ap (λ (x : SheetStep). x.hyp) q.1 ∙ F.qed_no_hyp in
          let all : hyps_before sheet i ≡ length (filter (λ (x : SheetStep). x.hyp) ss) = filter_front (λ (x : SheetStep). x.hyp) ss i t at q.0 no_hyp in
          let count : length gives ≡ length (filter (λ (x : SheetStep). x.hyp) ss) = zip_long (IsHypStep db) gives (filter (λ (x : SheetStep). x.hyp) ss) F.hyps in
          let few : nat_lt (hyps_before sheet i) (length (given_hyps db sheet)) ≡ false = not_below (hyps_before sheet i) (length (given_hyps db sheet)) (all ∙ sym count ∙ sym (ap length given_is)) in
          let formula : t.formula ≡ names_of db F.frame.formula = ap (λ (x : SheetStep). x.formula) q.1 ∙ F.qed_formula in
          let same : option_map_or (λ (f : Frame). not (same_tokens t.formula (names_of db f.formula))) (existing db sheet) false ≡ false =
          ap (λ o. option_map_or (λ (f : Frame). not (same_tokens t.formula (names_of db f.formula))) o false) F.theorem
          ∙ ap (λ ts. not (same_tokens ts (names_of db F.frame.formula))) formula ∙ ap not (same_self (names_of db F.frame.formula)) in
          ap (λ b. b && (nat_lt (hyps_before sheet i) (length (given_hyps db sheet)) || option_map_or (λ (f : Frame). not (same_tokens t.formula (names_of db f.formula))) (existing db sheet) false)) e
          ∙ or_both (nat_lt (hyps_before sheet i) (length (given_hyps db sheet))) _ few same

  -- ---- the other rules

  no_places : (i : ℕ) (t : SheetStep) → slice_get ss i ≡ Some t → hyp_with_hyps t ≡ false
  no_places i t at = by t.hyp refl
    where
      by : (b : Bool) → t.hyp ≡ b → hyp_with_hyps t ≡ false
      by false e = ap (λ b. b && not (length t.places == 0)) e
      by true e = ap (λ b. b && not (length t.places == 0)) e ∙ ap (λ gs. not (length gs == 0)) (given_at i t at e).is.places

  filled : (i : ℕ) (t : SheetStep) → slice_get ss i ≡ Some t → is_blank t ≡ false
  filled i t at =
      let w = (whole_at db sheet F i t at).2 in
      let some : (suc (length w.rest) == 0) ≡ false = grind (arith, nat_tests) in
      ap (λ (ts : List Name). length ts == 0) w.provable ∙ some

  provable : (i : ℕ) (t : SheetStep) → slice_get ss i ≡ Some t → not_provable db t ≡ false
  provable i t at =
      let w = (whole_at db sheet F i t at).2 in
      let begins : begins_with_token db.provable t.formula ≡ true = ap (begins_with_token db.provable) w.provable ∙ (bytes_eq-Decides db.provable db.provable).1 refl in
      ap (λ b. not (is_blank t) && not b) begins ∙ and_false (not (is_blank t))

  all_known : (ts : List Name) → list_all (is_active db place) ts ≡ true → list_all (is_known db place) ts ≡ true
  all_known [] h = refl
  all_known (t ∷ ts) h =
      let both = and_parts (is_active db place t) (list_all (is_active db place) ts) h in
      let s = active_symbol db place t both.0 in
      let one : is_known db place t ≡ true = ap (λ o. is_some (leaf_by db place t o)) s.1 ∙ s.2 in
      rw (one, all_known ts both.1) refl

  known : (i : ℕ) (t : SheetStep) → slice_get ss i ≡ Some t → unknown_symbol db sheet t ≡ false
  known i t at = ap not (all_known t.formula (whole_at db sheet F i t at).2.active)

  short : (i : ℕ) (t : SheetStep) → slice_get ss i ≡ Some t → formula_long t ≡ false
  short i t at = let few = (whole_at db sheet F i t at).2.short in below (length t.formula) few
    where
      below : (n : ℕ) → n ≤ most_formula_tokens → nat_lt most_formula_tokens n ≡ false
      below n l = grind (arith, nat_tests, l)

  once : (i : ℕ) (t : SheetStep) → slice_get ss i ≡ Some t → hyp_label_twice sheet i t ≡ false
  once i t at = by t.hyp refl
    where
      label_same : (o : Option Name) (l m : Name) → o ≡ Some m → has_label o l ≡ true → m ≡ l
      label_same o l m e h = (bytes_eq-Decides m l).0 (sym (ap (λ x. has_label x l) e) ∙ h)

      by : (b : Bool) → t.hyp ≡ b → hyp_label_twice sheet i t ≡ false
      by false e = ap (λ b. b && option_map_or (λ l. list_any (λ (u : SheetStep). u.hyp && has_label u.reference l) (take i ss)) t.reference false) e
      by true e =
          let g = given_at i t at e in
          ap (λ b. b && option_map_or (λ l. list_any (λ (u : SheetStep). u.hyp && has_label u.reference l) (take i ss)) t.reference false) e
          ∙ ap (λ o. option_map_or (λ l. list_any (λ (u : SheetStep). u.hyp && has_label u.reference l) (take i ss)) o false) g.is.reference
          ∙ no_pass (list_any (λ (u : SheetStep). u.hyp && has_label u.reference g.hyp.name) (take i ss))
          (λ h.
          let u = any_contains (λ (x : SheetStep). x.hyp && has_label x.reference g.hyp.name) (take i ss) h in
          let both = and_parts u.0.hyp (has_label u.0.reference g.hyp.name) u.2 in
          let there = filter_taken (λ (x : SheetStep). x.hyp) ss i u.0 u.1 both.0 in
          let r = zip_left (IsHypStep db) gives (filter (λ (x : SheetStep). x.hyp) ss) F.hyps there.0 u.0 there.1 in
          apart NamesUnlike gives there.0 (hyps_before sheet i) r.0 g.hyp apart_hyps r.1 g.hyp_at there.2 (label_same u.0.reference g.hyp.name r.0.name r.2.reference both.1))

  abbrev Fails : ℕ × (ℕ → SheetStep → Bool) → Type 0
  Fails p = (i : ℕ) (t : SheetStep) → slice_get ss i ≡ Some t → p.1 i t ≡ false

  steps_fail : AllByRecursion Fails (step_rules db sheet)
  steps_fail = (
    (λ i t at. or_both (hyp_differs db sheet i t) (qed_differs db sheet i t) (hyp_same i t at) (qed_same i t at)),
    (
      (λ i t at. ap
          (λ b. b && t.hyp && nat_le (length (given_hyps db sheet)) (hyps_before sheet i) && option_map_or (λ l. is_some (label_of db l) || bytes_eq l sheet.theorem) t.reference false)
          not_new),
      (
        no_places,
        (
          provable,
          (known, ((λ i t at. ap (λ b. (t.hyp || is_qed t) && b) (filled i t at) ∙ and_false (t.hyp || is_qed t)), (short, (once, tt)))),
        ),
      ),
    ),
  )

  -- ---- no fault stands

  false_true : {b : Bool} → b ≡ false → b ≡ true → ⊥
  false_true {b = true} e f = cc
  false_true {b = false} e f = cc

  no_fault : (line code : ℕ) → BindFaultAt db sheet line code → ⊥
  no_fault _ _ (BindFaultAt.at_header k {code = c} {rule = r} at h) = false_true (all_at (λ (p : ℕ × (Sheet → Bool)). p.1 sheet ≡ false) (header_rules db) k (c, r) header_fails at) h
  no_fault _ _ (BindFaultAt.at_step k i {code = c} {rule = r} {t = t} at t_at h) = false_true (all_at Fails (step_rules db sheet) k (c, r) steps_fail at i t t_at) h
  no_fault _ _ (BindFaultAt.at_pairs i {p = p} at h) = false_true (ap not (all_at (IsActivePair db place) sheet.pairs i p F.pairs at).active) h
  no_fault _ _ (BindFaultAt.no_tree i {t = t} at asks none) = let w = whole_at db sheet F i t at in none w.0 w.2.one_tree.parses
  no_fault _ _ (BindFaultAt.two_trees i {t = t} at asks two) =
      let the = (whole_at db sheet F i t at).2.one_tree in
      two.differ (the.only two.one two.one_parses ∙ sym (the.only two.other two.other_parses))

  -- ---- the bound worksheet

  abbrev bound_step : SheetStep → Tree → BoundStep
  bound_step s t = record { line = 0; hyp = s.hyp; name = s.name; places = s.places; reference = s.reference; tree = Some t }

  bound_steps : (xs : List SheetStep) (ts : List Tree) → AllZip (λ (s : SheetStep) (t : Tree). IsWhole db place s.formula t) xs ts → (bs : List BoundStep) × AllZip (IsBoundStep db place) xs bs
  bound_steps [] [] z = ([], tt)
  bound_steps [] (t ∷ ts) z = absurd z
  bound_steps (s ∷ xs) [] z = absurd z
  bound_steps (s ∷ xs) (t ∷ ts) z =
      let r = bound_steps xs ts z.1 in
      (bound_step s t ∷ r.0, (record { hyp = refl; name = refl; places = refl; reference = refl; tree = z.0.one_tree }, r.1))

  pub binds_as_is : (bound : Bound) × Binds db sheet bound
  binds_as_is =
      let bs = bound_steps ss F.trees F.whole in (
        record { place = place; existing = is_some (existing db sheet); steps = bs.0; pairs = given_pairs db sheet; theorem = theorem_of db sheet },
        record { sound = no_fault; place = refl; existing = refl; steps = bs.1; pairs = refl; theorem = refl },
      )
