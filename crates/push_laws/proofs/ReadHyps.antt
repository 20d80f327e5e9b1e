-- The hypotheses of a worksheet without faults over its database, as they were read.
use Rattle.std.specs.Prelude.{◌≡◌, ◌<◌, ◌≤◌, ◌&&◌, ◌||◌, ℕ, zero, suc, Bool, true, false, not, List, [], ◌∷◌, ◌++◌, length, take, drop, filter}
use Rattle.std.specs.Prelude.{nat_le, slice_get, is_some, Contains, Option, Some, None, option_map, option_and_then, position, refl}
use Rattle.std.specs.List.{AllByRecursion, list_any}
use Rattle.std.specs.Option.{option_map_or}
use Rattle.std.specs.Str.{bytes_eq}
use Rattle.std.proofs.Common.{sym, ap, subst, ◌∙◌, cond, arith, inl, inr}
use Rattle.std.proofs.lemmas.Bool.{cases_Bool, and_parts, and_from, or_parts, or_left, both_ways, not-false, false_from_ne_true, le-leb}
use Rattle.std.proofs.lemmas.List.{take-append-drop}
use Rattle.std.proofs.lemmas.List.Elements.{filter-append}
use Rattle.std.proofs.lemmas.Slice.Eq.{bytes_eq-Decides}
use Rattle.mm_base.specs.declared.symbols.Label.{Label}
use Rattle.mm_model.specs.declared.frames.Hyp.{Hyp}
use Rattle.mm_model.specs.declared.frames.Frame.{Frame}
use Rattle.mm_model.specs.Names.{Name, label}
use Rattle.mm_model.specs.Productions.{essentials}
use Rattle.mm_model.specs.Book.{Database, label_of}
use Rattle.mm_model.proofs.RowLaws.{find_from}
use Rattle.sheet_text.specs.declared.sheet.Sheet.{Sheet}
use Rattle.sheet_text.specs.declared.sheet.SheetStep.{SheetStep}
use Rattle.sheet_text.specs.Layout.{steps}
use Rattle.solve_model.specs.Binding.{existing, is_new, new_place, place_of, given_hyps, names_of, same_tokens, hyps_before, has_label, is_hyp, is_qed, hyp_differs, qed_differs}
use Rattle.solve_model.specs.BindFaults.{BindFaultAt, at_step, step_rules, hyps_differ, hyp_label_taken, hyp_label_twice, not_provable, wants_formula, is_blank, begins_with_token}
use Rattle.push_laws.proofs.Books.{not_found}
use Rattle.push_laws.proofs.Facts.{IsBook}
use Rattle.push_laws.proofs.Filling.{get_left}
use Rattle.push_laws.proofs.Lists.{first, later, nothing, parted, all_in, get_within, get_contains, contains_get, any_of_contains}

-- an element that passes stands behind so many that pass
pub record FilterAt {X : Type 0} (p : X → Bool) (xs : List X) (m : ℕ) (x : X) : Type 0 where
  pub index : ℕ
  pub stands : slice_get xs index ≡ Some x
  pub passes : p x ≡ true
  pub before : length (filter p (take index xs)) ≡ m

module _ {X : Type 0} (p : X → Bool) where
  pub filter_at : (xs : List X) (m : ℕ) (x : X) → slice_get (filter p xs) m ≡ Some x → FilterAt p xs m x
  filter_at [] m x e = absurd cc
  filter_at (y ∷ xs) m x e = elim (cases_Bool (p y)) [
    | inl d ↦ here m d (subst (λ (b : Bool). slice_get (cond b (y ∷ filter p xs) (filter p xs)) m ≡ Some x) d e) (λ n i. filter_at xs n x i)
    | inr d ↦
        let r = filter_at xs m x (subst (λ (b : Bool). slice_get (cond b (y ∷ filter p xs) (filter p xs)) m ≡ Some x) d e) in
        record {
          index = suc r.index;
          stands = r.stands;
          passes = r.passes;
          before = ap (λ (b : Bool). length (cond b (y ∷ filter p (take r.index xs)) (filter p (take r.index xs)))) d ∙ r.before;
        }
  ]
    where
      here : (m : ℕ) → p y ≡ true → slice_get (y ∷ filter p xs) m ≡ Some x → ((n : ℕ) → slice_get (filter p xs) n ≡ Some x → FilterAt p xs n x) → FilterAt p (y ∷ xs) m x
      here zero d i f = let same : y ≡ x = cc in record { index = 0; stands = ap (λ z. Some z) same; passes = ap p (sym same) ∙ d; before = refl }
      here (suc m) d i f =
          let r = f m i in
          record {
            index = suc r.index;
            stands = r.stands;
            passes = r.passes;
            before = ap (λ (b : Bool). length (cond b (y ∷ filter p (take r.index xs)) (filter p (take r.index xs)))) d ∙ ap suc r.before;
          }

  -- what stands earlier among those that pass
  pub earlier_passes : (xs : List X) (i m : ℕ) (x : X) → m < length (filter p (take i xs)) → slice_get (filter p xs) m ≡ Some x → Contains (filter p (take i xs)) x
  earlier_passes xs i m x l e =
      let y = get_within (filter p (take i xs)) m l in
      let whole : filter p (take i xs) ++ filter p (drop i xs) ≡ filter p xs = sym (filter-append p (take i xs) (drop i xs)) ∙ ap (filter p) (take-append-drop i xs) in
      let both : Some y.0 ≡ Some x = sym (get_left (filter p (take i xs)) (filter p (drop i xs)) m y.0 y.1) ∙ ap (λ ys. slice_get ys m) whole ∙ e in
      let same : y.0 ≡ x = cc in
      subst (Contains (filter p (take i xs))) same (get_contains (filter p (take i xs)) m y.0 y.1)

  pub filter_from : (xs : List X) (x : X) → Contains (filter p xs) x → Contains xs x × (p x ≡ true)
  filter_from [] x h = absurd (nothing x h)
  filter_from (y ∷ xs) x h = elim (cases_Bool (p y)) [
    | inl d ↦ elim (parted x y (filter p xs) (subst (λ (b : Bool). Contains (cond b (y ∷ filter p xs) (filter p xs)) x) d h)) [
      | inl e ↦ (first x y xs e, ap p (sym e) ∙ d)
      | inr l ↦ let r = filter_from xs x l in (later x y xs r.0, r.1)
    ]
    | inr d ↦ let r = filter_from xs x (subst (λ (b : Bool). Contains (cond b (y ∷ filter p xs) (filter p xs)) x) d h) in (later x y xs r.0, r.1)
  ]

pub tokens_same : (us vs : List Name) → same_tokens us vs ≡ true → us ≡ vs
tokens_same [] [] e = refl
tokens_same [] (v ∷ vs) e = absurd cc
tokens_same (u ∷ us) [] e = absurd cc
tokens_same (u ∷ us) (v ∷ vs) e =
    let two = and_parts (bytes_eq u v) (same_tokens us vs) e in
    let one : u ≡ v = (bytes_eq-Decides u v).0 two.0 in
    let rest = tokens_same us vs two.1 in
    cc

label_is : (o : Option Name) (n : Name) → has_label o n ≡ true → o ≡ Some n
label_is None n e = absurd cc
label_is (Some l) n e = ap (λ x. Some x) ((bytes_eq-Decides l n).0 e)

-- a label of the database is found
pub label_found : (names : List Name) (n : Name) → Contains names n → option_map label (position (bytes_eq n) names) ≡ None → ⊥
label_found names n h e = go (position (bytes_eq n) names) refl e
  where
    go : (o : Option ℕ) → position (bytes_eq n) names ≡ o → option_map label o ≡ None → ⊥
    go None i j =
        let at = contains_get names n h in
        let f = find_from (bytes_eq n) names at.0 n at.1 ((bytes_eq-Decides n n).1 refl) in
        let bad : None ≡ Some f.0 = sym (not_found (bytes_eq n) names i) ∙ f.1 in
        cc
    go (Some k) i j = cc

module _ (db : Database) (book : IsBook db) (s : Sheet) (sound : (line code : ℕ) → BindFaultAt db s line code → ⊥) where
  abbrev pub hyp_steps : List SheetStep
  hyp_steps = filter (λ (t : SheetStep). t.hyp) (steps s)

  abbrev At : ℕ → SheetStep → Type 0
  At m t = FilterAt (λ (x : SheetStep). x.hyp) (steps s) m t

  no_rule : (k i : ℕ) (code : ℕ) (rule : ℕ → SheetStep → Bool) (t : SheetStep) → slice_get (step_rules db s) k ≡ Some (code, rule) → slice_get (steps s) i ≡ Some t → rule i t ≡ false
  no_rule k i code rule t r at = false_from_ne_true (rule i t) (λ e. sound t.line code (at_step k i r at e))

  differ_not : (i : ℕ) (t : SheetStep) → slice_get (steps s) i ≡ Some t → hyp_differs db s i t ≡ false
  differ_not i t at = (or_parts (hyp_differs db s i t) (qed_differs db s i t) (no_rule 0 i 62 (hyps_differ db s) t refl at)).0

  other_fails : (a b : Bool) → a ≡ true → (a && b) ≡ false → b ≡ false
  other_fails true b h e = e
  other_fails false b h e = absurd cc

  -- a given `$e` has its `h` step
  pub given_is : (m : ℕ) (h : Hyp) (t : SheetStep) → slice_get (given_hyps db s) m ≡ Some h → slice_get hyp_steps m ≡ Some t → (t.reference ≡ Some h.name) × (t.formula ≡ names_of db h.formula)
  given_is m h t g e =
      let at = filter_at (λ (x : SheetStep). x.hyp) (steps s) m t e in
      let no = other_fails t.hyp _ at.passes (differ_not at.index t at.stands) in
      let here : slice_get (given_hyps db s) (hyps_before s at.index) ≡ Some h = ap (slice_get (given_hyps db s)) at.before ∙ g in
      let one : not (is_hyp db h t) ≡ false = sym (ap (λ o. option_map_or (λ x. not (is_hyp db x t)) o (is_some (existing db s))) here) ∙ no in
      let two = and_parts (has_label t.reference h.name) (same_tokens t.formula (names_of db h.formula)) (not-false (is_hyp db h t) one) in
      (label_is t.reference h.name two.0, tokens_same t.formula (names_of db h.formula) two.1)

  no_label : (l : Name) (o : Option Label) → (is_some o || bytes_eq l s.theorem) ≡ false → o ≡ None
  no_label l None e = refl
  no_label l (Some x) e = absurd cc

  past : (hs : List Hyp) (m : ℕ) → slice_get hs m ≡ None → length hs ≤ m
  past [] m e = omega arith
  past (h ∷ hs) zero e = absurd cc
  past (h ∷ hs) (suc m) e = let r = past hs m e in omega (arith, r)

  -- past them, an `h` step has a label that the database lacks
  pub new_label : (m : ℕ) (t : SheetStep) (l : Name) → slice_get (given_hyps db s) m ≡ None → slice_get hyp_steps m ≡ Some t → t.reference ≡ Some l → label_of db l ≡ None
  new_label m t l g e r =
      let at = filter_at (λ (x : SheetStep). x.hyp) (steps s) m t e in
      let no = other_fails t.hyp _ at.passes (differ_not at.index t at.stands) in
      let here : slice_get (given_hyps db s) (hyps_before s at.index) ≡ None = ap (slice_get (given_hyps db s)) at.before ∙ g in
      let fresh : is_some (existing db s) ≡ false = sym (ap (λ o. option_map_or (λ x. not (is_hyp db x t)) o (is_some (existing db s))) here) ∙ no in
      let new : is_new db s ≡ true = ap not fresh in
      let many : nat_le (length (given_hyps db s)) (hyps_before s at.index) ≡ true =
      le-leb (length (given_hyps db s)) (hyps_before s at.index) (past (given_hyps db s) (hyps_before s at.index) here) in
      let taken = no_rule 1 at.index 63 (hyp_label_taken db s) t refl at.stands in
      let three : (is_new db s && t.hyp && nat_le (length (given_hyps db s)) (hyps_before s at.index)) ≡ true = and_from _ _ (and_from _ _ new at.passes) many in
      let test : option_map_or (λ x. is_some (label_of db x) || bytes_eq x s.theorem) t.reference false ≡ false = other_fails _ _ three taken in
      no_label l (label_of db l) (sym (ap (λ o. option_map_or (λ x. is_some (label_of db x) || bytes_eq x s.theorem) o false) r) ∙ test)

  -- two of them have two labels
  pub labels_differ : (m n : ℕ) (t u : SheetStep) (l : Name) → m < n → slice_get hyp_steps m ≡ Some t → slice_get hyp_steps n ≡ Some u → t.reference ≡ Some l → u.reference ≡ Some l → ⊥
  labels_differ m n t u l less e f p q =
      let at = filter_at (λ (x : SheetStep). x.hyp) (steps s) n u f in
      let before = at.before in
      let earlier = earlier_passes (λ (x : SheetStep). x.hyp) (steps s) at.index m t (omega (arith, before, less)) e in
      let there = filter_from (λ (x : SheetStep). x.hyp) (take at.index (steps s)) t earlier in
      let twice = no_rule 7 at.index 72 (hyp_label_twice s) u refl at.stands in
      let test : option_map_or (λ x. list_any (λ (y : SheetStep). y.hyp && has_label y.reference x) (take at.index (steps s))) u.reference false ≡ false = other_fails u.hyp _ at.passes twice in
      let any : list_any (λ (y : SheetStep). y.hyp && has_label y.reference l) (take at.index (steps s)) ≡ true =
      any_of_contains (λ (y : SheetStep). y.hyp && has_label y.reference l) (take at.index (steps s)) t there.0 (and_from t.hyp (has_label t.reference l) there.1
      (ap (λ o. has_label o l) p ∙ (bytes_eq-Decides l l).1 refl)) in
      both_ways (list_any (λ (y : SheetStep). y.hyp && has_label y.reference l) (take at.index (steps s)))
      (sym (ap (λ o. option_map_or (λ x. list_any (λ (y : SheetStep). y.hyp && has_label y.reference x) (take at.index (steps s))) o false) q) ∙ test) any

  -- each has a formula that begins with the provable typecode
  pub hyp_begins : (m : ℕ) (t : SheetStep) → slice_get hyp_steps m ≡ Some t → begins_with_token db.provable t.formula ≡ true
  hyp_begins m t e =
      let at = filter_at (λ (x : SheetStep). x.hyp) (steps s) m t e in
      let wants = no_rule 5 at.index 69 (λ i x. wants_formula x) t refl at.stands in
      let filled : is_blank t ≡ false = other_fails (t.hyp || is_qed t) (is_blank t) (or_left t.hyp (is_qed t) at.passes) wants in
      let first = no_rule 3 at.index 65 (λ i x. not_provable db x) t refl at.stands in
      not-false (begins_with_token db.provable t.formula) (other_fails (not (is_blank t)) (not (begins_with_token db.provable t.formula)) (ap not filled) first)

  -- ---- the given `$e` are active at the place

  existing_by : (o : Option Frame) → option_and_then (λ (f : Frame). cond f.is_axiom None (Some f)) o ≡ existing db s → (f : Frame)
      → option_and_then (λ (f : Frame). cond f.is_axiom None (Some f)) o ≡ Some f → o ≡ Some f
  existing_by None i f e = absurd cc
  existing_by (Some h) i f e = go h.is_axiom e
    where
      go : (b : Bool) → cond b None (Some h) ≡ Some f → Some h ≡ Some f
      go true j = absurd cc
      go false j = j

  frame_label : (o : Option Label) (f : Frame) → option_and_then db.frame o ≡ Some f → (l : Label) × (db.frame l ≡ Some f)
  frame_label None f e = absurd cc
  frame_label (Some l) f e = (l, e)

  given_by : (o : Option Frame) → existing db s ≡ o → AllByRecursion (Contains (db.active_at (place_of db s)).hyps) (given_hyps db s)
  given_by None e =
      let given : given_hyps db s ≡ essentials (db.active_at (place_of db s)).hyps = ap (λ o. option_map_or (λ (f : Frame). essentials f.hyps) o (essentials (db.active_at (place_of db s)).hyps)) e in
      subst (AllByRecursion (Contains (db.active_at (place_of db s)).hyps)) (sym given)
      (all_in (Contains (db.active_at (place_of db s)).hyps) (essentials (db.active_at (place_of db s)).hyps)
      (λ h c. (filter_from (λ (x : Hyp). not x.floating) (db.active_at (place_of db s)).hyps h c).0))
  given_by (Some f) e =
      let given : given_hyps db s ≡ essentials f.hyps = ap (λ o. option_map_or (λ (f : Frame). essentials f.hyps) o (essentials (db.active_at (place_of db s)).hyps)) e in
      let place : place_of db s ≡ f.at = ap (λ o. option_map_or (λ (f : Frame). f.at) o (new_place db s.loc)) e in
      let l = frame_label (label_of db s.theorem) f (existing_by (option_and_then db.frame (label_of db s.theorem)) refl f e) in
      subst (AllByRecursion (Contains (db.active_at (place_of db s)).hyps)) (sym given)
      (subst (λ (n : ℕ). AllByRecursion (Contains (db.active_at n).hyps) (essentials f.hyps)) (sym place) (book.given l.0 f l.1))

  pub given_active : AllByRecursion (Contains (db.active_at (place_of db s)).hyps) (given_hyps db s)
  given_active = given_by (existing db s) refl
