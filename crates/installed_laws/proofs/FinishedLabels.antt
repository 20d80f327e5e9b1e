-- The labels of a finished worksheet's theorem have the bytes of labels, are none of the text, and differ.
use Rattle.std.specs.Prelude.{◌≡◌, ◌<◌, ◌≤◌, ◌+◌, ◌==◌, ◌&&◌, ◌||◌, ℕ, zero, suc, Bool, true, false, not, nat_le}
use Rattle.std.specs.Prelude.{List, [], ◌∷◌, ◌++◌, length, map, drop, filter, slice_get, position, unwrap_or, is_some, Contains, Option, Some, None, option_map, refl}
use Rattle.std.specs.List.{AllByRecursion, list_all}
use Rattle.std.specs.Option.{option_map_or}
use Rattle.std.specs.Str.{bytes_eq}
use Rattle.std.proofs.Common.{sym, ap, subst, ◌∙◌, arith, cond}
use Rattle.std.proofs.lemmas.Bool.{and_from, and_parts, or_parts, not-false, false_from_ne_true, le-leb}
use Rattle.std.proofs.lemmas.Slice.Eq.{bytes_eq-Decides}
use Rattle.mm_base.specs.declared.symbols.Label.{Label}
use Rattle.mm_model.specs.declared.frames.Frame.{Frame}
use Rattle.mm_model.specs.Labels.{is_label, is_label_byte}
use Rattle.mm_model.specs.Names.{Name, label, contains, has_twice}
use Rattle.mm_model.specs.Productions.{essentials}
use Rattle.mm_model.specs.Statements.{statements, labels, database_fault}
use Rattle.mm_model.specs.Book.{Database, IsDatabaseOf, label_of}
use Rattle.sheet_text.specs.declared.sheet.Sheet.{Sheet}
use Rattle.sheet_text.specs.declared.sheet.SheetStep.{SheetStep}
use Rattle.sheet_text.specs.Layout.{steps}
use Rattle.solve_model.specs.Binding.{existing, is_new, place_of, given_hyps, hyps_before}
use Rattle.solve_model.specs.BindFaults.{BindFaultAt, at_header, at_step, theorem_name, theorem_taken, hyp_label_taken}
use Rattle.solve_model.specs.Bound.{Binds}
use Rattle.written_model.specs.declared.options.Options.{Options}
use Rattle.written_model.specs.WrittenSteps.{WrittenStep, steps_in}
use Rattle.written_model.specs.Written.{Writing, Writes, written_step, written_sheet, written_bound}
use Rattle.install_model.specs.Installed.{named_hyp, outer_hyps, own_hyps, new_theorem}
use Rattle.install_model.specs.Moved.{new_labels}
use Rattle.install_laws.specs.InstalledDatabase.{HasNewLabels}
use Rattle.push_laws.proofs.Books.{is_book}
use Rattle.push_laws.proofs.Facts.{IsBook}
use Rattle.push_laws.proofs.Lists.{any_contains, get_mapped, map_get, zip_get}
use Rattle.push_laws.proofs.ReadHyps.{filter_at, hyp_steps, new_label, labels_differ as read_labels_differ, label_found}
use Rattle.push_laws.proofs.StepLaw.{steps_written}
use Rattle.push_laws.proofs.TheoremHyps.{IsRead}
use Rattle.push_laws.proofs.WrittenSheet.{sheet as read_sheet, written_hyps, hyps_zip}

-- ---- lists of names

no_label : (names : List Name) (n : Name) → option_map label (position (bytes_eq n) names) ≡ None → contains names n ≡ false
no_label names n e = false_from_ne_true (contains names n) (λ t.
    let x = any_contains (bytes_eq n) names t in
    let same : n ≡ x.0 = (bytes_eq-Decides n x.0).0 x.2 in
    label_found names n (subst (Contains names) (sym same) x.1) e)

all_before : (P : Name → Type 0) (xs : List Name) (n : Name) → ((k : ℕ) (x : Name) → slice_get xs k ≡ Some x → P x) → P n → AllByRecursion P (xs ++ n ∷ [])
all_before P [] n f h = (h, tt)
all_before P (x ∷ xs) n f h = (f 0 x refl, all_before P xs n (λ k y e. f (suc k) y e) h)

not_among : (xs : List Name) (n x : Name) → ((k : ℕ) (y : Name) → slice_get xs k ≡ Some y → x ≡ y → ⊥) → bytes_eq x n ≡ false → contains (xs ++ n ∷ []) x ≡ false
not_among [] n x f h = ap (λ b. b || false) h
not_among (y ∷ xs) n x f h =
    let here : bytes_eq x y ≡ false = false_from_ne_true (bytes_eq x y) (λ t. f 0 y refl ((bytes_eq-Decides x y).0 t)) in
    ap (λ b. b || contains (xs ++ n ∷ []) x) here ∙ not_among xs n x (λ k z e. f (suc k) z e) h

none_twice : (xs : List Name) (n : Name) → ((j k : ℕ) (x : Name) → j < k → slice_get xs j ≡ Some x → slice_get xs k ≡ Some x → ⊥)
    → ((k : ℕ) (x : Name) → slice_get xs k ≡ Some x → bytes_eq x n ≡ false) → has_twice (xs ++ n ∷ []) ≡ false
none_twice [] n f h = refl
none_twice (x ∷ xs) n f h =
    let one : contains (xs ++ n ∷ []) x ≡ false = not_among xs n x (λ k y e same. f 0 (suc k) x (omega arith) refl (e ∙ ap (λ z. Some z) (sym same))) (h 0 x refl) in
    ap (λ b. b || has_twice (xs ++ n ∷ [])) one ∙ none_twice xs n (λ j k y l d e. f (suc j) (suc k) y (omega (arith, l)) d e) (λ k y e. h (suc k) y e)

get_drop : {X : Type 0} (n k : ℕ) (xs : List X) → slice_get (drop n xs) k ≡ slice_get xs (n + k)
get_drop zero k xs = let e : k ≡ 0 + k = omega arith in ap (slice_get xs) e
get_drop (suc n) k [] = refl
get_drop (suc n) k (x ∷ xs) = get_drop n k xs ∙ (let e : suc (n + k) ≡ suc n + k = omega arith in ap (slice_get (x ∷ xs)) e)

past : {X : Type 0} (xs : List X) (m : ℕ) → length xs ≤ m → slice_get xs m ≡ None
past [] m l = refl
past (x ∷ xs) zero l = let bad : ⊥ = omega (arith, l) in absurd bad
past (x ∷ xs) (suc m) l = past xs m (omega (arith, l))

other_fails : (a b : Bool) → a ≡ true → (a && b) ≡ false → b ≡ false
other_fails true b h e = e
other_fails false b h e = absurd cc

written_filter : (db : Database) (es : List WrittenStep) → filter (λ (t : SheetStep). t.hyp) (map (written_step db) es) ≡ map (written_step db) (filter (λ (e : WrittenStep). e.hyp) es)
written_filter db [] = refl
written_filter db (x ∷ xs) = go x.hyp (written_filter db xs)
  where
    go : (b : Bool) → filter (λ (t : SheetStep). t.hyp) (map (written_step db) xs) ≡ map (written_step db) (filter (λ (e : WrittenStep). e.hyp) xs)
        → cond b (written_step db x ∷ filter (λ (t : SheetStep). t.hyp) (map (written_step db) xs)) (filter (λ (t : SheetStep). t.hyp) (map (written_step db) xs))
        ≡ map (written_step db) (cond b (x ∷ filter (λ (e : WrittenStep). e.hyp) xs) (filter (λ (e : WrittenStep). e.hyp) xs))
    go true h = ap (λ ys. written_step db x ∷ ys) h
    go false h = h

-- ---- the labels of a sheet with a new theorem

pub theorem_bytes : (db : Database) (s : Sheet) → ((line code : ℕ) → BindFaultAt db s line code → ⊥) → list_all is_label_byte s.theorem ≡ true
theorem_bytes db s sound = not-false (list_all is_label_byte s.theorem) (false_from_ne_true (theorem_name s) (λ d. sound s.line 73 (at_header 2 {code = 73} {rule = theorem_name} refl d)))

module _ (db : Database) (book : IsBook db) (s : Sheet) (sound : (line code : ℕ) → BindFaultAt db s line code → ⊥) (new : is_new db s ≡ true) where
  lacks_by : (o : Option Label) → is_some o ≡ false → o ≡ None
  lacks_by None e = refl
  lacks_by (Some l) e = absurd cc

  theorem_lacks : label_of db s.theorem ≡ None
  theorem_lacks =
      lacks_by (label_of db s.theorem) (other_fails (is_new db s) (is_some (label_of db s.theorem)) new
      (false_from_ne_true (theorem_taken db s) (λ d. sound s.line 61 (at_header 1 {code = 61} {rule = theorem_taken db} refl d))))

  -- an `h` step past the given `$e` has another label than the theorem
  other_label : (m : ℕ) (t : SheetStep) (l : Name) → length (given_hyps db s) ≤ m → slice_get (hyp_steps db book s sound) m ≡ Some t → t.reference ≡ Some l → bytes_eq l s.theorem ≡ false
  other_label m t l less e r =
      let at = filter_at (λ (x : SheetStep). x.hyp) (steps s) m t e in
      let same : hyps_before s at.index ≡ m = at.before in
      let many : nat_le (length (given_hyps db s)) (hyps_before s at.index) ≡ true = le-leb (length (given_hyps db s)) (hyps_before s at.index) (omega (arith, same, less)) in
      let taken : hyp_label_taken db s at.index t ≡ false =
      false_from_ne_true (hyp_label_taken db s at.index t) (λ d. sound t.line 63 (at_step 1 at.index {code = 63} {rule = hyp_label_taken db s} refl at.stands d)) in
      let three : (is_new db s && t.hyp && nat_le (length (given_hyps db s)) (hyps_before s at.index)) ≡ true = and_from _ _ (and_from _ _ new at.passes) many in
      let test : option_map_or (λ x. is_some (label_of db x) || bytes_eq x s.theorem) t.reference false ≡ false = other_fails _ _ three taken in
      (or_parts (is_some (label_of db l)) (bytes_eq l s.theorem) (sym (ap (λ o. option_map_or (λ x. is_some (label_of db x) || bytes_eq x s.theorem) o false) r) ∙ test)).1

-- ---- the theorem of a worksheet

module _ (text sheet : List ℕ) (db : Database) (options : Options) (w : Writing) (sound : database_fault text ≡ None) (is : IsDatabaseOf options.kinds text db)
    (wr : Writes db sheet options w) (new : w.bound.existing ≡ false) (binds : Binds db (written_sheet db options w) (written_bound db options w)) where
  abbrev book : IsBook db
  book = is_book options.kinds text db is sound

  abbrev ws : Sheet
  ws = written_sheet db options w

  none_by : (o : Option Frame) → is_some o ≡ false → o ≡ None
  none_by None e = refl
  none_by (Some f) e = absurd cc

  pub is_not_existing : existing db ws ≡ None
  is_not_existing = none_by (existing db ws) (sym binds.existing ∙ new)

  is_new' : is_new db ws ≡ true
  is_new' = ap (λ o. not (is_some o)) is_not_existing

  given_count : length (given_hyps db ws) ≡ outer_hyps db options w
  given_count =
      ap (λ o. length (option_map_or (λ (f : Frame). essentials f.hyps) o (essentials (db.active_at (place_of db ws)).hyps))) is_not_existing
      ∙ ap (λ (p : ℕ). length (essentials (db.active_at p).hyps)) (sym binds.place)

  -- a hypothesis of the theorem's own, as it is written
  record OwnAt (k : ℕ) (n : Name) : Type 0 where
    step : SheetStep
    stands : slice_get (hyp_steps db book ws binds.sound) (outer_hyps db options w + k) ≡ Some step
    label_is : step.reference ≡ Some n
    spelled : is_label n ≡ true

  abbrev label_in : WrittenStep → Name
  label_in e = unwrap_or e.reference []

  abbrev own_labels : List Name
  own_labels = map (λ (h : Name × List Name). h.0) (map (named_hyp db options w) (own_hyps db options w))

  own_at : (k : ℕ) (n : Name) → slice_get own_labels k ≡ Some n → OwnAt k n
  own_at k n at =
      let h = get_mapped (λ (h : Name × List Name). h.0) (map (named_hyp db options w) (own_hyps db options w)) k n at in
      let e = get_mapped (named_hyp db options w) (own_hyps db options w) k h.0 h.1 in
      let here : slice_get (written_hyps db book sheet options w wr) (outer_hyps db options w + k) ≡ Some e.0 =
      sym (get_drop (outer_hyps db options w) k (written_hyps db book sheet options w wr)) ∙ e.1 in
      let t = zip_get (IsRead db book (read_sheet db book sheet options w wr) wr.binds.sound) (written_hyps db book sheet options w wr)
      (hyp_steps db book (read_sheet db book sheet options w wr) wr.binds.sound) (outer_hyps db options w + k) e.0 (hyps_zip db book sheet options w wr) here in
      let reference : e.0.reference ≡ Some t.2.label = t.2.reference ∙ t.2.label_is in
      let name : n ≡ t.2.label = sym (ap (λ (x : Name × List Name). x.0) e.2 ∙ h.2) ∙ ap (λ o. unwrap_or o []) reference in
      record {
        step = written_step db e.0;
        stands = ap (λ ts. slice_get (filter (λ (t : SheetStep). t.hyp) ts) (outer_hyps db options w + k)) (steps_written db w.items)
            ∙ ap (λ ts. slice_get ts (outer_hyps db options w + k)) (written_filter db (steps_in w.items))
            ∙ map_get (written_step db) (written_hyps db book sheet options w wr) (outer_hyps db options w + k) e.0 here;
        label_is = reference ∙ ap (λ o. Some o) (sym name);
        spelled = subst (λ l. is_label l ≡ true) (sym name) t.2.spelled;
      }

  beyond : (k : ℕ) → length (given_hyps db ws) ≤ outer_hyps db options w + k
  beyond k = let same = given_count in omega (arith, same)

  own_lacks : (k : ℕ) (n : Name) → slice_get own_labels k ≡ Some n → label_of db n ≡ None
  own_lacks k n at =
      let o = own_at k n at in
      new_label db book ws binds.sound (outer_hyps db options w + k) o.step n (past (given_hyps db ws) (outer_hyps db options w + k) (beyond k)) o.stands o.label_is

  text_lacks : (n : Name) → label_of db n ≡ None → contains (labels (statements text)) n ≡ false
  text_lacks n e = subst (λ ls. contains ls n ≡ false) is.labels (no_label db.labels n e)

  pub labels_have_bytes : AllByRecursion (λ n. list_all is_label_byte n ≡ true) (new_labels (new_theorem db options w))
  labels_have_bytes =
      all_before (λ n. list_all is_label_byte n ≡ true) own_labels w.read.theorem
      (λ k n at. (and_parts (not (length n == 0)) (list_all is_label_byte n) (own_at k n at).spelled).1) (theorem_bytes db ws binds.sound)

  pub labels_are_new : HasNewLabels text (new_theorem db options w)
  labels_are_new =
      all_before (λ n. contains (labels (statements text)) n ≡ false) own_labels w.read.theorem (λ k n at. text_lacks n (own_lacks k n at))
      (text_lacks w.read.theorem (theorem_lacks db book ws binds.sound is_new'))

  pub labels_are_different : has_twice (new_labels (new_theorem db options w)) ≡ false
  labels_are_different =
      none_twice own_labels w.read.theorem
      (λ j k n l d e.
      let a = own_at j n d in
      let b = own_at k n e in
      read_labels_differ db book ws binds.sound (outer_hyps db options w + j) (outer_hyps db options w + k) a.step b.step n (omega (arith, l)) a.stands b.stands a.label_is b.label_is)
      (λ k n at. let o = own_at k n at in other_label db book ws binds.sound is_new' (outer_hyps db options w + k) o.step n (beyond k) o.stands o.label_is)
