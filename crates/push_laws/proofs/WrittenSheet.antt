-- The steps of a written worksheet, and the hypotheses that it was read with.
use Rattle.std.specs.Prelude.{◌≡◌, ◌+◌, ◌&&◌, ◌||◌, ℕ, zero, suc, Bool, true, false, not, List, [], ◌∷◌, map, filter, filter_map, nat_lt, slice_get, Contains, Option, Some, None, codes, refl}
use Rattle.std.specs.List.{AllZip, AllByRecursion, list_all, last_or}
use Rattle.std.specs.Option.{option_map_or}
use Rattle.std.specs.Str.{bytes_eq}
use Rattle.std.proofs.Common.{sym, ap, subst, ◌∙◌, cond, arith, inl, inr}
use Rattle.std.proofs.lemmas.Bool.{and_parts, or_parts, or_left, or_right, both_ways, ltb-true}
use Rattle.std.proofs.lemmas.Slice.Eq.{bytes_eq-Decides}
use Rattle.mm_model.specs.Labels.{is_label}
use Rattle.mm_model.specs.Names.{Name, contains, has_twice}
use Rattle.mm_model.specs.Book.{Database}
use Rattle.sheet_text.specs.declared.sheet.Given.{Given}
use Rattle.sheet_text.specs.declared.sheet.Given.TheVariants as given
use Rattle.sheet_text.specs.declared.sheet.Sheet.{Sheet}
use Rattle.sheet_text.specs.declared.sheet.SheetItem.{SheetItem}
use Rattle.sheet_text.specs.declared.sheet.SheetItem.TheVariants as item
use Rattle.sheet_text.specs.declared.sheet.SheetStep.{SheetStep}
use Rattle.sheet_text.specs.Forms.{marked_name}
use Rattle.sheet_text.specs.Layout.{steps, step_of_item, step_names}
use Rattle.sheet_text.specs.Reads.{unnumbered_item}
use Rattle.sheet_text.specs.Spellable.{is_token, is_place_below, is_step_spellable, are_steps_spellable, IsSpellable}
use Rattle.sheet_laws.proofs.PlaceLaws.{last_contains}
use Rattle.sheet_laws.proofs.SpellableLaws.{read_is_spellable}
use Rattle.solve_model.specs.declared.bound.Bound.{Bound}
use Rattle.solve_model.specs.declared.bound.BoundStep.{BoundStep}
use Rattle.solve_model.specs.Bound.{IsBoundStep, HasTree}
use Rattle.solve_model.specs.Solutions.{formula}
use Rattle.written_model.specs.declared.options.Options.{Options}
use Rattle.written_model.specs.WrittenSteps.{WrittenStep, WrittenItem, comment, step, steps_in}
use Rattle.written_model.specs.Named.{name_step, name_tree}
use Rattle.written_model.specs.Found.{IsSearched}
use Rattle.written_model.specs.Written.{Writing, Writes, after_filling, after_naming, ItemIsSearched}
use Rattle.push_laws.proofs.Facts.{IsBook}
use Rattle.push_laws.proofs.FilledSheet.{FillingOf, all_filled}
use Rattle.push_laws.proofs.FilledSteps.{IsHypOf}
use Rattle.push_laws.proofs.Lists.{first, later, nothing, parted, get_contains, contains_get, map_get, get_mapped, zip_get}
use Rattle.push_laws.proofs.ReadHyps.{hyp_steps, filter_from}
use Rattle.push_laws.proofs.Searched.{StepOf, steps_named, named_step, searched_step, searched_trees, searched_hyps}
use Rattle.push_laws.proofs.Solved.{zip_back}
use Rattle.push_laws.proofs.StepProofs.{IsBefore}
use Rattle.push_laws.proofs.TheoremHyps.{IsRead}

-- ---- steps without the numbers of their lines

abbrev pub bare : SheetStep → SheetStep
bare t = record t { line = 0 }

bare_items : (items : List SheetItem) → filter_map step_of_item (map unnumbered_item items) ≡ map bare (filter_map step_of_item items)
bare_items [] = refl
bare_items (item.Comment lines ∷ items) = bare_items items
bare_items (item.Step t ∷ items) = ap (λ ts. bare t ∷ ts) (bare_items items)

bare_filter : (ts : List SheetStep) → map bare (filter (λ (t : SheetStep). t.hyp) ts) ≡ filter (λ (t : SheetStep). t.hyp) (map bare ts)
bare_filter [] = refl
bare_filter (t ∷ ts) = go t.hyp refl (bare_filter ts)
  where
    go : (b : Bool) → t.hyp ≡ b → map bare (filter (λ (x : SheetStep). x.hyp) ts) ≡ filter (λ (x : SheetStep). x.hyp) (map bare ts)
        → map bare (cond b (t ∷ filter (λ (x : SheetStep). x.hyp) ts) (filter (λ (x : SheetStep). x.hyp) ts))
        ≡ cond b (bare t ∷ filter (λ (x : SheetStep). x.hyp) (map bare ts)) (filter (λ (x : SheetStep). x.hyp) (map bare ts))
    go true e h = ap (λ xs. bare t ∷ xs) h
    go false e h = h

bounds_by : (db : Database) (place : ℕ) (xs ys : List SheetStep) (bs : List BoundStep) → map bare xs ≡ map bare ys → AllZip (IsBoundStep db place) xs bs → AllZip (IsBoundStep db place) ys bs
bounds_by db place [] [] bs e a = a
bounds_by db place [] (y ∷ ys) bs e a = absurd cc
bounds_by db place (x ∷ xs) [] bs e a = absurd cc
bounds_by db place (x ∷ xs) (y ∷ ys) [] e a = absurd a
bounds_by db place (x ∷ xs) (y ∷ ys) (b ∷ bs) e a =
    let one : bare x ≡ bare y = cc in
    let rest : map bare xs ≡ map bare ys = cc in (
      record {
        hyp = a.0.hyp ∙ ap (λ (t : SheetStep). t.hyp) one;
        name = a.0.name ∙ ap (λ (t : SheetStep). t.name) one;
        places = a.0.places ∙ ap (λ (t : SheetStep). t.places) one;
        reference = a.0.reference ∙ ap (λ (t : SheetStep). t.reference) one;
        tree = subst (λ (t : SheetStep). HasTree db place t.formula b.tree) one a.0.tree;
      },
      bounds_by db place xs ys bs rest a.1,
    )

zip_bare : (R : WrittenStep → SheetStep → Type 0) (es : List WrittenStep) (xs ys : List SheetStep) → map bare xs ≡ map bare ys → AllZip R es xs
    → AllZip (λ e y. (x : SheetStep) × R e x × (bare x ≡ bare y)) es ys
zip_bare R [] [] [] e a = tt
zip_bare R [] [] (y ∷ ys) e a = absurd cc
zip_bare R [] (x ∷ xs) ys e a = absurd a
zip_bare R (f ∷ es) [] ys e a = absurd a
zip_bare R (f ∷ es) (x ∷ xs) [] e a = absurd cc
zip_bare R (f ∷ es) (x ∷ xs) (y ∷ ys) e a =
    let one : bare x ≡ bare y = cc in
    let rest : map bare xs ≡ map bare ys = cc in
    ((x, a.0, one), zip_bare R es xs ys rest a.1)

-- ---- what can be spelled

spellable_at : (n : ℕ) (ts : List SheetStep) (i : ℕ) (t : SheetStep) → are_steps_spellable n ts ≡ true → slice_get ts i ≡ Some t → is_step_spellable (n + i) t ≡ true
spellable_at n [] i t e at = absurd cc
spellable_at n (x ∷ ts) zero t e at =
    let two = and_parts (is_step_spellable n x) (are_steps_spellable (suc n) ts) e in
    let same : x ≡ t = cc in
    let place : n ≡ n + 0 = omega arith in
    subst (λ (m : ℕ). is_step_spellable m t ≡ true) place (subst (λ y. is_step_spellable n y ≡ true) same two.0)
spellable_at n (x ∷ ts) (suc i) t e at =
    let two = and_parts (is_step_spellable n x) (are_steps_spellable (suc n) ts) e in
    let place : suc n + i ≡ n + suc i = omega arith in
    subst (λ (m : ℕ). is_step_spellable m t ≡ true) place (spellable_at (suc n) ts i t two.1 at)

places_before : (n : ℕ) (gs : List Given) → list_all (is_place_below n) gs ≡ true → AllByRecursion (IsBefore n) gs
places_before n [] e = tt
places_before n (given.Gap ∷ gs) e = (tt, places_before n gs e)
places_before n (given.Step k ∷ gs) e = let two = and_parts (nat_lt k n) (list_all (is_place_below n) gs) e in (ltb-true k n two.0, places_before n gs two.1)

pub record HasLabel (t : SheetStep) : Type 0 where
  pub label : Name
  pub label_is : t.reference ≡ Some label
  pub spelled : is_label label ≡ true

module _ (n : ℕ) (t : SheetStep) (e : is_step_spellable n t ≡ true) where
  spelled_parts : (list_all (is_place_below n) t.places ≡ true) × (option_map_or is_label t.reference (not t.hyp) ≡ true)
  spelled_parts =
      let a =
      and_parts
      (is_label t.name && (t.hyp || not (marked_name t.name).0) && list_all (is_place_below n) t.places
      && option_map_or is_label t.reference (not t.hyp))
      (list_all is_token t.formula) e in
      let b = and_parts (is_label t.name && (t.hyp || not (marked_name t.name).0) && list_all (is_place_below n) t.places) (option_map_or is_label t.reference (not t.hyp)) a.0 in
      let c = and_parts (is_label t.name && (t.hyp || not (marked_name t.name).0)) (list_all (is_place_below n) t.places) b.0 in
      (c.1, b.1)

  label_by : (o : Option Name) → t.reference ≡ o → option_map_or is_label o (not t.hyp) ≡ true → t.hyp ≡ true → HasLabel t
  label_by None i h is = absurd (let bad : false ≡ true = sym (ap not is) ∙ h in cc)
  label_by (Some l) i h is = record { label = l; label_is = i; spelled = h }

  has_label : t.hyp ≡ true → HasLabel t
  has_label is = label_by t.reference refl spelled_parts.1 is

last_stands : (x : List ℕ) (ns : List (List ℕ)) (n : List ℕ) → last_or (Some x) ns ≡ Some n → contains (x ∷ ns) n ≡ true
last_stands x [] n e = let same : x ≡ n = cc in or_left (bytes_eq n x) false ((bytes_eq-Decides n x).1 (sym same))
last_stands x (y ∷ ns) n e = or_right (bytes_eq n x) (contains (y ∷ ns) n) (last_stands y ns n e)

-- the step named `qed`, which is the last, is no hypothesis
no_qed_hyp : (x : SheetStep) (ts : List SheetStep) (n : List ℕ) → has_twice (map (λ (t : SheetStep). t.name) (x ∷ ts)) ≡ false → last_or None (map (λ (t : SheetStep). t.name) (x ∷ ts)) ≡ Some n
    → last_or None (map (λ (t : SheetStep). t.hyp) (x ∷ ts)) ≡ Some false → (t : SheetStep) → Contains (x ∷ ts) t → t.name ≡ n → t.hyp ≡ false
no_qed_hyp x [] n twice last hyp t c e = elim (parted t x [] c) [
  | inl same ↦ let is : x.hyp ≡ false = cc in ap (λ (y : SheetStep). y.hyp) (sym same) ∙ is
  | inr l ↦ absurd (nothing t l)
]
no_qed_hyp x (y ∷ ts) n twice last hyp t c e =
    let two = or_parts (contains (map (λ (z : SheetStep). z.name) (y ∷ ts)) x.name) (has_twice (map (λ (z : SheetStep). z.name) (y ∷ ts))) twice in
    elim (parted t x (y ∷ ts) c) [
      | inl same ↦
          let named : x.name ≡ n = ap (λ (z : SheetStep). z.name) same ∙ e in
          let there = last_stands y.name (map (λ (z : SheetStep). z.name) ts) n last in
          absurd (both_ways (contains (map (λ (z : SheetStep). z.name) (y ∷ ts)) n) (subst (λ m. contains (map (λ (z : SheetStep). z.name) (y ∷ ts)) m ≡ false) named two.0) there)
      | inr l ↦ no_qed_hyp y ts n two.1 last hyp t l e
    ]

qed_by : (ts : List SheetStep) (n : List ℕ) → has_twice (map (λ (t : SheetStep). t.name) ts) ≡ false → last_or None (map (λ (t : SheetStep). t.name) ts) ≡ Some n
    → last_or None (map (λ (t : SheetStep). t.hyp) ts) ≡ Some false → (t : SheetStep) → Contains ts t → t.name ≡ n → t.hyp ≡ false
qed_by [] n twice last hyp t c e = absurd (nothing t c)
qed_by (x ∷ ts) n twice last hyp t c e = no_qed_hyp x ts n twice last hyp t c e

module _ (db : Database) (book : IsBook db) (text : List ℕ) (options : Options) (w : Writing) (wr : Writes db text options w) where
  abbrev pub sheet : Sheet
  sheet = wr.reads.read

  abbrev pub bound : Bound
  bound = w.bound

  pub spellable : IsSpellable sheet
  spellable = read_is_spellable text sheet wr.reads.reads

  pub same_steps : map bare (steps sheet) ≡ map bare (steps w.read)
  same_steps = sym (bare_items sheet.items) ∙ ap (λ (x : Sheet). filter_map step_of_item x.items) wr.reads.same ∙ bare_items w.read.items

  pub bounds : AllZip (IsBoundStep db bound.place) (steps w.read) bound.steps
  bounds = bounds_by db bound.place (steps sheet) (steps w.read) bound.steps same_steps (subst (λ (n : ℕ). AllZip (IsBoundStep db n) (steps sheet) bound.steps) (sym wr.binds.place) wr.binds.steps)

  -- the step of a number, as it was read
  pub bare_at : (i : ℕ) (t : SheetStep) → slice_get (steps w.read) i ≡ Some t → (u : SheetStep) × (slice_get (steps sheet) i ≡ Some u) × (bare u ≡ bare t)
  bare_at i t at = get_mapped bare (steps sheet) i (bare t) (ap (λ ts. slice_get ts i) same_steps ∙ map_get bare (steps w.read) i t at)

  pub spelled : (i : ℕ) (t : SheetStep) → slice_get (steps w.read) i ≡ Some t → AllByRecursion (IsBefore i) t.places
  spelled i t at =
      let u = bare_at i t at in
      let here : is_step_spellable i u.0 ≡ true =
      subst (λ (n : ℕ). is_step_spellable n u.0 ≡ true) (let e : 0 + i ≡ i = omega arith in e)
      (spellable_at 0 (steps sheet) i u.0 spellable.each_step u.1) in
      subst (AllByRecursion (IsBefore i)) (ap (λ (x : SheetStep). x.places) u.2) (places_before i u.0.places (spelled_parts i u.0 here).0)

  abbrev pub es0 : List WrittenStep
  es0 = steps_in (after_filling db options w)

  abbrev pub es1 : List WrittenStep
  es1 = steps_in (after_naming db options w)

  abbrev pub es : List WrittenStep
  es = steps_in w.items

  pub names_same : step_names w.read ≡ step_names sheet
  names_same = sym (bare_names (steps w.read)) ∙ ap (map (λ (t : SheetStep). t.name)) (sym same_steps) ∙ bare_names (steps sheet)
    where
      bare_names : (ts : List SheetStep) → map (λ (t : SheetStep). t.name) (map bare ts) ≡ map (λ (t : SheetStep). t.name) ts
      bare_names [] = refl
      bare_names (t ∷ ts) = ap (λ ns. t.name ∷ ns) (bare_names ts)

  pub has_qed : contains (step_names w.read) (codes "qed") ≡ true
  has_qed = ap (λ ns. contains ns (codes "qed")) names_same ∙ last_contains (step_names sheet) (codes "qed") spellable.qed_last

  pub filled : (numbers : List ℕ) × FillingOf db book bound w.judgements wr.judged w.value wr.most_general (steps w.read) bounds spelled es0 numbers (steps w.read)
  filled = all_filled db book bound w.judgements wr.judged w.value wr.most_general (steps w.read) bounds spelled (step_names w.read) has_qed w.read.items refl

  abbrev pub Searched : WrittenStep → WrittenStep → Type 0
  Searched e f = IsSearched db bound.place options.dv bound.pairs es1 e f

  zip_items : (xs ys : List WrittenItem) → AllZip (ItemIsSearched db options w) xs ys → AllZip Searched (steps_in xs) (steps_in ys)
  zip_items [] [] a = tt
  zip_items [] (y ∷ ys) a = absurd a
  zip_items (x ∷ xs) [] a = absurd a
  zip_items (comment lines ∷ xs) (y ∷ ys) a = subst (λ i. AllZip Searched (steps_in xs) (steps_in (i ∷ ys))) (sym a.0) (zip_items xs ys a.1)
  zip_items (step e ∷ xs) (y ∷ ys) a = subst (λ i. AllZip Searched (e ∷ steps_in xs) (steps_in (i ∷ ys))) (sym a.0.1) (a.0.2, zip_items xs ys a.1)

  pub zipped : AllZip Searched es1 es
  zipped = zip_items (after_naming db options w) w.items wr.searched

  -- what is known of each written step
  pub written_is : (i : ℕ) (e : WrittenStep) → slice_get es i ≡ Some e → StepOf db book bound w.judgements wr.judged w.value wr.most_general (steps w.read) bounds spelled es i e
  written_is i e at =
      let f = zip_back Searched es1 es i e zipped at in
      let named : slice_get (map (name_step w.names) es0) i ≡ Some f.0 = ap (λ xs. slice_get xs i) (sym (steps_named w.names (after_filling db options w))) ∙ f.1 in
      let o = get_mapped (name_step w.names) es0 i f.0 named in
      let one = named_step db book bound w.judgements wr.judged w.value wr.most_general (steps w.read) bounds spelled w.names es0 i o.0 (filled.1.each i o.0 o.1) in
      let two = subst (λ x. StepOf db book bound w.judgements wr.judged w.value wr.most_general (steps w.read) bounds spelled (map (name_step w.names) es0) i x) o.2 one in
      let three =
      subst (λ xs. StepOf db book bound w.judgements wr.judged w.value wr.most_general (steps w.read) bounds spelled xs i f.0)
      (sym (steps_named w.names (after_filling db options w))) two in
      searched_step db book bound w.judgements wr.judged w.value wr.most_general (steps w.read) bounds spelled options.dv bound.pairs es1 es
      (searched_trees db book bound w.judgements wr.judged w.value wr.most_general (steps w.read) bounds spelled options.dv bound.pairs es1 es1 es zipped) i f.0 e f.2 three

  -- ---- the hypotheses

  abbrev pub written_hyps : List WrittenStep
  written_hyps = filter (λ (e : WrittenStep). e.hyp) es

  named_filter : (xs : List WrittenStep) → filter (λ (e : WrittenStep). e.hyp) (map (name_step w.names) xs) ≡ map (name_step w.names) (filter (λ (e : WrittenStep). e.hyp) xs)
  named_filter [] = refl
  named_filter (x ∷ xs) = go x.hyp (named_filter xs)
    where
      go : (b : Bool) → filter (λ (e : WrittenStep). e.hyp) (map (name_step w.names) xs) ≡ map (name_step w.names) (filter (λ (e : WrittenStep). e.hyp) xs)
          → cond b (name_step w.names x ∷ filter (λ (e : WrittenStep). e.hyp) (map (name_step w.names) xs)) (filter (λ (e : WrittenStep). e.hyp) (map (name_step w.names) xs))
          ≡ map (name_step w.names) (cond b (x ∷ filter (λ (e : WrittenStep). e.hyp) xs) (filter (λ (e : WrittenStep). e.hyp) xs))
      go true h = ap (λ ys. name_step w.names x ∷ ys) h
      go false h = h

  hyps_are : written_hyps ≡ map (name_step w.names) (filter (λ (e : WrittenStep). e.hyp) es0)
  hyps_are =
      searched_hyps db book bound w.judgements wr.judged w.value wr.most_general (steps w.read) bounds spelled options.dv bound.pairs es1 es1 es zipped
      ∙ ap (filter (λ (e : WrittenStep). e.hyp)) (steps_named w.names (after_filling db options w)) ∙ named_filter es0

  -- a written hypothesis with the step that was read
  pub record IsHypRead (e : WrittenStep) (t : SheetStep) : Type 0 where
    pub name : e.name ≡ t.name
    pub reference : e.reference ≡ t.reference
    pub place : ℕ
    pub stands : slice_get (steps w.read) place ≡ Some t
    pub tree : e.tree ≡ name_tree w.names (formula bound w.value place)

  named_zip : (xs : List WrittenStep) (ts : List SheetStep)
      → AllZip (IsHypOf db book bound w.judgements wr.judged w.value wr.most_general (steps w.read) bounds spelled) xs ts
      → AllZip IsHypRead (map (name_step w.names) xs) ts
  named_zip [] [] a = tt
  named_zip [] (t ∷ ts) a = absurd a
  named_zip (x ∷ xs) [] a = absurd a
  named_zip (x ∷ xs) (t ∷ ts) a =
      (record { name = a.0.name; reference = a.0.reference; place = a.0.place; stands = a.0.stands; tree = ap (name_tree w.names) a.0.tree }, named_zip xs ts a.1)

  abbrev pub HypRead : WrittenStep → SheetStep → Type 0
  HypRead e t = (x : SheetStep) × IsHypRead e x × (bare x ≡ bare t)

  pub hyps_read : AllZip HypRead written_hyps (hyp_steps db book sheet wr.binds.sound)
  hyps_read =
      zip_bare IsHypRead written_hyps (filter (λ (t : SheetStep). t.hyp) (steps w.read)) (filter (λ (t : SheetStep). t.hyp) (steps sheet))
      (bare_filter (steps w.read) ∙ ap (filter (λ (t : SheetStep). t.hyp)) (sym same_steps) ∙ sym (bare_filter (steps sheet)))
      (subst (λ xs. AllZip IsHypRead xs (filter (λ (t : SheetStep). t.hyp) (steps w.read))) (sym hyps_are)
      (named_zip (filter (λ (e : WrittenStep). e.hyp) es0) (filter (λ (t : SheetStep). t.hyp) (steps w.read)) filled.1.hyps))

  labelled : (t : SheetStep) → Contains (hyp_steps db book sheet wr.binds.sound) t → HasLabel t
  labelled t c =
      let two = filter_from (λ (x : SheetStep). x.hyp) (steps sheet) t c in
      let at = contains_get (steps sheet) t two.0 in
      has_label (0 + at.0) t (spellable_at 0 (steps sheet) at.0 t spellable.each_step at.1) two.1

  zip_with : (xs : List WrittenStep) (ts : List SheetStep) → ((t : SheetStep) → Contains ts t → HasLabel t) → AllZip HypRead xs ts → AllZip (IsRead db book sheet wr.binds.sound) xs ts
  zip_with [] [] f a = tt
  zip_with [] (t ∷ ts) f a = absurd a
  zip_with (x ∷ xs) [] f a = absurd a
  zip_with (x ∷ xs) (t ∷ ts) f a =
      let l = f t (first t t ts refl) in
      let r = a.0.1 in (
        record {
          name = r.name ∙ ap (λ (y : SheetStep). y.name) a.0.2;
          reference = r.reference ∙ ap (λ (y : SheetStep). y.reference) a.0.2;
          label = l.label;
          label_is = l.label_is;
          spelled = l.spelled;
        },
        zip_with xs ts (λ y c. f y (later y t ts c)) a.1,
      )

  pub hyps_zip : AllZip (IsRead db book sheet wr.binds.sound) written_hyps (hyp_steps db book sheet wr.binds.sound)
  hyps_zip = zip_with written_hyps (hyp_steps db book sheet wr.binds.sound) labelled hyps_read

  -- a hypothesis is not named `qed`
  pub hyp_no_qed : (e : WrittenStep) → Contains written_hyps e → e.name ≡ codes "qed" → ⊥
  hyp_no_qed e c q =
      let at = contains_get written_hyps e c in
      let t = zip_get (IsRead db book sheet wr.binds.sound) written_hyps (hyp_steps db book sheet wr.binds.sound) at.0 e hyps_zip at.1 in
      let two = filter_from (λ (x : SheetStep). x.hyp) (steps sheet) t.0 (get_contains (hyp_steps db book sheet wr.binds.sound) at.0 t.0 t.1) in
      both_ways t.0.hyp (qed_by (steps sheet) (codes "qed") spellable.names_differ spellable.qed_last spellable.qed_no_hyp t.0 two.0 (sym t.2.name ∙ q)) two.1
