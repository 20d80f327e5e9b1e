-- A filled worksheet can be spelled.
use Rattle.std.specs.Prelude.{◌≡◌, ◌<◌, ◌&&◌, ◌||◌, not, nat_lt, ℕ, suc, true, List, [], ◌∷◌, length, map, filter_map, slice_index_or, None, refl}
use Rattle.std.specs.List.{AllByRecursion, list_all, last_or}
use Rattle.std.specs.Option.{option_map_or}
use Rattle.std.proofs.Common.{sym, ap, subst, ◌∙◌, arith}
use Rattle.std.proofs.lemmas.Bool.{and_parts, and_from}
use Rattle.std.proofs.lemmas.Bool.Decides.{nat_tests}
use Rattle.mm_model.specs.Labels.{is_label}
use Rattle.mm_model.specs.Names.{Name, has_twice}
use Rattle.mm_model.specs.Book.{Database, label_name}
use Rattle.sheet_text.specs.declared.sheet.Given.{Given}
use Rattle.sheet_text.specs.declared.sheet.Given.TheVariants as given
use Rattle.sheet_text.specs.declared.sheet.SheetStep.{SheetStep}
use Rattle.sheet_text.specs.Forms.{marked_name}
use Rattle.sheet_text.specs.Layout.{step_of_item}
use Rattle.sheet_text.specs.Spellable.{IsSpellable, is_token, is_place_below, is_step_spellable, are_steps_spellable, is_item_spellable}
use Rattle.written_model.specs.declared.options.Options.{Options}
use Rattle.written_model.specs.WrittenSteps.{WrittenStep, WrittenItem, comment, step, steps_in}
use Rattle.written_model.specs.Written.{Writing, written_step, written_item, written_sheet}
use Rattle.again_laws.proofs.Lists.{all_at, get_below, index_from_get}
use Rattle.auto_model.specs.AutoFilled.{filled_sheet}
use Rattle.auto_laws.proofs.Added.{AreGroundBefore, IsAdded}
use Rattle.auto_laws.proofs.UsedItems.{AreUsedFrom}

label_spelled : (names : List Name) (n : ℕ) → AllByRecursion (λ m. is_label m ≡ true) names → n < length names → is_label (slice_index_or names n []) ≡ true
label_spelled names n h l =
    let r = get_below names n l in
    ap is_label (index_from_get names n r.0 [] r.1) ∙ all_at (λ m. is_label m ≡ true) names n r.0 h r.1

module _ (db : Database) (options : Options) (w : Writing) (labels : AllByRecursion (λ n. is_label n ≡ true) db.labels) where
  abbrev es : List WrittenStep
  es = steps_in w.items

  abbrev sheet_steps : List WrittenItem → List SheetStep
  sheet_steps items = filter_map step_of_item (map (written_item db) items)

  places_spelled : (n : ℕ) (gs : List Given) → AreGroundBefore db w.bound.place options.dv w.bound.pairs es n gs → list_all (is_place_below n) gs ≡ true
  places_spelled n [] h = refl
  places_spelled n (given.Gap ∷ gs) h = absurd h
  places_spelled n (given.Step k ∷ gs) h =
      let less = h.0 in
      and_from (nat_lt k n) (list_all (is_place_below n) gs) (let r : nat_lt k n ≡ true = grind (arith, nat_tests, less) in r) (places_spelled n gs h.2)

  added_spelled : (n : ℕ) (e f : WrittenStep) → IsAdded db w.bound.place options.dv w.bound.pairs es n e f → is_step_spellable n (written_step db e) ≡ true
      → is_step_spellable n (written_step db f) ≡ true
  added_spelled n e _ IsAdded.stays h = h
  added_spelled n e _ (IsAdded.added c u k) h =
      let s = written_step db e in
      let one = and_parts _ (list_all is_token s.formula) h in
      let two = and_parts _ (option_map_or is_label s.reference (not s.hyp)) one.0 in
      let three = and_parts (is_label s.name && (s.hyp || not (marked_name s.name).0)) (list_all (is_place_below n) s.places) two.0 in
      and_from _ (list_all is_token s.formula)
      (and_from _ (is_label (label_name db c.label))
      (and_from (is_label s.name && (s.hyp || not (marked_name s.name).0)) (list_all (is_place_below n) c.places) three.0 (places_spelled n c.places k.before))
      (label_spelled db.labels c.label.0 labels k.label_within))
      one.1

  steps_spelled : (n : ℕ) (items behind : List WrittenItem) → AreUsedFrom db options w n items behind → are_steps_spellable n (sheet_steps items) ≡ true
      → are_steps_spellable n (sheet_steps behind) ≡ true
  steps_spelled n [] behind h k = subst (λ is. are_steps_spellable n (sheet_steps is) ≡ true) (sym h) refl
  steps_spelled n (comment lines ∷ items) behind h k = subst (λ is. are_steps_spellable n (sheet_steps is) ≡ true) (sym h.1) (steps_spelled n items h.0 h.2 k)
  steps_spelled n (step e ∷ items) behind h k =
      let both = and_parts (is_step_spellable n (written_step db e)) (are_steps_spellable (suc n) (sheet_steps items)) k in
      subst (λ is. are_steps_spellable n (sheet_steps is) ≡ true) (sym h.2)
      (and_from (is_step_spellable n (written_step db h.0)) (are_steps_spellable (suc n) (sheet_steps h.1)) (added_spelled n e h.0 h.3 both.0) (steps_spelled (suc n) items h.1 h.4 both.1))

  items_spelled : (n : ℕ) (items behind : List WrittenItem) → AreUsedFrom db options w n items behind → list_all is_item_spellable (map (written_item db) items) ≡ true
      → list_all is_item_spellable (map (written_item db) behind) ≡ true
  items_spelled n [] behind h k = subst (λ is. list_all is_item_spellable (map (written_item db) is) ≡ true) (sym h) refl
  items_spelled n (comment lines ∷ items) behind h k =
      let both = and_parts (is_item_spellable (written_item db (comment lines))) (list_all is_item_spellable (map (written_item db) items)) k in
      subst (λ is. list_all is_item_spellable (map (written_item db) is) ≡ true) (sym h.1)
      (and_from (is_item_spellable (written_item db (comment lines))) (list_all is_item_spellable (map (written_item db) h.0)) both.0 (items_spelled n items h.0 h.2 both.1))
  items_spelled n (step e ∷ items) behind h k = subst (λ is. list_all is_item_spellable (map (written_item db) is) ≡ true) (sym h.2) (items_spelled (suc n) items h.1 h.4 k)

  -- what an added use leaves as it is
  module _ {X : Type 0} (part : SheetStep → X)
      (same : (n : ℕ) (e f : WrittenStep) → IsAdded db w.bound.place options.dv w.bound.pairs es n e f → part (written_step db e) ≡ part (written_step db f)) where
    pub parts_same : (n : ℕ) (items behind : List WrittenItem) → AreUsedFrom db options w n items behind → map part (sheet_steps items) ≡ map part (sheet_steps behind)
    parts_same n [] behind h = ap (λ is. map part (sheet_steps is)) (sym h)
    parts_same n (comment lines ∷ items) behind h = parts_same n items h.0 h.2 ∙ ap (λ is. map part (sheet_steps is)) (sym h.1)
    parts_same n (step e ∷ items) behind h =
        ap (λ x. x ∷ map part (sheet_steps items)) (same n e h.0 h.3) ∙ ap (λ xs. part (written_step db h.0) ∷ xs) (parts_same (suc n) items h.1 h.4)
        ∙ ap (λ is. map part (sheet_steps is)) (sym h.2)

  name_same : (n : ℕ) (e f : WrittenStep) → IsAdded db w.bound.place options.dv w.bound.pairs es n e f → e.name ≡ f.name
  name_same n e _ IsAdded.stays = refl
  name_same n e _ (IsAdded.added c u k) = refl

  hyp_same : (n : ℕ) (e f : WrittenStep) → IsAdded db w.bound.place options.dv w.bound.pairs es n e f → e.hyp ≡ f.hyp
  hyp_same n e _ IsAdded.stays = refl
  hyp_same n e _ (IsAdded.added c u k) = refl

  pub filled_spelled : (used : List WrittenItem) → AreUsedFrom db options w 0 w.items used → IsSpellable (written_sheet db options w) → IsSpellable (filled_sheet db options w used)
  filled_spelled used h k =
      let names = parts_same (λ (t : SheetStep). t.name) name_same 0 w.items used h in
      let hyps = parts_same (λ (t : SheetStep). t.hyp) hyp_same 0 w.items used h in
      record {
        theorem = k.theorem;
        loc = k.loc;
        each_step = steps_spelled 0 w.items used h k.each_step;
        each_item = items_spelled 0 w.items used h k.each_item;
        names_differ = ap has_twice (sym names) ∙ k.names_differ;
        qed_last = ap (last_or None) (sym names) ∙ k.qed_last;
        qed_no_hyp = ap (last_or None) (sym hyps) ∙ k.qed_no_hyp;
        each_pair = k.each_pair;
      }
