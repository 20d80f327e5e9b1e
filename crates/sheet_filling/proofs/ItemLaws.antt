-- The items of a worksheet, filled one after the other.
use Rattle.std.proofs.Common.{◌≡◌, ℕ, suc, ◌+◌, List, [], ◌∷◌, ◌++◌, length, map, slice_get, Some, None, refl, sym, ap, subst, ◌∙◌, arith, append_assoc}
use Rattle.std.proofs.lemmas.List.{append-nil}
use Rattle.mm_base.specs.declared.kinds.Kinds.{Kinds}
use Rattle.mm_database.specs.Books.{database_of}
use Rattle.mm_database.specs.Opened.{Opened, IsOpened}
use Rattle.sheet_text.specs.declared.sheet.Sheet.{Sheet}
use Rattle.sheet_text.specs.declared.sheet.SheetItem.{SheetItem}
use Rattle.sheet_text.specs.declared.sheet.SheetItem.TheVariants as item
use Rattle.sheet_text.specs.Layout.{layout}
use Rattle.written_model.specs.declared.options.Options.{Options}
use Rattle.written_model.specs.Written.{Answers, Writing, written_item, written_sheet, written_step}
use Rattle.written_model.specs.WrittenSteps.{WrittenItem, comment, step, steps_in}
use Rattle.auto_model.specs.AutoFilled.{AreFilledFrom, again}
use Rattle.sheet_filling.specs.declared.written.WrittenFormulas.{WrittenFormulas}
use Rattle.sheet_filling.specs.Filled.{AreFilledTo, AreItemsFilled, IsItemFilled, number_after}
use Rattle.sheet_filling.specs.Filling.{AreOfWriting, FillingIsTheAnswer, ForWriting, IsFilledSheet, IsFilledText}

-- ---- one item more

module _ (d : Opened) (written : WrittenFormulas) (all : List SheetItem) where
  pub none_filled : AreFilledTo d written all all [] 0
  none_filled = record { rest = λ more h. h }

  pub one_filled : (i j : SheetItem) (left filled new : List SheetItem) (k next : ℕ) → AreFilledTo d written all (i ∷ left) filled k → IsItemFilled d written k i j → next ≡ number_after k i
      → new ≡ filled ++ j ∷ [] → AreFilledTo d written all left new next
  one_filled i j left filled new k next so_far is next_is new_is = record {
    rest = λ more h.
        subst (λ xs. AreItemsFilled d written 0 all (xs ++ more)) (sym new_is)
        (subst (AreItemsFilled d written 0 all) (sym (append_assoc filled (j ∷ []) more))
        (so_far.rest (j ∷ more) (j, more, refl, is, subst (λ n. AreItemsFilled d written n left more) next_is h)));
  }

  pub all_filled : (left filled new : List SheetItem) (k : ℕ) → length left ≡ 0 → new ≡ filled → AreFilledTo d written all left filled k → AreItemsFilled d written 0 all new
  all_filled [] filled new k none is so_far = subst (AreItemsFilled d written 0 all) (append-nil filled ∙ sym is) (so_far.rest [] refl)
  all_filled (i ∷ left) filled new k none is so_far = absurd (omega (arith, none))

-- ---- the worksheet that is written

module _ (kinds : Kinds) (text : List ℕ) (d : Opened) (opened : IsOpened kinds text d) (written : WrittenFormulas) (options : Options) (w : Writing) (of : AreOfWriting options w written) where
  abbrev AreWrittenFrom : ℕ → List WrittenItem → List SheetItem → Type 0
  AreWrittenFrom k items behind =
      (more : List WrittenItem) × AreFilledFrom (database_of kinds text d.rows d.parsed) options w k items more × (behind ≡ map (written_item (database_of kinds text d.rows d.parsed)) more)

  filled_from : (k : ℕ) (items : List WrittenItem) → ((j : ℕ) → slice_get (steps_in items) j ≡ slice_get (steps_in w.items) (k + j)) → (behind : List SheetItem)
      → AreItemsFilled d written k (map (written_item (database_of kinds text d.rows d.parsed)) items) behind → AreWrittenFrom k items behind
  filled_from k [] same behind h = ([], refl, h)
  filled_from k (comment lines ∷ items) same behind h =
      let r = filled_from k items same h.1 h.4 in
      (comment lines ∷ r.0, (r.0, refl, r.1), h.2 ∙ ap (λ j. j ∷ h.1) h.3 ∙ ap (λ js. item.Comment lines ∷ js) r.2)
  filled_from k (step e ∷ items) same behind h =
      let db = database_of kinds text d.rows d.parsed in
      let at : slice_get (steps_in w.items) k ≡ Some e = ap (slice_get (steps_in w.items)) (let n : k ≡ k + 0 = omega arith in n) ∙ sym (same 0) in
      let f = h.3.2 kinds text options w e opened of at refl in
      let r = filled_from (suc k) items (λ j. same (suc j) ∙ ap (slice_get (steps_in w.items)) (let n : k + suc j ≡ suc k + j = omega arith in n)) h.1 h.4 in (
        step f.0 ∷ r.0,
        (f.0, r.0, refl, f.2, r.1),
        h.2 ∙ ap (λ j. j ∷ h.1) (h.3.1 ∙ ap (λ s. item.Step s) f.1) ∙ ap (λ js. item.Step (written_step db f.0) ∷ js) r.2,
      )

  pub filled_items : (behind : List SheetItem) → AreItemsFilled d written 0 (map (written_item (database_of kinds text d.rows d.parsed)) w.items) behind → AreWrittenFrom 0 w.items behind
  filled_items behind h = filled_from 0 w.items (λ j. ap (slice_get (steps_in w.items)) (let n : j ≡ 0 + j = omega arith in n)) behind h

pub sheet_filled : (d : Opened) (written : WrittenFormulas) (sheet s : Sheet) (items : List SheetItem) → AreItemsFilled d written 0 sheet.items items → s ≡ record sheet { items = items }
    → ForWriting d written sheet (λ db options w. IsFilledSheet db options w s)
sheet_filled d written sheet s items h is kinds text options w opened of =
    let db = database_of kinds text d.rows d.parsed in
    let r = filled_items kinds text d opened written options w of.formulas items (subst (λ (x : Sheet). AreItemsFilled d written 0 x.items items) of.sheet_is h) in
    (r.0, r.1, is ∙ ap (λ (x : Sheet). record x { items = items }) of.sheet_is ∙ ap (λ js. record (written_sheet db options w) { items = js }) r.2)

pub text_filled : (d : Opened) (written : WrittenFormulas) (sheet s : Sheet) (t : List ℕ) → t ≡ layout s None → ForWriting d written sheet (λ db options w. IsFilledSheet db options w s)
    → ForWriting d written sheet (λ db options w. IsFilledText db options w t)
text_filled d written sheet s t is h kinds text options w opened of =
    let r = h kinds text options w opened of in
    (r.0, r.1, is ∙ ap (λ x. layout x None) r.2)

pub filling_answers : FillingIsTheAnswer
filling_answers db options text w filled answer answers is h = again is.0 answers is.1 (subst (λ t. Answers db t options answer) is.2 h)
