-- Two answers to a worksheet whose steps are filled are one.
use Rattle.std.specs.Prelude.{◌≡◌, ◌&&◌, ℕ, suc, Bool, List, [], ◌∷◌, map, is_none, Option, Some, None}
use Rattle.std.proofs.Common.{sym, ap, subst, ◌∙◌}
use Rattle.std.proofs.lemmas.Bool.{both_ways}
use Rattle.mm_model.specs.Book.{Database, label_name}
use Rattle.model_laws.specs.DatabaseLaws.{HasDatabaseFacts}
use Rattle.model_laws.specs.FrameLaws.{FramesHaveOwnExpressions, MandatoryVariablesStand}
use Rattle.sheet_text.specs.declared.sheet.Sheet.{Sheet}
use Rattle.sheet_text.specs.declared.sheet.SheetItem.{SheetItem}
use Rattle.sheet_text.specs.Layout.{layout}
use Rattle.sheet_laws.specs.ReadAgain.{ReadsAsOne}
use Rattle.written_model.specs.declared.options.Options.{Options}
use Rattle.written_model.specs.Found.{Choice}
use Rattle.written_model.specs.Opened.{IsOpened}
use Rattle.written_model.specs.WrittenSteps.{WrittenStep, WrittenItem, comment, step}
use Rattle.written_model.specs.Written.{Writing, Writes, Answer, Answers, wrote, refused, written_item, written_sheet}
use Rattle.written_model.specs.WrittenAgain.{AnswersAreOne, SameAnswer}
use Rattle.answer_laws.proofs.OneWriting.{same_parts}
use Rattle.answer_laws.proofs.PlainAssertions.{are_plain}
use Rattle.answer_laws.proofs.SameText.{SameParts, same_sheet}
use Rattle.answer_laws.proofs.SearchedAlike.{bare_step, bare_items}
use Rattle.auto_model.specs.AutoFilled.{is_unfilled, IsAutoChoice, IsFilled, AreFilledFrom, filled_sheet, AutoAnswers}
use Rattle.auto_answer_laws.specs.OneFilled.{FilledAnswersAreOne}
use Rattle.auto_answer_laws.proofs.OneChoice.{one_choice}

abbrev to_be_filled : WrittenStep → Bool
to_be_filled e = is_none e.reference && is_unfilled e

-- the step with a choice
abbrev with_choice : Database → WrittenStep → Choice → WrittenStep
with_choice db e c = record e { reference = Some (label_name db c.label); places = c.places }

module _ (db : Database) (options : Options) (w v : Writing) (parts : SameParts w v) where
  module _ (k : ℕ) (e f : WrittenStep) (alike : bare_step e ≡ bare_step f) where
    abbrev Same : WrittenStep → WrittenStep → Type 0
    Same x y = written_item db (step x) ≡ written_item db (step y)

    unfilled_same : Same e f
    unfilled_same = ap (λ (x : WrittenStep). written_item db (step x)) alike

    filled_same : (c d : Choice) → c ≡ d → Same (with_choice db e c) (with_choice db f d)
    filled_same c d same = ap (λ (x : WrittenStep). written_item db (step (with_choice db x c))) alike ∙ ap (λ x. written_item db (step (with_choice db f x))) same

    asked_same : to_be_filled e ≡ to_be_filled f
    asked_same = ap to_be_filled alike

    choice_same : (o q : Option Choice) → IsAutoChoice db options w k e o → IsAutoChoice db options v k f q → o ≡ q
    choice_same o q h i = one_choice db options w v parts k e f (ap (λ (x : WrittenStep). x.tree) alike) o q h i

    one_step : (x y : WrittenStep) → IsFilled db options w k e x → IsFilled db options v k f y → Same x y
    one_step _ _ (IsFilled.stays h) (IsFilled.stays i) = unfilled_same
    one_step _ _ (IsFilled.stays h) (IsFilled.none i c) = absurd (both_ways (to_be_filled f) (sym asked_same ∙ h) i)
    one_step _ _ (IsFilled.stays h) (IsFilled.filled d i c) = absurd (both_ways (to_be_filled f) (sym asked_same ∙ h) i)
    one_step _ _ (IsFilled.none h c) (IsFilled.stays i) = absurd (both_ways (to_be_filled f) i (sym asked_same ∙ h))
    one_step _ _ (IsFilled.none h c) (IsFilled.none i d) = unfilled_same
    one_step _ _ (IsFilled.none h o) (IsFilled.filled d i q) = let bad : None ≡ Some d = choice_same None (Some d) o q in absurd (cc)
    one_step _ _ (IsFilled.filled c h o) (IsFilled.stays i) = absurd (both_ways (to_be_filled f) i (sym asked_same ∙ h))
    one_step _ _ (IsFilled.filled c h o) (IsFilled.none i q) = let bad : Some c ≡ None = choice_same (Some c) None o q in absurd (cc)
    one_step _ _ (IsFilled.filled c h o) (IsFilled.filled d i q) =
        let both : Some c ≡ Some d = choice_same (Some c) (Some d) o q in
        let same : c ≡ d = cc in
        filled_same c d same

  items_same : (k : ℕ) (is js xs ys : List WrittenItem) → bare_items is ≡ bare_items js → AreFilledFrom db options w k is xs → AreFilledFrom db options v k js ys
      → map (written_item db) xs ≡ map (written_item db) ys
  items_same k [] [] xs ys same h i = ap (map (written_item db)) (h ∙ sym i)
  items_same k [] (comment ls ∷ js) xs ys same h i = absurd (cc)
  items_same k [] (step f ∷ js) xs ys same h i = absurd (cc)
  items_same k (comment ls ∷ is) [] xs ys same h i = absurd (cc)
  items_same k (comment ls ∷ is) (step f ∷ js) xs ys same h i = absurd (cc)
  items_same k (step e ∷ is) [] xs ys same h i = absurd (cc)
  items_same k (step e ∷ is) (comment ls ∷ js) xs ys same h i = absurd (cc)
  items_same k (comment ls ∷ is) (comment ms ∷ js) xs ys same h i =
      let lines : ls ≡ ms = cc in
      let rest : bare_items is ≡ bare_items js = cc in
      ap (map (written_item db)) h.1 ∙ ap (λ ns. written_item db (comment ns) ∷ map (written_item db) h.0) lines
      ∙ ap (λ zs. written_item db (comment ms) ∷ zs) (items_same k is js h.0 i.0 rest h.2 i.2) ∙ sym (ap (map (written_item db)) i.1)
  items_same k (step e ∷ is) (step f ∷ js) xs ys same h i =
      let alike : bare_step e ≡ bare_step f = cc in
      let rest : bare_items is ≡ bare_items js = cc in
      ap (map (written_item db)) h.2 ∙ ap (λ z. z ∷ map (written_item db) h.1) (one_step k e f alike h.0 i.0 h.3 i.3)
      ∙ ap (λ zs. written_item db (step i.0) ∷ zs) (items_same (suc k) is js h.1 i.1 rest h.4 i.4) ∙ sym (ap (map (written_item db)) i.2)

  sheets_same : (xs ys : List WrittenItem) → AreFilledFrom db options w 0 w.items xs → AreFilledFrom db options v 0 v.items ys
      → filled_sheet db options w xs ≡ filled_sheet db options v ys
  sheets_same xs ys h i =
      ap (λ (s : Sheet). record s { items = map (written_item db) xs }) (same_sheet db options w v parts)
      ∙ ap (λ (is : List SheetItem). record (written_sheet db options v) { items = is }) (items_same 0 w.items v.items xs ys parts.items h i)

writes_of : (db : Database) (text : List ℕ) (options : Options) (w : Writing) → Answers db text options (wrote w) → Writes db text options w
writes_of db text options w (Answers.written e h l) = h

module _ (db : Database) (options : Options) (one : (text : List ℕ) → AnswersAreOne db text options) (opened : IsOpened options.kinds db) (text : List ℕ)
    (parts : (w v : Writing) → Writes db text options w → Writes db text options v → SameParts w v) where
  one_filled : (a b : Answer) → AutoAnswers db text options a → AutoAnswers db text options b → SameAnswer db options a b
  one_filled a b (AutoAnswers.bad_text {r = r} h) (AutoAnswers.bad_text {r = q} k) = one text (refused r) (refused q) opened h k
  one_filled a b (AutoAnswers.bad_text {r = r} h) (AutoAnswers.again {w = v} ys k g i) = absurd (one text (refused r) (wrote v) opened h k)
  one_filled a b (AutoAnswers.again {w = w} xs h f i) (AutoAnswers.bad_text {r = q} k) = absurd (one text (wrote w) (refused q) opened h k)
  one_filled a b (AutoAnswers.again {w = w} xs h f i) (AutoAnswers.again {w = v} ys k g j) =
      let same = sheets_same db options w v (parts w v (writes_of db text options w h) (writes_of db text options v k)) xs ys f g in
      one (layout (filled_sheet db options v ys) None) a b opened (subst (λ s. Answers db (layout s None) options a) same i) j

pub filled_answer_is_one : HasDatabaseFacts → MandatoryVariablesStand → FramesHaveOwnExpressions → ReadsAsOne
    → ((db : Database) (text : List ℕ) (options : Options) → AnswersAreOne db text options)
    → (db : Database) (text : List ℕ) (options : Options) → FilledAnswersAreOne db text options
filled_answer_is_one has standing owned reads_one one db text options a b opened h k =
    let facts = has options.kinds opened.text db opened.is_database opened.sound in
    let plain = are_plain options.kinds opened.text db opened.is_database opened.sound facts standing owned in
    one_filled db options (λ t. one db t options) opened text (λ w v first second. same_parts db facts.grammar plain text options w v first second reads_one) a b h k
