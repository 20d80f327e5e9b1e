-- What a draft is written to: its end is decided, its steps have a proof where it is finished, and it is the answer or has a late fault.
use Rattle.std.specs.Prelude.{◌≡◌, ◌↔◌, ℕ, Bool, true, false, IsTrue, List, [], ◌∷◌, map, refl}
use Rattle.std.proofs.Common.{arith, inl, inr, ap, subst, sym, ◌∙◌}
use Rattle.answer_laws.specs.WrittenReads.{AnswerIsFixed}
use Rattle.std.proofs.lemmas.Bool.{cases_lt}
use Rattle.std.proofs.lemmas.Option.{IfSome_then}
use Rattle.fault_lines.specs.Refusals.{Refusal}
use Rattle.mm_model.specs.Book.{Database}
use Rattle.mm_database.specs.Opened.{Opened, IsOpened}
use Rattle.phase_laws.proofs.Ends.{written_is_earlier, finished_is_provable}
use Rattle.sheet_proof.specs.Provable.{IsProvable}
use Rattle.sheet_text.specs.declared.sheet.Sheet.{Sheet}
use Rattle.solve_model.specs.declared.bound.Bound.{Bound}
use Rattle.written_model.specs.declared.options.Options.{Options}
use Rattle.written_model.specs.declared.report.ReportLine.{ReportLine}
use Rattle.written_model.specs.Opened as model
use Rattle.written_model.specs.ProofTrees.{Finished}
use Rattle.written_model.specs.WrittenSteps.{WrittenStep, steps_in, trees}
use Rattle.written_model.specs.ProvesItself.{IsFixed}
use Rattle.written_model.specs.Written.{Writing, Answers, refused, IsLate, HasNoLateFault}
use Rattle.writing_laws.specs.HasEnd.{PlacesAreEarlier}
use Rattle.writing_laws.specs.Decisions.{Decided}
use Rattle.writing_laws.proofs.Ending.{finished_decided}
use Rattle.writing_laws.proofs.LongSteps.{short_not_late}
use Rattle.written_steps.specs.declared.draft.DraftItem.{DraftItem}
use Rattle.written_steps.specs.declared.draft.DraftItem.TheVariants as draft_item
use Rattle.written_steps.specs.declared.draft.DraftStep.{DraftStep}
use Rattle.written_steps.specs.Drafts.{book, drafts_in, items_in}
use Rattle.sheet_unify.specs.declared.faults.UnifyFault.{UnifyFault}
use Rattle.sheet_unify.specs.Answered.{IsOutcome, IsFaultOf, refusal_of}
use Rattle.sheet_unify.specs.Made.{IsBoundSheet, IsDraft, made_of}
use Rattle.sheet_unify.specs.Ended.{HasSoundSteps, IsPrinted, IsMadeOf, AreChecked, IsStepFault, ForMadeOf, IsTextFault, IsKept, IsReported, outcome_from}
use Rattle.sheet_unify.specs.declared.kept.Kept.{Kept}
use Rattle.sheet_unify.specs.declared.printed.Printed.{Printed}
use Rattle.sheet_unify.proofs.AnswerLaws.{none_late}

trees_drafted : (d : Opened) (items : List DraftItem) → map (λ (s : DraftStep). s.tree) (drafts_in items) ≡ trees (steps_in (items_in d items))
trees_drafted d [] = refl
trees_drafted d (draft_item.Comment lines ∷ items) = trees_drafted d items
trees_drafted d (draft_item.Step s ∷ items) = ap (λ ts. s.tree ∷ ts) (trees_drafted d items)

module _ (d : Opened) (options : Options) (sheet : Sheet) (bound : Bound) (items : List DraftItem) (database text : List ℕ) (opened : IsOpened options.kinds database d)
    (bound_sheet : IsBoundSheet (book options.kinds database d) text sheet bound) (draft : IsDraft (book options.kinds database d) d text options sheet bound items) where
  abbrev db : Database
  db = book options.kinds database d

  abbrev es : List WrittenStep
  es = steps_in (items_in d items)

  abbrev Ends : Type 0
  Ends = Finished options.dv bound.pairs es

  abbrev whole : Bool → Writing
  whole finished = made_of sheet bound draft.judgements draft.value draft.names (items_in d items) finished

  is_opened : model.IsOpened options.kinds db
  is_opened = record { text = database; sound = opened.no_fault; is_database = opened.database }

  -- ---- the end is decided

  earlier_with : (finished : Bool) → (IsTrue finished ↔ Ends) → PlacesAreEarlier es
  earlier_with finished ends = written_is_earlier db text options (whole finished) is_opened (draft.writes finished ends)

  -- whether it is finished or not, each place names an earlier step
  pub draft_earlier : PlacesAreEarlier es
  draft_earlier j e k s o = elim (cases_lt k j) [
    | inl l ↦ l
    | inr l ↦
        let no_end : Ends → ⊥ = λ f. let low = earlier_with true ((λ x. f), λ x. refl) j e k s o in omega (arith, low, l) in
        earlier_with false ((λ x. absurd (cc)), λ f. absurd (no_end f)) j e k s o
  ]

  -- ---- what is written, by its end

  made_with : (finished : Bool) → (IsTrue finished ↔ Ends) → IsMadeOf d options sheet bound items database text (whole finished)
  made_with finished ends = record {
    made = record {
      opened = opened;
      writes = draft.writes finished ends;
      fit = draft.fit;
      place_is = refl;
      items_are = refl;
      short = short_not_late db options (whole finished) text (draft.writes finished ends) draft.short;
    };
    read_is = refl;
    bound_is = refl;
  }

  late_answer : (finished : Bool) (ends : IsTrue finished ↔ Ends) (r : Refusal) → IsLate db options (whole finished) r → Answers db text options (refused r)
  late_answer finished ends r h = Answers.late bound_sheet.says.sound (draft.writes finished ends) h

  -- ---- the first fault of the steps

  some_end : Decided Ends → (finished : Bool) × (IsTrue finished ↔ Ends)
  some_end (inl f) = (true, ((λ x. f), λ x. refl))
  some_end (inr n) = (false, ((λ x. absurd (cc)), λ f. absurd (n f)))

  pub step_fault_answered : (f : UnifyFault) → IsStepFault d bound.place items f → IsFaultOf db text options f
  step_fault_answered f h =
      let e = some_end (finished_decided es draft_earlier options.dv bound.pairs) in
      IfSome_then (refusal_of f) h (λ r k. late_answer e.0 e.1 r (k options database text (whole e.0) (made_with e.0 e.1).made))

  -- ---- the answer

  module _ (report : List ReportLine) (finished : Bool) (reported : IsReported d options bound items report finished) where
    ends : IsTrue finished ↔ Ends
    ends = reported.ends database opened draft_earlier

    pub provable : finished ≡ true → IsProvable d es
    provable e = finished_is_provable database text d options (whole finished) opened (draft.writes finished ends) e

    made : IsMadeOf d options sheet bound items database text (whole finished)
    made = made_with finished ends

    sound_steps : AreChecked d bound.place items → HasSoundSteps db options (whole finished)
    sound_steps checked = record {
      no_long = made.made.short;
      no_ambiguous = checked.no_ambiguous options database text (whole finished) made.made;
      not_much = checked.small options database text (whole finished) made.made;
    }

    pub fault_answered : (f : UnifyFault) → AreChecked d bound.place items → IsTextFault d options sheet bound items finished f → IsFaultOf db text options f
    fault_answered f checked h =
        IfSome_then (refusal_of f) h (λ r k. late_answer finished ends r (k database text (whole finished) made refl (sound_steps checked)))

    pub outcome_answered : ((w : Writing) → AnswerIsFixed db text options w) → (p : Printed) (k : Kept) → IsKept bound items k → AreChecked d bound.place items
        → ForMadeOf d options sheet bound items (λ db' w. w.finished ≡ finished → IsPrinted db' options w p)
        → IsOutcome db text options (outcome_from bound p k report finished)
    outcome_answered fixed p k kept checked h =
        let told = h database text (whole finished) made refl in
        let t = told.text_is in
        let s = sound_steps checked in
        let none : HasNoLateFault db options (whole finished) = none_late db options (whole finished) s.no_long s.no_ambiguous s.not_much t.no_long_proof t.not_large in
        record {
          writing = whole finished;
          answers = Answers.written bound_sheet.says.sound (draft.writes finished ends) none;
          written = record {
            place = refl;
            existing = refl;
            sheet = told.sheet;
            proof = told.proof;
            text = t.text;
            report = reported.report_is database opened;
            given = kept.given;
            trees_are = kept.trees_are ∙ trees_drafted d items;
            finished = refl;
          };
          again = subst (λ (x : List ℕ). IsFixed db options x finished) (sym t.text) (fixed (whole finished) is_opened (draft.writes finished ends) none);
        }
