-- The laws over the database of a text without a fault.
use Rattle.std.specs.Prelude.{◌≡◌, ◌++◌, ◌<◌, ◌≤◌, ◌⊎◌, ℕ, Bool, true, false, List, ◌∷◌, length, nat_lt, Option, Some, None, refl}
use Rattle.std.proofs.Common.{sym, subst, inl, inr, cond}
use Rattle.mm_base.specs.declared.kinds.Kinds.{Kinds}
use Rattle.mm_model.specs.Book.{Database}
use Rattle.mm_model.specs.BookFacts.{IsDatabase}
use Rattle.model_laws.specs.DatabaseLaws.{HasDatabaseFacts}
use Rattle.model_laws.specs.FrameLaws.{FramesHaveOwnExpressions, MandatoryVariablesStand}
use Rattle.sheet_text.specs.declared.sheet.Sheet.{Sheet}
use Rattle.sheet_text.specs.declared.sheet.SheetItem.TheVariants as item
use Rattle.sheet_text.specs.Layout.{step_names}
use Rattle.solve_model.specs.declared.bound.Bound.{Bound}
use Rattle.solve_model.specs.Solutions.{Valuation, Asked}
use Rattle.solve_model.specs.Verdicts.{Judgement, accepted_in}
use Rattle.written_model.specs.ReadBack.{ReadIsSpellable, SoundIsRead}
use Rattle.written_model.specs.declared.options.Options.{Options}
use Rattle.written_model.specs.Opened.{IsOpened}
use Rattle.fault_lines.specs.Refusals.{at_line, too_much, told_number}
use Rattle.written_model.specs.Written.{Writing, Answer, Answers, wrote, refused, step_tokens}
use Rattle.answer_laws.proofs.Plain.{ArePlain}
use Rattle.answer_laws.proofs.PlainAssertions.{are_plain}
use Rattle.writing_laws.specs.HasNames.{HasNaming}
use Rattle.std.proofs.lemmas.Bool.{cases_lt}
use Rattle.mm_base.specs.Limits.{most_sheet_bytes, most_work_size}
use Rattle.mm_model.specs.Faults.{Fault, fault}
use Rattle.sheet_text.specs.Reads.{Reads, ReadsAs}
use Rattle.sheet_text.specs.TextFaults.{line_fault, text_fault}
use Rattle.solve_model.specs.Bound.{Binds, work_size}
use Rattle.written_model.specs.Existence.{HasMostGeneral}
use Rattle.writing_laws.specs.HasAnswers.{SolvingIsDecided, BoundIsJudged, AnswerByParts}
use Rattle.writing_laws.proofs.Judging.{has_judgements}
use Rattle.writing_laws.specs.HasBinding.{HasBinding}
use Rattle.writing_laws.specs.HasTrees.{TreesAreTold}
use Rattle.writing_laws.specs.HasSearch.{EachIsSearched}
use Rattle.writing_laws.specs.HasEnd.{HasEnd}
use Rattle.writing_laws.specs.HasWriting.{SolvedIsWritten}
use Rattle.writing_laws.specs.HasLate.{HasLate, SolvedIsAnswered}
use Rattle.writing_laws.specs.HasLong.{AreShort, front_trees, IsFirstLong, LongIsAnswered}
use Rattle.writing_laws.proofs.Binding.{bound_or_fault}
use Rattle.writing_laws.proofs.FewSymbols.{few_symbols}
use Rattle.writing_laws.proofs.NamesExist.{has_naming}
use Rattle.writing_laws.proofs.Finding.{has_search}
use Rattle.writing_laws.proofs.Ending.{end_decided}
use Rattle.writing_laws.proofs.WritingExists.{has_writing}
use Rattle.writing_laws.proofs.LateFaults.{has_late}
use Rattle.writing_laws.proofs.TreesTold.{trees_told, two_decided}
use Rattle.writing_laws.proofs.LongSteps.{front_late}

pub has_end : HasEnd
has_end mode allowed es earlier = end_decided es earlier mode allowed

module _ (has : HasDatabaseFacts) (standing : MandatoryVariablesStand) (owned : FramesHaveOwnExpressions) where
  facts_of : (kinds : Kinds) (db : Database) → IsOpened kinds db → IsDatabase db
  facts_of kinds db o = has kinds o.text db o.is_database o.sound

  plain_in : (kinds : Kinds) (db : Database) → IsOpened kinds db → ArePlain db
  plain_in kinds db o = are_plain kinds o.text db o.is_database o.sound (facts_of kinds db o) standing owned

  pub leaves_named : (kinds : Kinds) (db : Database) (bound : Bound) → HasNaming kinds db bound
  leaves_named kinds db bound before ts o writable = has_naming db (few_symbols kinds db o) bound before (facts_of kinds db o).grammar ts writable

  pub each_searched : (kinds : Kinds) (db : Database) → EachIsSearched kinds db
  each_searched kinds db place mode allowed es e o = has_search db (plain_in kinds db o) place mode allowed es e

  pub solved_written : ReadIsSpellable → SolvedIsWritten
  solved_written spellable db text options read bound judgements value o solved =
      has_writing db (few_symbols options.kinds db o) (facts_of options.kinds db o).grammar (plain_in options.kinds db o) spellable text options read bound judgements value solved

  pub trees_are_told : (kinds : Kinds) (db : Database) → TreesAreTold kinds db
  trees_are_told kinds db place tokens o = trees_told db (facts_of kinds db o).grammar place tokens

  pub late_told : (db : Database) (options : Options) (w : Writing) → HasLate db options w
  late_told db options w o = has_late db options w (λ e k. two_decided db (facts_of options.kinds db o).grammar w.bound.place (step_tokens db options w e))

  pub solved_answered : ReadIsSpellable → SolvedIsAnswered
  solved_answered spellable db text options read bound judgements value o sound solved =
      let h = solved_written spellable db text options read bound judgements value o solved in
      elim (late_told db options h.writing o) [
        | inl none ↦ (wrote h.writing, Answers.written sound h.writes none)
        | inr late ↦ (refused late.0, Answers.late sound h.writes late.1)
      ]

  -- the law of the front over what becomes of the worksheet: read as given, and its parts as given
  pub long_answered : ReadIsSpellable → LongIsAnswered
  long_answered spellable db text options read bound judgements value front rest s name t o sound solved items short long =
      let h = solved_written spellable db text options read bound judgements value o solved in
      let by_read = subst (λ (x : Sheet). Given x h.writing.bound h.writing.value h.writing.judgements) (sym h.read_is)
      (subst (λ (x : Bound). Given read x h.writing.value h.writing.judgements) (sym h.bound_is)
      (subst (λ (x : Valuation). Given read bound x h.writing.judgements) (sym h.value_is)
      (subst (λ (x : List Judgement). Given read bound value x) (sym h.judgements_are) (items, (short, long))))) in
      Answers.late sound h.writes (front_late db options h.writing text front rest s name t h.writes by_read.0 by_read.1)
    where
      Given : Sheet → Bound → Valuation → List Judgement → Type 0
      Given r b v js = (r.items ≡ front ++ item.Step s ∷ rest) × (AreShort db (front_trees db (step_names r) b v js front) × IsFirstLong db (step_names r) b v js front s name t)

  pub each_bound : (kinds : Kinds) (db : Database) → HasBinding kinds db
  each_bound kinds db s o = bound_or_fault db (facts_of kinds db o).grammar s

  pub bound_judged : ReadIsSpellable → (kinds : Kinds) (db : Database) → BoundIsJudged kinds db
  bound_judged spellable kinds db text s bound o reads binds decide = has_judgements db (facts_of kinds db o) s (spellable text s reads).each_step bound binds decide

  no_fault : (b : Bool) (f : Fault) (o : Option Fault) → cond b (Some f) o ≡ None → o ≡ None
  no_fault true f o e = absurd (cc)
  no_fault false f o e = e

  lines_sound : (text : List ℕ) → text_fault text ≡ None → line_fault text ≡ None
  lines_sound text e = no_fault (nat_lt most_sheet_bytes (length text)) (fault 1 50) (line_fault text) e

  module _ (spellable : ReadIsSpellable) (is_read : SoundIsRead) (db : Database) (text : List ℕ) (options : Options) (opened : IsOpened options.kinds db)
      (decide : (s : Sheet) (bound : Bound) → Binds db s bound → SolvingIsDecided db bound)
      (general : (s : Sheet) (bound : Bound) (accepted : List Asked) → HasMostGeneral options.kinds db s bound accepted) where
    abbrev Answered : Type 0
    Answered = (a : Answer) × Answers db text options a

    by_size : text_fault text ≡ None → (s : Sheet) → Reads text s → (bound : Bound) → Binds db s bound → (most_work_size < work_size db bound) ⊎ (work_size db bound ≤ most_work_size) → Answered
    by_size sound s reads bound binds (inl more) = (refused (too_much (told_number (work_size db bound))), Answers.much sound reads binds more)
    by_size sound s reads bound binds (inr within) =
        let j = bound_judged spellable options.kinds db text s bound opened reads binds (decide s bound binds) in
        let g = general s bound (accepted_in j.judgements) opened binds j.candidates j.solvable in
        let read_as : ReadsAs text s = record { read = s; reads = reads; same = refl } in
        solved_answered spellable db text options s bound j.judgements g.0 opened sound (record { reads = read_as; binds = binds; within_limit = within; judged = j.judged; most_general = g.1 })

    by_fault : (o : Option Fault) → text_fault text ≡ o → Answered
    by_fault (Some f) e = (refused (at_line f), Answers.bad_text e)
    by_fault None e =
        let r = is_read text (lines_sound text e) in
        elim (each_bound options.kinds db r.0 opened) [
          | inl f ↦ (refused (at_line f.0), Answers.unbound e r.1 f.1)
          | inr b ↦ by_size e r.0 r.1 b.0 b.1 (cases_lt most_work_size (work_size db b.0))
        ]

  pub answer_by_parts : ReadIsSpellable → SoundIsRead → (db : Database) (text : List ℕ) (options : Options) → AnswerByParts db text options
  answer_by_parts spellable is_read db text options decide general opened = by_fault spellable is_read db text options opened decide general (text_fault text) refl
