-- From the laws on what is written to all that is said of `export`.
use Rattle.std.proofs.Common.{◌≡◌, ℕ, List, Bool, true, false, refl, sym, ◌∙◌, subst}
use Rattle.mm_base.specs.declared.status.Status.TheVariants as status
use Rattle.mm_model.specs.Book.{Database}
use Rattle.mm_model.specs.Names.{Name}
use Rattle.proof_model.specs.declared.code.Code.{Code}
use Rattle.proof_model.specs.declared.theorem.Theorem.{Theorem}
use Rattle.push_laws.specs.WrittenProof.{WrittenProofIsAccepted}
use Rattle.answer_laws.specs.WrittenReads.{AnswerIsFixed}
use Rattle.export_laws.specs.ExportLaw.{LawOfExport}
use Rattle.headline_laws.specs.Exported.{AnswerIsExported}
use Rattle.headline_laws.proofs.Unified.{IsSound, sound_of}
use Rattle.written_model.specs.declared.options.Options.{Options}
use Rattle.call_answers.specs.declared.ending.Ending.{Ending}
use Rattle.call_answers.specs.Endings.{Shows}
use Rattle.call_answers.specs.Exports.{ShowsFinished}
use Rattle.export_model.specs.Exported.{export_text}
use Rattle.written_model.specs.ProvesItself.{IsFixed, ProvesItself}
use Rattle.written_model.specs.Opened.{IsOpened}
use Rattle.written_model.specs.Written.{Answer, Writing, refused, wrote}

-- a refusal of a proof is no end of a finished worksheet
not_finished : status.Proof ≡ status.Finished → ⊥
not_finished e = cc

-- what is shown with the status of a finished worksheet is finished
record IsShown (db : Database) (options : Options) (w : Writing) (b : Bool) (end : Ending) : Type 0 where
  done : b ≡ true
  shows : Shows db options w end

is_shown : (db : Database) (options : Options) (name : Name) (w : Writing) (b : Bool) (end : Ending) → ShowsFinished db options name w b end
    → end.status ≡ status.Finished → IsShown db options w b end
is_shown db options name w true end shows e = record { done = refl; shows = shows }
is_shown db options name w false end refuses e = absurd (not_finished (sym refuses.status ∙ e))

module _ (accepted : (db : Database) (text : List ℕ) (options : Options) (w : Writing) → WrittenProofIsAccepted db text options w)
    (fixed : (db : Database) (text : List ℕ) (options : Options) (w : Writing) → AnswerIsFixed db text options w) (finished : LawOfExport) where
  proves : (db : Database) (text : List ℕ) (options : Options) (w : Writing) (end : Ending) → IsOpened options.kinds db → IsSound db text options w
      → IsShown db options w w.finished end → ProvesItself db options end.out
  proves db text options w end opened sound s =
      subst (ProvesItself db options) (sym s.shows.out) (accepted db text options w opened sound.writes sound.late s.done)

  again : (db : Database) (text : List ℕ) (options : Options) (w : Writing) (end : Ending) → IsOpened options.kinds db → IsSound db text options w
      → IsShown db options w w.finished end → IsFixed db options end.out true
  again db text options w end opened sound s =
      subst (λ (b : Bool). IsFixed db options end.out b) s.done
      (subst (λ (t : List ℕ). IsFixed db options t w.finished) (sym s.shows.out) (fixed db text options w opened sound.writes sound.late))

  pub answer_is_exported : (book : List ℕ) (db : Database) (options : Options) (name : Name) (theorem : Theorem) (code : Code) (answer : Answer) (end : Ending)
      → AnswerIsExported book db options name theorem code answer end
  answer_is_exported book db options name theorem code (wrote w) end no_fault is_database accepted_proof answers gives =
      let text = export_text db theorem name code in
      let opened : IsOpened options.kinds db = record { text = book; sound = no_fault; is_database = is_database } in
      let sound = sound_of db text options w answers in
      record {
        answer = wrote w;
        answers = answers;
        gives = gives;
        proves = λ e. proves db text options w end opened sound (is_shown db options name w w.finished end gives e);
        again = λ e. again db text options w end opened sound (is_shown db options name w w.finished end gives e);
        finishes = λ x. finished options book db name theorem code (wrote w) no_fault is_database accepted_proof x answers;
      }
  answer_is_exported book db options name theorem code (refused r) end no_fault is_database accepted_proof answers gives = record {
    answer = refused r;
    answers = answers;
    gives = gives;
    proves = λ e. absurd (not_finished (sym gives.status ∙ e));
    again = λ e. absurd (not_finished (sym gives.status ∙ e));
    finishes = λ x. finished options book db name theorem code (refused r) no_fault is_database accepted_proof x answers;
  }
