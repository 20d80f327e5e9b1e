-- From the laws on filled worksheets to all that is said of `auto`.
use Rattle.std.proofs.Common.{◌≡◌, ℕ, List, None, sym, ◌∙◌, subst}
use Rattle.auto_laws.specs.Answered.{FilledHasNoProof, FilledIsFixed, FilledProofIsAccepted}
use Rattle.auto_model.specs.AutoFilled.{AutoAnswers, FillingAgainChangesNothing}
use Rattle.call_answers.specs.declared.ending.Ending.{Ending}
use Rattle.call_answers.specs.Endings.{Shows}
use Rattle.call_answers.specs.Fills.{Fills, IsFilledAgain}
use Rattle.headline_laws.specs.Filled.{AnswerIsFilled}
use Rattle.headline_laws.proofs.Unified.{not_finished, not_unfinished, refused_is_other, is_true, is_false, same_writing}
use Rattle.mm_model.specs.Book.{Database}
use Rattle.written_model.specs.declared.options.Options.{Options}
use Rattle.written_model.specs.Opened.{IsOpened}
use Rattle.written_model.specs.ProvesItself.{IsFixed, ProvesItself, proof_tokens}
use Rattle.written_model.specs.Written.{Answer, Writing, refused, wrote, written_text}

module _ (accepted : (db : Database) (text : List ℕ) (options : Options) (w : Writing) → FilledProofIsAccepted db text options w)
    (without : (db : Database) (text : List ℕ) (options : Options) (w : Writing) → FilledHasNoProof db text options w)
    (fixed : (db : Database) (text : List ℕ) (options : Options) (w : Writing) → FilledIsFixed db text options w) (law : FillingAgainChangesNothing) where
  filled_again : (db : Database) (text : List ℕ) (options : Options) (w : Writing) → IsOpened options.kinds db → AutoAnswers db text options (wrote w)
      → IsFilledAgain db options (written_text db options w)
  filled_again db text options w opened answers =
      let found = law db options text w opened answers in
      record { writing = found.0; answers = found.1; same_text = found.2 }

  shown : (db : Database) (text : List ℕ) (options : Options) (w : Writing) (end : Ending) → IsOpened options.kinds db → AutoAnswers db text options (wrote w)
      → Shows db options w end → Fills db options text end
  shown db text options w end opened answers shows = record {
    answer = wrote w;
    answers = answers;
    gives = shows;
    proves = λ e. subst (ProvesItself db options) (sym shows.out) (accepted db text options w opened answers (is_true w.finished (sym shows.status ∙ e)));
    no_proof = λ e. subst (λ (t : List ℕ). proof_tokens t ≡ None) (sym shows.out) (without db text options w opened answers (is_false w.finished (sym shows.status ∙ e)));
    again = λ v e. subst (λ (x : Writing). IsFixed db options end.out x.finished) (same_writing w v e)
        (subst (λ (t : List ℕ). IsFixed db options t w.finished) (sym shows.out) (fixed db text options w opened answers));
    filled_again = λ v e. subst (IsFilledAgain db options) (sym shows.out) (filled_again db text options w opened answers);
  }

  pub answer_is_filled : (db : Database) (text : List ℕ) (options : Options) (answer : Answer) (end : Ending) → AnswerIsFilled db text options answer end
  answer_is_filled db text options (wrote w) end opened answers shows = shown db text options w end opened answers shows
  answer_is_filled db text options (refused r) end opened answers refuses = record {
    answer = refused r;
    answers = answers;
    gives = refuses;
    proves = λ e. absurd (not_finished (sym refuses.status ∙ e));
    no_proof = λ e. absurd (not_unfinished (sym refuses.status ∙ e));
    again = λ w e. absurd (refused_is_other e);
    filled_again = λ w e. absurd (refused_is_other e);
  }
