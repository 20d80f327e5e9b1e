-- From the laws on what is written to all that is said of a call.
use Rattle.std.proofs.Common.{◌≡◌, ℕ, List, Bool, true, false, None, refl, sym, ◌∙◌, subst}
use Rattle.mm_base.specs.declared.status.Status.TheVariants as status
use Rattle.mm_model.specs.Book.{Database}
use Rattle.push_laws.specs.WrittenProof.{WrittenProofIsAccepted, UnfinishedHasNoProof}
use Rattle.answer_laws.specs.WrittenReads.{AnswerIsFixed}
use Rattle.headline_laws.specs.Unified.{AnswerIsUnified}
use Rattle.written_model.specs.declared.options.Options.{Options}
use Rattle.call_answers.specs.declared.ending.Ending.{Ending}
use Rattle.call_answers.specs.Endings.{Shows, Unifies, status_of}
use Rattle.written_model.specs.ProvesItself.{IsFixed, ProvesItself, proof_tokens}
use Rattle.written_model.specs.Opened.{IsOpened}
use Rattle.written_model.specs.Written.{Answer, Answers, Writing, Writes, HasNoLateFault, refused, wrote, written}

-- a refusal has neither status
pub not_finished : status.Sheet ≡ status.Finished → ⊥
not_finished e = cc

pub not_unfinished : status.Sheet ≡ status.Unfinished → ⊥
not_unfinished e = cc

pub is_true : (b : Bool) → status_of b ≡ status.Finished → b ≡ true
is_true true e = refl
is_true false e = let clash : status.Unfinished ≡ status.Finished = e in absurd cc

pub is_false : (b : Bool) → status_of b ≡ status.Unfinished → b ≡ false
is_false false e = refl
is_false true e = let clash : status.Finished ≡ status.Unfinished = e in absurd cc

-- a worksheet is written only where it has no fault
pub record IsSound (db : Database) (text : List ℕ) (options : Options) (w : Writing) : Type 0 where
  pub writes : Writes db text options w
  pub late : HasNoLateFault db options w

pub sound_of : (db : Database) (text : List ℕ) (options : Options) (w : Writing) → Answers db text options (wrote w) → IsSound db text options w
sound_of db text options w (written e writes late) = record { writes = writes; late = late }

pub refused_is_other : {r : _} {w : Writing} → refused r ≡ wrote w → ⊥
refused_is_other e = cc

pub same_writing : (w v : Writing) → wrote w ≡ wrote v → w ≡ v
same_writing w v e = cc

module _ (accepted : (db : Database) (text : List ℕ) (options : Options) (w : Writing) → WrittenProofIsAccepted db text options w)
    (without : (db : Database) (text : List ℕ) (options : Options) (w : Writing) → UnfinishedHasNoProof db text options w)
    (fixed : (db : Database) (text : List ℕ) (options : Options) (w : Writing) → AnswerIsFixed db text options w) where
  shown : (db : Database) (text : List ℕ) (options : Options) (w : Writing) (end : Ending) → IsOpened options.kinds db → Answers db text options (wrote w) → IsSound db text options w
      → Shows db options w end → Unifies db options text end
  shown db text options w end opened answers sound shows = record {
    answer = wrote w;
    answers = answers;
    gives = shows;
    proves = λ e. subst (ProvesItself db options) (sym shows.out) (accepted db text options w opened sound.writes sound.late (is_true w.finished (sym shows.status ∙ e)));
    no_proof = λ e. subst (λ (t : List ℕ). proof_tokens t ≡ None) (sym shows.out) (without db text options w opened sound.writes sound.late (is_false w.finished (sym shows.status ∙ e)));
    again = λ v e. subst (λ (x : Writing). IsFixed db options end.out x.finished) (same_writing w v e)
        (subst (λ (t : List ℕ). IsFixed db options t w.finished) (sym shows.out) (fixed db text options w opened sound.writes sound.late));
  }

  pub answer_is_unified : (db : Database) (text : List ℕ) (options : Options) (answer : Answer) (end : Ending) → AnswerIsUnified db text options answer end
  answer_is_unified db text options (wrote w) end opened answers shows = shown db text options w end opened answers (sound_of db text options w answers) shows
  answer_is_unified db text options (refused r) end opened answers refuses = record {
    answer = refused r;
    answers = answers;
    gives = refuses;
    proves = λ e. absurd (not_finished (sym refuses.status ∙ e));
    no_proof = λ e. absurd (not_unfinished (sym refuses.status ∙ e));
    again = λ w e. absurd (refused_is_other e);
  }
