-- Two replies to one action on one text are the same.
use Rattle.std.specs.Prelude.{◌≡◌, ℕ, true, false, List, Option, Some, None, refl}
use Rattle.std.proofs.Common.{sym, ap, ◌∙◌}
use Rattle.answer_laws.proofs.OneWriting.{same_parts}
use Rattle.answer_laws.proofs.PlainAssertions.{are_plain}
use Rattle.answer_laws.proofs.SameText.{SameParts}
use Rattle.edit_laws.proofs.OneSuggestion.{one_suggestion}
use Rattle.fault_lines.specs.FaultLines.{refusal_line}
use Rattle.edit_model.specs.declared.request.Action.{Action}
use Rattle.edit_model.specs.declared.request.Action.TheVariants as action
use Rattle.edit_model.specs.Sessions.{IsReply, refusal, is_change, error_reply, unify_reply}
use Rattle.edit_laws.specs.OtherSheets.{RepliesAreOne}
use Rattle.answer_laws.proofs.OneAnswer.{answers_one}
use Rattle.model_laws.specs.DatabaseLaws.{HasDatabaseFacts}
use Rattle.model_laws.specs.FrameLaws.{FramesHaveOwnExpressions, MandatoryVariablesStand}
use Rattle.mm_model.specs.Book.{Database}
use Rattle.mm_model.specs.Names.{Name}
use Rattle.serde_json.specs.Data.{Data}
use Rattle.sheet_laws.specs.ReadAgain.{ReadsAsOne}
use Rattle.written_model.specs.declared.options.Options.{Options}
use Rattle.written_model.specs.Opened.{IsOpened}
use Rattle.written_model.specs.Written.{Writing, Writes, Answer, Answers, wrote, refused, written_text, written_log}
use Rattle.written_model.specs.WrittenAgain.{AnswersAreOne, SameAnswer}

writes_of : (db : Database) (text : List ℕ) (options : Options) (w : Writing) → Answers db text options (wrote w) → Writes db text options w
writes_of db text options w (Answers.written e h l) = h

-- an action that looks at an open sheet is not refused
looks : (text : List ℕ) (asked : Action) → is_change asked ≡ false → refusal (Some text) asked ≡ None
looks text (action.Open new) e = absurd (cc)
looks text (action.Edit from to new) e = absurd (cc)
looks text action.Close e = absurd (cc)
looks text action.Unify e = refl
looks text (action.Suggest step) e = refl

module _ (db : Database) (options : Options) (one : (text : List ℕ) → AnswersAreOne db text options) (opened : IsOpened options.kinds db)
    (parts : (text : List ℕ) (w v : Writing) → Writes db text options w → Writes db text options v → SameParts w v) (name : Name) where
  answers_same : (text : List ℕ) (a b : Answer) → Answers db text options a → Answers db text options b → SameAnswer db options a b
  answers_same text a b h k = one text a b opened h k

  one_reply : (sheet : Option (List ℕ)) (asked : Action) (d e : Data) → IsReply db options name sheet asked d → IsReply db options name sheet asked e → d ≡ e
  one_reply sheet asked d e (IsReply.refuses {why = x} h) (IsReply.refuses {why = y} k) = let same : Some x ≡ Some y = sym h ∙ k in let why : x ≡ y = cc in ap (error_reply name) why
  one_reply sheet asked d e (IsReply.refuses {why = x} h) (IsReply.changes k c) = let bad : Some x ≡ None = sym h ∙ k in absurd (cc)
  one_reply (Some text) asked d e (IsReply.refuses {why = x} h) (IsReply.has_fault c a) = let bad : Some x ≡ None = sym h ∙ looks text asked c in absurd (cc)
  one_reply (Some text) asked d e (IsReply.refuses h) (IsReply.unifies a) = absurd (cc)
  one_reply (Some text) asked d e (IsReply.refuses h) (IsReply.suggests a s) = absurd (cc)
  one_reply sheet asked d e (IsReply.changes h c) (IsReply.refuses {why = x} k) = let bad : Some x ≡ None = sym k ∙ h in absurd (cc)
  one_reply sheet asked d e (IsReply.changes h c) (IsReply.changes k b) = refl
  one_reply (Some text) asked d e (IsReply.changes h c) (IsReply.has_fault b a) = let bad : true ≡ false = sym c ∙ b in absurd (cc)
  one_reply (Some text) asked d e (IsReply.changes h c) (IsReply.unifies a) = absurd (cc)
  one_reply (Some text) asked d e (IsReply.changes h c) (IsReply.suggests a s) = absurd (cc)
  one_reply (Some text) asked d e (IsReply.has_fault c a) (IsReply.refuses {why = x} k) = let bad : Some x ≡ None = sym k ∙ looks text asked c in absurd (cc)
  one_reply (Some text) asked d e (IsReply.has_fault c a) (IsReply.changes k b) = let bad : true ≡ false = sym b ∙ c in absurd (cc)
  one_reply (Some text) asked d e (IsReply.has_fault {r = r} c a) (IsReply.has_fault {r = q} b f) = ap (λ x. error_reply name (refusal_line x)) (answers_same text (refused r) (refused q) a f)
  one_reply (Some text) asked d e (IsReply.has_fault {r = r} c a) (IsReply.unifies {w = v} b) = absurd (answers_same text (refused r) (wrote v) a b)
  one_reply (Some text) asked d e (IsReply.has_fault {r = r} c a) (IsReply.suggests {w = v} b s) = absurd (answers_same text (refused r) (wrote v) a b)
  one_reply (Some text) asked d e (IsReply.unifies a) (IsReply.refuses k) = absurd (cc)
  one_reply (Some text) asked d e (IsReply.unifies a) (IsReply.changes k c) = absurd (cc)
  one_reply (Some text) asked d e (IsReply.unifies {w = w} a) (IsReply.has_fault {r = q} c b) = absurd (answers_same text (wrote w) (refused q) a b)
  one_reply (Some text) asked d e (IsReply.unifies {w = w} a) (IsReply.unifies {w = v} b) =
      let same = answers_same text (wrote w) (wrote v) a b in
      ap (λ f. unify_reply name f (written_log db options w) (written_text db options w)) same.finished
      ∙ ap (λ log. unify_reply name v.finished log (written_text db options w)) same.log ∙ ap (unify_reply name v.finished (written_log db options v)) same.text
  one_reply (Some text) asked d e (IsReply.suggests a s) (IsReply.refuses k) = absurd (cc)
  one_reply (Some text) asked d e (IsReply.suggests a s) (IsReply.changes k c) = absurd (cc)
  one_reply (Some text) asked d e (IsReply.suggests {w = w} a s) (IsReply.has_fault {r = q} c b) = absurd (answers_same text (wrote w) (refused q) a b)
  one_reply (Some text) asked d e (IsReply.suggests {w = w} {step = step} a s) (IsReply.suggests {w = v} b t) =
      one_suggestion db options w v (parts text w v (writes_of db text options w a) (writes_of db text options v b)) name step d e s t

pub reply_is_one : HasDatabaseFacts → MandatoryVariablesStand → FramesHaveOwnExpressions → ReadsAsOne → RepliesAreOne
reply_is_one has standing owned reads_one db options name sheet asked d e opened h k =
    let facts = has options.kinds opened.text db opened.is_database opened.sound in
    let plain = are_plain options.kinds opened.text db opened.is_database opened.sound facts standing owned in
    one_reply db options (λ text. answers_one has standing owned reads_one db text options) opened
    (λ text w v one two. same_parts db facts.grammar plain text options w v one two reads_one) name sheet asked d e h k
