-- The line of a reply to `unify`, from what came of the sheet.
use Rattle.std.proofs.Common.{◌≡◌, ℕ, Bool, List, Option, Some, None, Result, Ok, Err, IfOk, IfSome, IsSomeAnd, option_map, refl, ◌∙◌, ap, subst}
use Rattle.edit_model.specs.declared.request.Action.TheVariants as action
use Rattle.edit_model.specs.Sessions.{IsReply, error_reply, unify_reply}
use Rattle.edit_replies.specs.Lines.{line_of}
use Rattle.edit_unify.specs.Lines.{IsLineOf}
use Rattle.fault_lines.specs.FaultLines.{refusal_line}
use Rattle.fault_lines.specs.Refusals.{Refusal}
use Rattle.mm_base.specs.declared.errors.Memory.{Memory}
use Rattle.mm_model.specs.Book.{Database}
use Rattle.sheet_unify.specs.Answered.{IsOutcome, IsFaultOf, refusal_of}
use Rattle.sheet_unify.specs.declared.faults.UnifyFault.{UnifyFault}
use Rattle.sheet_unify.specs.declared.outcome.Outcome.{Outcome}
use Rattle.written_model.specs.declared.options.Options.{Options}
use Rattle.written_model.specs.Report.{report_lines}
use Rattle.written_model.specs.Written.{Answers, refused, written_text, written_log}

-- the line with other lists of the same elements
pub with_same : (result : Result (List ℕ) Memory) (name : List ℕ) (finished : Bool) (r s : List (List ℕ)) (t u : List ℕ) → r ≡ s → t ≡ u
    → IfOk result (λ line. line ≡ line_of (unify_reply name finished r t)) → IfOk result (λ line. line ≡ line_of (unify_reply name finished s u))
with_same result name finished r s t u rows text h =
    subst (λ x. IfOk result (λ line. line ≡ line_of (unify_reply name finished s x))) text (subst (λ x. IfOk result (λ line. line ≡ line_of (unify_reply name finished x t))) rows h)

module _ (db : Database) (options : Options) (name text : List ℕ) where
  abbrev IsAnswer : List ℕ → Type 0
  IsAnswer line = IsLineOf (IsReply db options name (Some text) action.Unify) line

  outcome_line : (o : Outcome) (line : List ℕ) → IsOutcome db text options o → line ≡ line_of (unify_reply name o.finished (report_lines db o.report o.finished) o.text) → IsAnswer line
  outcome_line o line is e =
      let w = is.writing in
      let end = ap (λ f. unify_reply name f (report_lines db o.report f) o.text) is.written.finished in
      let report = ap (λ r. unify_reply name w.finished (report_lines db r w.finished) o.text) is.written.report in
      let written = ap (λ t. unify_reply name w.finished (written_log db options w) t) is.written.text in
      record {
        reply = unify_reply name w.finished (written_log db options w) (written_text db options w);
        is_reply = IsReply.unifies is.answers;
        is_line = e ∙ ap line_of (end ∙ report ∙ written);
      }

  pub of_outcome : (o : Outcome) (result : Result (List ℕ) Memory) → IsOutcome db text options o
      → IfOk result (λ line. line ≡ line_of (unify_reply name o.finished (report_lines db o.report o.finished) o.text)) → IfOk result IsAnswer
  of_outcome o (Ok line) is e = outcome_line o line is e
  of_outcome o (Err m) is e = tt

  fault_line : (o : Option Refusal) (line : List ℕ) → IfSome o (λ r. Answers db text options (refused r))
      → IsSomeAnd o (λ r. line ≡ line_of (error_reply name (refusal_line r))) → IsAnswer line
  fault_line (Some r) line answers e = record { reply = error_reply name (refusal_line r); is_reply = IsReply.has_fault refl answers; is_line = e }
  fault_line None line answers e = absurd e

  pub of_fault : (fault : UnifyFault) (result : Result (List ℕ) Memory) → IsFaultOf db text options fault
      → IfOk result (λ line. IsSomeAnd (refusal_of fault) (λ r. line ≡ line_of (error_reply name (refusal_line r)))) → IfOk result IsAnswer
  of_fault fault (Ok line) answers e = fault_line (refusal_of fault) line answers e
  of_fault fault (Err m) answers e = tt

-- the line that tells a refusal, in a reply
tells : (o : Option Refusal) (told : List ℕ) (P : List ℕ → Type 0) → option_map refusal_line o ≡ Some told → P told → IsSomeAnd o (λ r. P (refusal_line r))
tells (Some r) told P e h = let same : told ≡ refusal_line r = cc in subst P same h
tells None told P e h = absurd (cc)

pub told_by : (o : Option Refusal) (told name : List ℕ) (result : Result (List ℕ) Memory) → option_map refusal_line o ≡ Some told
    → IfOk result (λ line. line ≡ line_of (error_reply name told)) → IfOk result (λ line. IsSomeAnd o (λ r. line ≡ line_of (error_reply name (refusal_line r))))
told_by o told name (Ok line) e h = tells o told (λ x. line ≡ line_of (error_reply name x)) e h
told_by o told name (Err m) e h = tt
