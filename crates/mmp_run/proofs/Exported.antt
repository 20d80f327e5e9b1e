-- From an accepted proof and what came of its worksheet to the ending of `export`.
use Rattle.std.proofs.Common.{◌≡◌, ◌≢◌, ℕ, List, [], Bool, true, false, Option, Some, None, Result, Ok, Err, IfOk, IfSome, IsSome, ◌∙◌, sym, ap, subst, slice_index_or}
use Rattle.std.proofs.lemmas.Option.{get_or_from_slice_get}
use Rattle.call_answers.specs.declared.ending.Ending.{Ending}
use Rattle.call_answers.specs.Endings.{Shows}
use Rattle.call_answers.specs.Exports.{IsAccepted, GivesExport, ShowsFinished}
use Rattle.call_answers.specs.Verified as said
use Rattle.export_model.specs.Exported.{export_text}
use Rattle.fault_lines.specs.FaultLines.{refusal_line}
use Rattle.fault_lines.specs.Refusals.{Refusal}
use Rattle.headline_laws.specs.Exported.{AnswerIsExported}
use Rattle.mm_base.specs.declared.errors.Memory as memory
use Rattle.mm_base.specs.declared.status.Status.TheVariants as status
use Rattle.mm_base.specs.declared.symbols.Label.{Label}
use Rattle.mm_database.specs.Opened.{Opened, IsOpened}
use Rattle.mm_frames.specs.Contents.{Contents}
use Rattle.mm_model.specs.Book.{Database}
use Rattle.mm_model.specs.Names.{Name, label_named}
use Rattle.mm_model.specs.Statements.{statements, labels}
use Rattle.mmp_run.specs.declared.verify.Refusal as refusals
use Rattle.mmp_run.specs.declared.verify.Refusal.TheVariants as refusal_of_proof
use Rattle.mmp_run.specs.Exported.{IsExported, exported, refused as not_exported}
use Rattle.mmp_run.specs.Refusals.{refusal}
use Rattle.mmp_run.specs.Verdicts.{IsAcceptedProof, told_refusal}
use Rattle.mmp_run.specs.Verify.{ending_of}
use Rattle.mmp_run.proofs.Refusals.{refuses}
use Rattle.mmp_run.proofs.Theorems.{named_by}
use Rattle.mmp_run.proofs.Unified.{book}
use Rattle.proof_export.specs.Proofs.{HasProof}
use Rattle.proof_model.specs.declared.code.Code.{Code}
use Rattle.proof_model.specs.declared.theorem.Theorem.{Theorem}
use Rattle.proof_model.specs.DatabaseProofs.{theorem_of_frame}
use Rattle.push_laws.proofs.ActiveHyps.{label_stands_at}
use Rattle.sheet_unify.specs.Answered.{IsOutcome, IsFaultOf, IsWritten, refusal_of}
use Rattle.sheet_unify.specs.declared.faults.UnifyFault.{UnifyFault}
use Rattle.sheet_unify.specs.declared.outcome.Outcome.{Outcome}
use Rattle.written_model.specs.declared.options.Options.{Options}
use Rattle.written_model.specs.Written.{Answer, Answers, Writing, wrote, refused}

-- ---- a theorem and its worksheet

abbrev pub theorem_at : (text name : List ℕ) (l : Label) (code : Code) → IsAcceptedProof text name l code → Theorem
theorem_at text name l code p = theorem_of_frame (statements text) p.theorem.frame

pub has_proof : (options : Options) (text name : List ℕ) (d : Opened) (l : Label) (code : Code) → IsOpened options.kinds text d → IsAcceptedProof text name l code → HasProof options.kinds d l code
has_proof options text name d l code is p = record { text = text; opened = is; frame = p.theorem.frame; frame_is = p.theorem.frame_is; accepts = p.accepts }

is_accepted : (options : Options) (text name : List ℕ) (d : Opened) (l : Label) (code : Code) (p : IsAcceptedProof text name l code)
    → IsAccepted text (book options text d) name (theorem_at text name l code p) code
is_accepted options text name d l code p = record {
  words = p.theorem.words;
  is_theorem = named_by (statements text) name l p.theorem;
  sound = p.sound;
  is_code = p.is_code;
  accepts = p.accepts;
}

-- the name of a label
named_at : (names : List Name) (name : Name) (l : Label) → label_named names name ≡ Some l → slice_index_or names l.0 [] ≡ name
named_at names name l e = get_or_from_slice_get names l.0 name [] (label_stands_at names name l e)

name_at : (options : Options) (text name : List ℕ) (d : Opened) (l : Label) (code : Code) → IsOpened options.kinds text d → IsAcceptedProof text name l code
    → slice_index_or d.contents.labels l.0 [] ≡ name
name_at options text name d l code is p =
    ap (λ (c : Contents). slice_index_or c.labels l.0 []) is.contents ∙ named_at (labels (statements text)) name l p.theorem.label_is

-- the worksheet, by the theorem's name
pub sheet_at : (options : Options) (text name : List ℕ) (d : Opened) (l : Label) (code : Code) → IsOpened options.kinds text d → (p : IsAcceptedProof text name l code) → (sheet : List ℕ)
    → sheet ≡ export_text (book options text d) (theorem_at text name l code p) (slice_index_or d.contents.labels l.0 []) code
    → sheet ≡ export_text (book options text d) (theorem_at text name l code p) name code
sheet_at options text name d l code is p sheet e =
    e ∙ ap (λ (n : List ℕ). export_text (book options text d) (theorem_at text name l code p) n code) (name_at options text name d l code is p)

-- ---- what came of it

abbrev pub AllExport : Type 0
AllExport = (text : List ℕ) (db : Database) (options : Options) (name : Name) (theorem : Theorem) (code : Code) (answer : Answer) (end : Ending)
    → AnswerIsExported text db options name theorem code answer end

module _ (law : AllExport) (options : Options) (text name : List ℕ) (d : Opened) (l : Label) (code : Code) (is : IsOpened options.kinds text d) (p : IsAcceptedProof text name l code)
    (sheet : List ℕ) (sheet_is : sheet ≡ export_text (book options text d) (theorem_at text name l code p) name code) where
  with_answer : (answer : Answer) (end : Ending) → Answers (book options text d) sheet options answer
      → GivesExport (book options text d) options name answer end → IsExported options text name end
  with_answer answer end answers gives =
      exported {db = book options text d} {t = theorem_at text name l code p} {code = code} is.database (is_accepted options text name d l code p)
      (law text (book options text d) options name (theorem_at text name l code p) code answer end is.no_fault is.database (is_accepted options text name d l code p)
      (subst (λ (t : List ℕ). Answers (book options text d) t options answer) sheet_is answers) gives)

  pub outcome_exports : (outcome : Outcome) (end : Result Ending memory.Memory) → IsOutcome (book options text d) sheet options outcome
      → ((w : Writing) → IsWritten (book options text d) options w outcome → IfOk end (ShowsFinished (book options text d) options name w w.finished))
      → IfOk end (IsExported options text name)
  outcome_exports outcome (Err e) is_outcome shows = tt
  outcome_exports outcome (Ok end) is_outcome shows = with_answer (wrote is_outcome.writing) end is_outcome.answers (shows is_outcome.writing is_outcome.written)

  told : (r : Option Refusal) (end : Ending) → IsSome r → IfSome r (λ q. Answers (book options text d) sheet options (refused q))
      → IfSome r (λ q. end ≡ refusal status.Proof (refusal_line q)) → IsExported options text name end
  told None end some answers says = let clash : false ≡ true = some in absurd (cc)
  told (Some r) end some answers says = with_answer (refused r) end answers (refuses end status.Proof (refusal_line r) says)

  pub fault_exports : (fault : UnifyFault) (end : Result Ending memory.Memory) → IsFaultOf (book options text d) sheet options fault
      → IfOk end (λ e. IsSome (refusal_of fault)) → IfOk end (λ e. IfSome (refusal_of fault) (λ r. e ≡ refusal status.Proof (refusal_line r)))
      → IfOk end (IsExported options text name)
  fault_exports fault (Err e) answers some says = tt
  fault_exports fault (Ok end) answers some says = told (refusal_of fault) end some answers says

-- ---- the ending

pub shows_finished : (db : Database) (options : Options) (name : Name) (w : Writing) (b : Bool) (end : Result Ending memory.Memory) → b ≡ w.finished → b ≡ true
    → IfOk end (Shows db options w) → IfOk end (ShowsFinished db options name w w.finished)
shows_finished db options name w b (Err e) is done shows = tt
shows_finished db options name w b (Ok end) is done shows = subst (λ (f : Bool). ShowsFinished db options name w f end) (sym done ∙ is) shows

-- ---- a proof that is not accepted

not_accepted : (r : refusals.Refusal) → told_refusal r ≢ said.accepted
not_accepted refusal_of_proof.NoTheorem e = cc
not_accepted (refusal_of_proof.BadCode f) e = cc
not_accepted (refusal_of_proof.BadProof f) e = cc

pub refusal_exports : (options : Options) (text name : List ℕ) (r : refusals.Refusal) (end : Result Ending memory.Memory) → said.IsVerdict text name (told_refusal r)
    → IfOk end (λ e. e ≡ ending_of name (told_refusal r)) → IfOk end (IsExported options text name)
refusal_exports options text name r (Err e) is says = tt
refusal_exports options text name r (Ok end) is says = not_exported (told_refusal r) is (not_accepted r) says
