-- What a call answers: for words that fit no command, for words over no files, for a database with a fault, for a worksheet
-- without a footer, and for one that is finished.
use Rattle.std.specs.Prelude.{◌≡◌, ℕ, Bool, List, [], ◌∷◌, if◌then◌else◌, Some, None, codes, refl}
use Rattle.std.specs.Fmt.{digits}
use Rattle.std.specs.Str.{bytes_eq}
use Rattle.std.proofs.Common.{sym, ap}
use Rattle.call_answers.specs.declared.ending.Ending.{Ending}
use Rattle.call_answers.specs.CallAnswers.{CallAnswer, bad_words, bad_database, bad_worksheet, unified, tried, not_exported, no_files, IsAnswer}
use Rattle.call_answers.specs.CommandLine.{SheetCommand, unify, trial, usage_line}
use Rattle.call_answers.specs.Endings.{Unifies}
use Rattle.call_answers.specs.Trial.{IsTried}
use Rattle.call_answers.specs.Verified.{no_theorem}
use Rattle.fault_lines.specs.FaultLines.{database_line, refusal_line}
use Rattle.fault_lines.specs.Refusals.{at_line}
use Rattle.mm_base.specs.Outside.{Files}
use Rattle.mm_base.specs.declared.status.Status.TheVariants as status
use Rattle.mm_model.specs.Faults.{fault}
use Rattle.mm_model.specs.Names.{Name}
use Rattle.mm_model.specs.Statements.{database_fault}
use Rattle.sheet_text.specs.Layout.{ended}
use Rattle.sheet_text.specs.ReadsExamples.{text}
use Rattle.sheet_text.specs.TextFaults.{text_fault}
use Rattle.written_model.specs.WholeExample.{database_text, db, options, read_text, written_text_is, writing}
use Rattle.written_model.specs.Written.{wrote}
use Rattle.written_model.proofs.WholeDatabase.{is_database}
use Rattle.written_model.proofs.WholeExample.{answers, text_is, proves, fixed}

-- ---- words that fit no command

pub usage : IsAnswer no_files (codes "unify" ∷ codes "P.mm" ∷ []) (record { out = []; log = ended usage_line; status = status.Words })
usage = bad_words (record { out = refl; log = refl; status = refl })

-- ---- words that fit one, over no files, have no answer

nothing : (command : SheetCommand) (is_in_place : Bool) (end : Ending) → CallAnswer no_files (Some (unify command is_in_place)) end → ⊥
nothing command is_in_place end (bad_database named e r) = cc
nothing command is_in_place end (bad_worksheet named e given f r) = cc
nothing command is_in_place end (unified named e given is u) = cc

pub unanswered : (end : Ending) → IsAnswer no_files (codes "unify" ∷ codes "P.mm" ∷ codes "r.mmp" ∷ []) end → ⊥
unanswered end h = nothing _ _ end h

-- ---- a trial over no files has its own answer alone

pub trial_alone : (count : ℕ) (end : Ending) → CallAnswer no_files (Some (trial count)) end → IsTried count end
trial_alone count end (bad_database named e r) = cc
trial_alone count end (bad_worksheet named e given f r) = cc
trial_alone count end (tried is) = is

-- ---- a database in which `wff` is declared twice

abbrev twice : List ℕ
twice = codes "$c wff $. $v wff $."

abbrev files : Files
files name = if bytes_eq name (codes "P.mm") then Some twice else None

abbrev line : List ℕ
line = codes "database error 12 Redeclared at byte 13"

its_line : database_line (fault 13 12) ≡ line
unfolding digits
its_line = refl

its_fault : database_fault twice ≡ Some (fault 13 12)
its_fault = refl

pub refused_database : IsAnswer files (codes "unify" ∷ codes "P.mm" ∷ codes "r.mmp" ∷ []) (record { out = []; log = ended line; status = status.Database })
refused_database = bad_database {database = twice} refl its_fault (record { out = refl; log = ap ended (sym its_line); status = refl })

-- ---- a database without a fault

abbrev words : Name → List Name
words sheet = codes "unify" ∷ codes "--proof=normal" ∷ codes "a.mm" ∷ sheet ∷ []

sound : database_fault database_text ≡ None
sound = refl

-- ---- a worksheet without a footer

abbrev no_footer : List ℕ
no_footer = text (codes "$( <MM> <PROOF_ASST> THEOREM=t LOC_AFTER=?" ∷ codes "qed::any |- ps" ∷ [])

abbrev sheet_files : Files
sheet_files name = if bytes_eq name (codes "a.mm") then Some database_text else (if bytes_eq name (codes "t.mmp") then Some no_footer else None)

footer_fault : text_fault no_footer ≡ Some (fault 3 42)
footer_fault = refl

abbrev missing : List ℕ
missing = codes "sheet error 42 NoFooter at line 3"

footer_line : refusal_line (at_line (fault 3 42)) ≡ missing
unfolding digits
footer_line = refl

pub refused_text : IsAnswer sheet_files (words (codes "t.mmp")) (record { out = []; log = ended missing; status = status.Sheet })
refused_text = bad_worksheet {database = database_text} {sheet = no_footer} refl sound refl footer_fault (record { out = refl; log = ap ended (sym footer_line); status = refl })

-- ---- a finished worksheet

abbrev whole_files : Files
whole_files name = if bytes_eq name (codes "a.mm") then Some database_text else (if bytes_eq name (codes "t.mmp") then Some read_text else None)

abbrev ending : Ending
ending = record { out = written_text_is; log = text (codes "qed fits any" ∷ codes "finished" ∷ []); status = status.Finished }

unifies : Unifies db options read_text ending
unifies = record {
  answer = wrote writing;
  answers = answers;
  gives = record { out = sym text_is; log = refl; status = refl };
  proves = λ e. proves;
  no_proof = λ e. absurd (cc);
  again = fixed;
}

pub finished : IsAnswer whole_files (words (codes "t.mmp")) ending
finished = unified {database = database_text} {sheet = read_text} refl sound refl is_database unifies

-- ---- the label of an axiom has no proof that could be exported

pub exports_no_axiom : IsAnswer whole_files (codes "export" ∷ codes "a.mm" ∷ codes "any" ∷ []) (record { out = []; log = text (codes "no theorem any" ∷ []); status = status.Proof })
exports_no_axiom = not_exported {database = database_text} no_theorem refl sound refl (λ e. cc) (record { out = refl; log = refl; status = refl })
