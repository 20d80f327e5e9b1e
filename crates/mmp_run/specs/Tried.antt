-- What a trial tells. This is part of the proof, and not of the claim.
use Rattle.std.specs.Prelude.{◌≡◌, ℕ, Bool, List, [], count_by, flat_map, length, map, codes}
use Rattle.std.specs.Borrow.{Bor}
use Rattle.std.specs.Str.{bytes_eq}
use Rattle.call_answers.specs.declared.ending.Ending.{Ending}
use Rattle.call_answers.specs.Endings.{status_of}
use Rattle.call_answers.specs.Trial.{is_fits, letter_count, proof_line, trial_report}
use Rattle.mm_model.specs.Names.{Name}
use Rattle.sheet_text.specs.Layout.{ended}
use Rattle.sheet_unify.specs.declared.outcome.Outcome.{Outcome}
use Rattle.written_model.specs.declared.report.ReportLine.{ReportLine}

abbrev pub is_bracket : Name → Bool
is_bracket t = bytes_eq (codes ")") t

abbrev pub tokens_shown : List (Bor (List ℕ)) → List Name
tokens_shown tokens = map (λ t. t.now) tokens

-- the four lines on an outcome
abbrev pub TellsOutcome : Outcome → Ending → Type 0
TellsOutcome o end = end ≡ record {
  out = flat_map ended (trial_report (length o.report) (count_by (λ (line : ReportLine). is_fits line.verdict) o.report) (letter_count (proof_line o.text)) o.finished);
  log = [];
  status = status_of o.finished;
}
