-- What is told of a step of a draft. This is part of the proof, and not of the claim.
use Rattle.std.specs.Prelude.{List, option_and_then, Option, None, Some}
use Rattle.mm_base.specs.declared.symbols.Pair.{Pair}
use Rattle.mm_database.specs.Opened.{Opened}
use Rattle.written_model.specs.declared.options.DvMode.{DvMode}
use Rattle.written_model.specs.declared.report.ReportLine.{ReportLine}
use Rattle.written_model.specs.WrittenSteps.{Use}
use Rattle.written_model.specs.Pairs.{lack_of}
use Rattle.written_model.specs.Report.{step_clash, step_lack}
use Rattle.written_steps.specs.Drafts.{use_in}
use Rattle.written_steps.specs.declared.draft.DraftStep.{DraftStep}
use Rattle.step_report.specs.declared.report.Flaw.{Flaw}

abbrev pub lack_in : DvMode → List Pair → Option Use → Option Pair
lack_in mode allowed None = None
lack_in mode allowed (Some u) = lack_of mode allowed u

-- the clash of a use, and where it has none its lack
abbrev pub flaw_in : DvMode → List Pair → Option Use → Flaw
flaw_in mode allowed o = record { clash = step_clash o; lack = step_lack mode allowed o }

abbrev pub line_by : DraftStep → Flaw → ReportLine
line_by s flaw = record { name = s.name; verdict = s.verdict; reference = s.reference; clash = flaw.clash; lack = flaw.lack }

abbrev pub line_in : Opened → DvMode → List Pair → DraftStep → ReportLine
line_in d mode allowed s = line_by s (flaw_in mode allowed (option_and_then (use_in d) s.by))
