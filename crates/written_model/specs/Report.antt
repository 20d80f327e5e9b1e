-- The report.
use Rattle.std.specs.Prelude.{ℕ, Bool, List, [], ◌∷◌, ◌++◌, map, if◌then◌else◌, Option, Some, None, is_some, codes}
use Rattle.mm_base.specs.declared.symbols.Sym.{Sym}
use Rattle.mm_base.specs.declared.symbols.Pair.{Pair}
use Rattle.mm_model.specs.Names.{Name}
use Rattle.mm_model.specs.Book.{Database, symbol_name}
use Rattle.sheet_text.specs.Layout.{spaced}
use Rattle.written_model.specs.declared.options.DvMode.{DvMode}
use Rattle.written_model.specs.declared.report.ReportLine.{ReportLine}
use Rattle.written_model.specs.declared.report.ReportVerdict.{ReportVerdict}
use Rattle.written_model.specs.declared.report.ReportVerdict.TheVariants as report
use Rattle.written_model.specs.WrittenSteps.{Use, WrittenStep}
use Rattle.written_model.specs.Pairs.{clash_of, lack_of}

-- the clash of a step that has a use
abbrev pub step_clash : Option Use → Option Sym
step_clash None = None
step_clash (Some u) = clash_of u

-- its lack, where it has no clash
abbrev pub step_lack : DvMode → List Pair → Option Use → Option Pair
step_lack mode allowed None = None
step_lack mode allowed (Some u) = if is_some (clash_of u) then None else lack_of mode allowed u

-- what is reported of a step
abbrev pub report_of : DvMode → List Pair → WrittenStep → ReportLine
report_of mode allowed e = record { name = e.name; verdict = e.verdict; reference = e.reference; clash = step_clash e.by; lack = step_lack mode allowed e.by }

-- ---- its lines

abbrev pub verdict_words : ReportVerdict → List Name
verdict_words report.Hyp = codes "hyp" ∷ []
verdict_words report.Fits = codes "fits" ∷ []
verdict_words report.Found = codes "found" ∷ []
verdict_words report.NoFit = codes "no" ∷ codes "fit" ∷ []
verdict_words report.UnknownRef = codes "unknown" ∷ []
verdict_words report.NotUsable = codes "not" ∷ codes "usable" ∷ []
verdict_words report.TooManyHyps = codes "too" ∷ codes "many" ∷ codes "hypotheses" ∷ []
verdict_words report.NoRef = codes "no" ∷ codes "reference" ∷ []

-- a hypothesis, and a step without a reference, show none
abbrev pub reference_words : ReportVerdict → Option Name → List Name
reference_words report.Hyp r = []
reference_words report.NoRef r = []
reference_words v None = []
reference_words v (Some r) = r ∷ []

abbrev pub clash_words : Database → Option Sym → List Name
clash_words db None = []
clash_words db (Some v) = codes "clash" ∷ symbol_name db v ∷ []

abbrev pub lack_words : Database → Option Pair → List Name
lack_words db None = []
lack_words db (Some p) = codes "needs" ∷ symbol_name db p.a ∷ symbol_name db p.b ∷ []

abbrev pub report_line : Database → ReportLine → List ℕ
report_line db r = spaced (r.name ∷ verdict_words r.verdict ++ reference_words r.verdict r.reference ++ clash_words db r.clash ++ lack_words db r.lack)

abbrev pub last_line : Bool → List ℕ
last_line finished = if finished then codes "finished" else codes "not finished"

-- one line for each step, and the last line
abbrev pub report_lines : Database → List ReportLine → Bool → List (List ℕ)
report_lines db report finished = map (report_line db) report ++ last_line finished ∷ []
