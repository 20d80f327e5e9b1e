-- Lines as they are put together: a first word, and each other one behind a space. This is part of the proof, and not of the claim.
use Rattle.std.specs.Prelude.{ℕ, Bool, true, false, List, [], ◌∷◌, ◌++◌, flat_map, slice_index_or, decimal, Option, Some, None, codes}
use Rattle.mm_base.specs.declared.symbols.Sym.{Sym}
use Rattle.mm_base.specs.declared.symbols.Pair.{Pair}
use Rattle.mm_model.specs.Names.{Name}
use Rattle.sheet_bind.specs.declared.faults.BindCode.{BindCode}
use Rattle.sheet_bind.specs.declared.faults.BindCode.TheVariants as bind
use Rattle.sheet_read.specs.declared.fault.SheetCode.{SheetCode}
use Rattle.sheet_read.specs.declared.fault.SheetCode.TheVariants as sheet
use Rattle.written_model.specs.declared.report.ReportLine.{ReportLine}
use Rattle.written_model.specs.declared.report.ReportVerdict.{ReportVerdict}
use Rattle.written_model.specs.declared.report.ReportVerdict.TheVariants as report
use Rattle.written_model.specs.Report.{verdict_words, reference_words}

abbrev pub behind : List Name → List ℕ
behind words = flat_map (λ (w : Name). 32 ∷ w) words

-- the reference is shown beside the verdict
abbrev pub shows : ReportVerdict → Bool
shows report.Hyp = false
shows report.NoRef = false
shows report.Fits = true
shows report.Found = true
shows report.NoFit = true
shows report.UnknownRef = true
shows report.NotUsable = true
shows report.TooManyHyps = true

-- ---- reports, by the names of the symbols

abbrev pub name_in : List Name → Sym → Name
name_in symbols s = slice_index_or symbols s.0 []

abbrev pub clash_in : List Name → Option Sym → List Name
clash_in symbols None = []
clash_in symbols (Some v) = codes "clash" ∷ name_in symbols v ∷ []

abbrev pub lack_in : List Name → Option Pair → List Name
lack_in symbols None = []
lack_in symbols (Some p) = codes "needs" ∷ name_in symbols p.a ∷ name_in symbols p.b ∷ []

-- the words of a report behind the step's name
abbrev pub words_in : List Name → ReportLine → List Name
words_in symbols r = ((verdict_words r.verdict ++ reference_words r.verdict r.reference) ++ clash_in symbols r.clash) ++ lack_in symbols r.lack

abbrev pub report_text : List Name → ReportLine → List ℕ
report_text symbols r = r.name ++ behind (words_in symbols r)

-- ---- faults

-- the line with these words
abbrev pub error_text : List ℕ → List ℕ
error_text words = codes "sheet error" ++ 32 ∷ words

abbrev pub place_text : List ℕ → ℕ → List ℕ
place_text words place = (error_text words ++ codes " at line") ++ 32 ∷ decimal place

abbrev pub number_text : List ℕ → ℕ → List ℕ
number_text words n = error_text words ++ 32 ∷ decimal n

abbrev pub step_text : List ℕ → List ℕ → List ℕ
step_text words name = error_text words ++ 32 ∷ name

abbrev pub formula_text : List ℕ → ℕ → List ℕ
formula_text name n = ((error_text (codes "75 FormulaTooLong step") ++ 32 ∷ name) ++ codes " tokens") ++ 32 ∷ decimal n

-- the code and the name of a fault of a text
abbrev pub sheet_words_of : SheetCode → List ℕ
sheet_words_of sheet.NoHeader = codes "40 NoHeader"
sheet_words_of sheet.BadHeader = codes "41 BadHeader"
sheet_words_of sheet.NoFooter = codes "42 NoFooter"
sheet_words_of sheet.TextAfterFooter = codes "43 TextAfterFooter"
sheet_words_of sheet.BadStep = codes "44 BadStep"
sheet_words_of sheet.NameTwice = codes "45 NameTwice"
sheet_words_of sheet.HypUnknown = codes "46 HypUnknown"
sheet_words_of sheet.QedPlace = codes "47 QedPlace"
sheet_words_of sheet.ProofUnended = codes "48 ProofUnended"
sheet_words_of sheet.BadDistinct = codes "49 BadDistinct"

-- and of one against the database
abbrev pub bind_words_of : BindCode → List ℕ
bind_words_of bind.LocUnknown = codes "60 LocUnknown"
bind_words_of bind.TheoremTaken = codes "61 TheoremTaken"
bind_words_of bind.HypsDiffer = codes "62 HypsDiffer"
bind_words_of bind.HypLabelTaken = codes "63 HypLabelTaken"
bind_words_of bind.HypWithHyps = codes "64 HypWithHyps"
bind_words_of bind.NotProvable = codes "65 NotProvable"
bind_words_of bind.UnknownSymbol = codes "66 UnknownSymbol"
bind_words_of bind.NoTree = codes "67 NoTree"
bind_words_of bind.TwoTrees = codes "68 TwoTrees"
bind_words_of bind.Blank = codes "69 Blank"
bind_words_of bind.NotVariable = codes "70 NotVariable"
bind_words_of bind.FormulaLong = codes "71 FormulaLong"
bind_words_of bind.HypLabelTwice = codes "72 HypLabelTwice"
bind_words_of bind.TheoremName = codes "73 TheoremName"
