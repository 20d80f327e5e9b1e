-- A worksheet with a derived step whose reference is found, for examples: `h1::u.1 |- ph` and `qed:1:ax-mp |- ( ps -> ph )`.
use Rattle.std.specs.Prelude.{Bool, true, false, ◌==◌, if◌then◌else◌, List, [], ◌∷◌, Option, Some, None, codes}
use Rattle.mm_base.specs.declared.tree.Tree.{Tree}
use Rattle.mm_base.specs.declared.tree.Tree.TheVariants.{Work, Fresh}
use Rattle.mm_model.specs.Names.{Name}
use Rattle.mm_model.specs.Book.{Assertion}
use Rattle.sheet_text.specs.declared.sheet.Given.{Given}
use Rattle.sheet_text.specs.declared.sheet.Given.TheVariants as given
use Rattle.sheet_text.specs.declared.sheet.Sheet.{Sheet}
use Rattle.sheet_text.specs.Reads.{unnumbered}
use Rattle.solve_model.specs.declared.bound.Bound.{Bound}
use Rattle.solve_model.specs.declared.verdict.Verdict.TheVariants as verdict
use Rattle.solve_model.specs.Solutions.{named, blank, copy, Valuation, Asked}
use Rattle.solve_model.specs.Verdicts.{Judgement, asked, accepted, stands}
use Rattle.solve_model.specs.BoundExamples.{hypothesis, step as bound_step, bound}
use Rattle.solve_model.specs.Example.{wff, ph, ps, wi, ax_mp, ax_1}
use Rattle.solve_model.specs.ExampleSheets.{sheet}
use Rattle.written_model.specs.declared.options.DvMode.TheVariants as dv
use Rattle.written_model.specs.declared.options.Options.{Options}
use Rattle.written_model.specs.declared.options.ProofStyle.TheVariants as style
use Rattle.written_model.specs.declared.report.ReportVerdict.{ReportVerdict}
use Rattle.written_model.specs.declared.report.ReportVerdict.TheVariants as report
use Rattle.written_model.specs.WrittenSteps.{Use, WrittenStep, step}
use Rattle.written_model.specs.Written.{Writing}

abbrev pub compressed : Options
compressed = record { style = style.Compressed; kinds = record { provable = codes "|-"; logic = codes "wff" }; dv = dv.Add }

abbrev pub normal : Options
normal = record compressed { style = style.Normal }

abbrev pub read : Sheet
read = unnumbered (sheet (codes "u") (codes "h1::u.1 |- ph" ∷ codes "qed:1:ax-mp |- ( ps -> ph )" ∷ []))

abbrev pub trees : Bound
trees = bound (hypothesis (codes "1") (codes "u.1") ph ∷ bound_step (codes "qed") (given.Step 0 ∷ []) (Some (codes "ax-mp")) (Some (wi ps ph)) ∷ [])

abbrev pub candidate : Asked
candidate = asked 1 ax_mp (given.Step 0 ∷ [])

abbrev pub judgements : List Judgement
judgements = stands verdict.Hyp ∷ accepted candidate ∷ []

-- ph is ph, and ps is ( ps -> ph )
abbrev pub value : Valuation
value (named c n) = Work c n
value (blank i) = Fresh wff 0
value (copy i s c) = if s.0 == 6 then ph else wi ps ph

abbrev pub used : Assertion → List Tree → Option Use
used a values = Some (record { assertion = a; values = values })

abbrev pub written : Bool → Name → List Given → Option Name → Tree → ReportVerdict → Option Use → WrittenStep
written hyp name places reference t v by = record { hyp = hyp; name = name; places = places; reference = reference; tree = t; verdict = v; by = by }

abbrev pub first : WrittenStep
first = written true (codes "1") [] (Some (codes "u.1")) ph report.Hyp None

-- the derived step, before the search and behind it
abbrev pub derived : WrittenStep
derived = written false (codes "d1") [] None (wi ph (wi ps ph)) report.NoRef None

abbrev pub found : WrittenStep
found = written false (codes "d1") [] (Some (codes "ax-1")) (wi ph (wi ps ph)) report.Found (used ax_1 (ph ∷ ps ∷ []))

abbrev pub last : WrittenStep
last = written false (codes "qed") (given.Step 0 ∷ given.Step 1 ∷ []) (Some (codes "ax-mp")) (wi ps ph) report.Fits (used ax_mp (ph ∷ wi ps ph ∷ []))

abbrev pub writing : Writing
writing = record { read = read; bound = trees; judgements = judgements; value = value; names = λ c n. None; items = step first ∷ step found ∷ step last ∷ []; finished = true }
