-- The smallest finished worksheet, for an example of a whole answer: over a database with one assertion, `any $a |- ph $.`, the step `qed::any |- ps`.
use Rattle.std.specs.Prelude.{ℕ, true, false, ◌==◌, if◌then◌else◌, List, [], ◌∷◌, Option, Some, None, codes}
use Rattle.mm_base.specs.declared.symbols.Label.{Label}
use Rattle.mm_base.specs.declared.symbols.Typecode.{Typecode}
use Rattle.mm_base.specs.declared.tree.Tree.{Tree}
use Rattle.mm_base.specs.declared.tree.Tree.TheVariants.{Var, Work}
use Rattle.mm_model.specs.declared.frames.Frame.{Frame}
use Rattle.mm_model.specs.Names.{sym, label, typecode}
use Rattle.mm_model.specs.Statements.{Statement, statements}
use Rattle.mm_model.specs.Frames.{frame_of, active_at, is_constant_at, place_after, float_codes}
use Rattle.mm_model.specs.Productions.{TypedVariable}
use Rattle.mm_model.specs.Book.{Assertion, Database}
use Rattle.sheet_text.specs.declared.sheet.Sheet.{Sheet}
use Rattle.sheet_text.specs.Reads.{unnumbered}
use Rattle.solve_model.specs.declared.bound.Bound.{Bound}
use Rattle.solve_model.specs.declared.bound.BoundStep.{BoundStep}
use Rattle.solve_model.specs.Binding.{theorem_of}
use Rattle.solve_model.specs.Solutions.{named, blank, copy, Valuation, Asked}
use Rattle.solve_model.specs.Verdicts.{accepted, asked}
use Rattle.solve_model.specs.BoundExamples.{step as bound_step}
use Rattle.solve_model.specs.ExampleSheets.{sheet, sheet_text}
use Rattle.written_model.specs.declared.options.Options.{Options}
use Rattle.written_model.specs.declared.report.ReportVerdict.TheVariants as report
use Rattle.written_model.specs.WrittenSteps.{WrittenStep, step}
use Rattle.written_model.specs.Written.{Writing}
use Rattle.written_model.specs.WrittenExample.{written, used, normal}

-- ---- the database

abbrev pub database_text : List ℕ
database_text = codes "$c |- wff $. $v ph ps $. wph $f wff ph $. wps $f wff ps $. any $a |- ph $."

abbrev pub S : List Statement
S = statements database_text

abbrev pub wff : Typecode
wff = typecode (sym 1)

abbrev pub ph : Tree
ph = Var (sym 2) wff

abbrev pub ps : Tree
ps = Var (sym 3) wff

abbrev pub frame : Frame
frame = record {
  label = label 2;
  is_axiom = true;
  at = 4;
  formula = sym 0 ∷ sym 2 ∷ [];
  hyps = record { name = codes "wph"; floating = true; formula = sym 1 ∷ sym 2 ∷ [] } ∷ [];
  pairs = [];
}

abbrev pub variable : TypedVariable
variable = record { sym = sym 2; code = wff }

abbrev pub any : Assertion
any = record { label = label 2; frame = frame; tree = ph; hyps = []; vars = variable ∷ [] }

abbrev pub usable : Label → Option Assertion
usable l = if l.0 == 2 then Some any else None

abbrev pub db : Database
db = record {
  provable = codes "|-";
  logic = codes "wff";
  symbols = codes "|-" ∷ codes "wff" ∷ codes "ph" ∷ codes "ps" ∷ [];
  labels = codes "wph" ∷ codes "wps" ∷ codes "any" ∷ [];
  positions = 2 ∷ 3 ∷ 4 ∷ [];
  statement_count = 5;
  frame = frame_of S;
  active_at = active_at S;
  is_constant_at = is_constant_at S;
  place_after = place_after S;
  float_codes = float_codes S;
  rows = [];
  usable = usable;
}

-- ---- the worksheet

abbrev pub options : Options
options = normal

abbrev pub read_text : List ℕ
read_text = sheet_text (codes "t") (codes "?") (codes "qed::any |- ps" ∷ [])

abbrev pub written_text_is : List ℕ
written_text_is = sheet_text (codes "t") (codes "?") (codes "qed::any |- ps" ∷ codes "$= wps any $." ∷ [])

-- ---- what the worksheet becomes

abbrev pub numbered : Sheet
numbered = sheet (codes "t") (codes "qed::any |- ps" ∷ [])

abbrev pub qed : BoundStep
qed = bound_step (codes "qed") [] (Some (codes "any")) (Some ps)

abbrev pub trees : Bound
trees = record { place = 5; existing = false; steps = qed ∷ []; pairs = []; theorem = theorem_of db numbered }

abbrev pub candidate : Asked
candidate = asked 0 any []

-- the variable of the assertion is ps
abbrev pub value : Valuation
value (named c n) = Work c n
value (blank i) = ps
value (copy i s c) = Var (sym 3) c

abbrev pub fitting : WrittenStep
fitting = written false (codes "qed") [] (Some (codes "any")) ps report.Fits (used any (ps ∷ []))

abbrev pub writing : Writing
writing = record { read = unnumbered numbered; bound = trees; judgements = accepted candidate ∷ []; value = value; names = λ c n. None; items = step fitting ∷ []; finished = true }
