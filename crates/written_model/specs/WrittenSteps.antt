-- The steps of a worksheet that is written.
use Rattle.std.specs.Prelude.{Bool, ◌==◌, List, map, find, zip, filter_map, slice_get, Option, Some, None}
use Rattle.std.specs.Option.{option_map_or}
use Rattle.mm_base.specs.declared.symbols.Sym.{Sym}
use Rattle.mm_base.specs.declared.tree.Tree.{Tree}
use Rattle.mm_base.specs.declared.tree.Tree.TheVariants.{Work}
use Rattle.mm_model.specs.Names.{Name, sym, typecode}
use Rattle.mm_model.specs.Productions.{TypedVariable}
use Rattle.mm_model.specs.Book.{Assertion}
use Rattle.sheet_text.specs.declared.sheet.Given.{Given}
use Rattle.sheet_text.specs.declared.sheet.Given.TheVariants as given
use Rattle.written_model.specs.declared.report.ReportVerdict.{ReportVerdict}

-- an assertion with the values of its frame's variables, in the order of the frame
pub record Use : Type 0 where
  pub assertion : Assertion
  pub values : List Tree

-- a written step: its places are numbers of written steps, and it has a use where it fits or is found
pub record WrittenStep : Type 0 where
  pub hyp : Bool
  pub name : Name
  pub places : List Given
  pub reference : Option Name
  pub tree : Tree
  pub verdict : ReportVerdict
  pub by : Option Use

-- a comment by its lines, or a step
pub data WrittenItem : Type 0 where
  comment : List Name → WrittenItem
  step : WrittenStep → WrittenItem

abbrev pub step_of : WrittenItem → Option WrittenStep
step_of (comment lines) = None
step_of (step e) = Some e

abbrev pub steps_in : List WrittenItem → List WrittenStep
steps_in items = filter_map step_of items

abbrev pub over_step : (WrittenStep → WrittenStep) → WrittenItem → WrittenItem
over_step f (comment lines) = comment lines
over_step f (step e) = step (f e)

abbrev pub trees : List WrittenStep → List Tree
trees es = map (λ (e : WrittenStep). e.tree) es

-- the tree of the step that a place names
abbrev pub place_tree : List WrittenStep → Given → Option Tree
place_tree es given.Gap = None
place_tree es (given.Step k) = slice_get (trees es) k

abbrev pub no_tree : Tree
no_tree = Work (typecode (sym 0)) 0

-- the value of a frame's variable
abbrev pub value_of : Use → Sym → Tree
value_of u s = option_map_or (λ p. p.1) (find (λ (p : TypedVariable × Tree). p.0.sym.0 == s.0) (zip u.assertion.vars u.values)) no_tree
