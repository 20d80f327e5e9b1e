-- Laws of the frames of a text without a fault: their formulas by their own variables, and the productions that they give.
use Rattle.std.specs.Prelude.{◌≡◌, ◌<◌, ◌⊎◌, ℕ, List, length, drop, slice_get, Contains, false, Option, Some, None, option_map, if◌then◌else◌}
use Rattle.std.specs.List.{AllByRecursion, filter_map}
use Rattle.mm_base.specs.declared.symbols.Sym.{Sym}
use Rattle.mm_base.specs.declared.symbols.Label.{Label}
use Rattle.mm_base.specs.declared.kinds.Kinds.{Kinds}
use Rattle.mm_model.specs.declared.frames.Hyp.{Hyp}
use Rattle.mm_model.specs.declared.frames.Frame.{Frame}
use Rattle.mm_model.specs.declared.rows.Leaf.{Leaf}
use Rattle.mm_model.specs.declared.rows.Leaf.TheVariants as leaf
use Rattle.mm_model.specs.Statements.{statements, labels, database_fault}
use Rattle.mm_model.specs.Frames.{symbols, end_of, frame_of, active_at, is_constant_at}
use Rattle.mm_model.specs.Productions.{TypedVariable, typed_variables, essentials, rows}
use Rattle.mm_model.specs.Rows.{AreRows}
use Rattle.mm_model.specs.Book.{Database, float_of, expression_at}

-- the database says of symbols, frames and places what the text says
pub record ShowsText (text : List ℕ) (db : Database) : Type 0 where
  pub symbols : db.symbols ≡ symbols (statements text)
  pub frame : (l : Label) → db.frame l ≡ frame_of (statements text) l
  pub active_at : (place : ℕ) → db.active_at place ≡ active_at (statements text) place
  pub is_constant_at : (s : Sym) (place : ℕ) → db.is_constant_at s place ≡ is_constant_at (statements text) s place

-- what a symbol of a frame's formula is, by the frame's own `$f`
abbrev pub own_leaf : Database → Frame → Sym → Option Leaf
own_leaf db f s = if db.is_constant_at s f.at then Some (leaf.Const s) else option_map (λ c. leaf.Var s c) (float_of s f.hyps)

abbrev pub own_expression : Database → Frame → List Sym → List Leaf
own_expression db f formula = filter_map (own_leaf db f) (drop 1 formula)

-- the formula is at the frame's place what it is by the frame's own `$f`, and its symbols are the database's
pub record IsOwn (db : Database) (f : Frame) (formula : List Sym) : Type 0 where
  pub expression : own_expression db f formula ≡ expression_at db f.at formula
  pub symbols : AllByRecursion (λ (s : Sym). s.0 < length db.symbols) formula

-- so are a frame's formulas; its label and its place are the text's
pub record HasOwnExpressions (text : List ℕ) (db : Database) (l : Label) (f : Frame) : Type 0 where
  pub label : l.0 < length (labels (statements text))
  pub place : f.at < end_of (statements text)
  pub formula : IsOwn db f f.formula
  pub hyps : AllByRecursion (λ (h : Hyp). IsOwn db f h.formula) (essentials f.hyps)

abbrev pub FramesHaveOwnExpressions : Type 0
FramesHaveOwnExpressions =
    (text : List ℕ) (db : Database) → ShowsText text db → database_fault text ≡ None → (l : Label) (f : Frame) → db.frame l ≡ Some f → HasOwnExpressions text db l f

-- the productions that the frames give are rows of which a grammar can be made
abbrev pub FramesGiveRows : Type 0
FramesGiveRows = (kinds : Kinds) (text : List ℕ) → database_fault text ≡ None → AreRows (rows kinds.provable (statements text))

-- a variable stands in the formula behind its typecode, or so in one of the `$e`
abbrev pub StandsInFrame : Frame → Sym → Type 0
StandsInFrame f v = Contains (drop 1 f.formula) v ⊎ ((j : ℕ) × (h : Hyp) × (slice_get (essentials f.hyps) j ≡ Some h) × Contains (drop 1 h.formula) v)

-- each mandatory variable of a frame is no constant at its place, and stands in its formulas
abbrev pub MandatoryVariablesStand : Type 0
MandatoryVariablesStand =
    (text : List ℕ) (db : Database) → ShowsText text db → database_fault text ≡ None → (l : Label) (f : Frame) → db.frame l ≡ Some f
    → (v : TypedVariable) → Contains (typed_variables f.hyps) v → (db.is_constant_at v.sym f.at ≡ false) × StandsInFrame f v.sym
