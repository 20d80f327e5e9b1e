-- The database of the definitions, from what is kept of a text.
use Rattle.std.specs.Prelude.{ℕ, List, slice_get, Option, option_map, option_and_then}
use Rattle.mm_base.specs.declared.symbols.Label.{Label}
use Rattle.mm_base.specs.declared.kinds.Kinds.{Kinds}
use Rattle.mm_model.specs.declared.frames.Frame.{Frame}
use Rattle.mm_model.specs.declared.rows.Production.{Production}
use Rattle.mm_model.specs.Names.{Name, typecode, symbol_named}
use Rattle.mm_model.specs.Statements.{statements, labels}
use Rattle.mm_model.specs.Frames.{symbols, symbol_in, positions, end_of, frame_of, active_at, is_constant_at, place_after, float_codes}
use Rattle.mm_model.specs.Productions.{typed_variables}
use Rattle.mm_model.specs.Book.{Database, Assertion}
use Rattle.mm_database.specs.declared.assertions.Parsed.{Parsed}
use Rattle.mm_database.specs.declared.formulas.KindCodes.{KindCodes}

-- the two typecodes of a database
abbrev pub kinds_in : List Name → Kinds → KindCodes
kinds_in symbols kinds = record { provable = symbol_named symbols kinds.provable; logic = typecode (symbol_in symbols kinds.logic) }

-- what is kept of a label; none where it is no label of a usable assertion
abbrev pub parsed_at : List (Option Parsed) → Label → Option Parsed
parsed_at parsed l = option_and_then (λ (o : Option Parsed). o) (slice_get parsed l.0)

abbrev pub assertion_of : Label → Frame → Parsed → Assertion
assertion_of l f p = record { label = l; frame = f; tree = p.tree; hyps = p.hyps; vars = typed_variables f.hyps }

-- the usable assertion of a label with this frame
abbrev pub usable_with : List (Option Parsed) → Label → Option Frame → Option Assertion
usable_with parsed l f = option_and_then (λ (g : Frame). option_map (assertion_of l g) (parsed_at parsed l)) f

-- the database that it is, where this is its text
abbrev pub database_of : Kinds → List ℕ → List Production → List (Option Parsed) → Database
database_of kinds text rows parsed = record {
  provable = kinds.provable;
  logic = kinds.logic;
  symbols = symbols (statements text);
  labels = labels (statements text);
  positions = positions (statements text);
  statement_count = end_of (statements text);
  frame = frame_of (statements text);
  active_at = active_at (statements text);
  is_constant_at = is_constant_at (statements text);
  place_after = place_after (statements text);
  float_codes = float_codes (statements text);
  rows = rows;
  usable = λ l. usable_with parsed l (frame_of (statements text) l);
}
