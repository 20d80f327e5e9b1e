-- What is kept of a database, as the database that the definitions see. This is part of the proof, and not of the claim.
use Rattle.std.specs.Prelude.{ℕ, Bool, List, length}
use Rattle.mm_base.specs.declared.kinds.Kinds.{Kinds}
use Rattle.mm_base.specs.declared.symbols.Label.{Label}
use Rattle.mm_base.specs.declared.symbols.Sym.{Sym}
use Rattle.mm_base.specs.declared.symbols.Typecode.{Typecode}
use Rattle.mm_model.specs.declared.frames.Active.{Active}
use Rattle.mm_model.specs.Book.{Database}
use Rattle.mm_frames.specs.Contents.{frame_at}
use Rattle.mm_database.specs.Books.{usable_with}
use Rattle.mm_database.specs.Opened.{Opened}

-- what a text says of places: what is active there, the constants, the places behind labels, and the typecodes of `$f`
pub record PlaceFacts : Type 0 where
  pub active_at : ℕ → Active
  pub is_constant_at : Sym → ℕ → Bool
  pub place_after : Label → ℕ
  pub float_codes : ℕ → List Typecode

abbrev pub shown : Kinds → PlaceFacts → Opened → Database
shown kinds facts d = record {
  provable = kinds.provable;
  logic = kinds.logic;
  symbols = d.contents.symbols;
  labels = d.contents.labels;
  positions = d.contents.positions;
  statement_count = length d.contents.entries;
  frame = frame_at d.contents;
  active_at = facts.active_at;
  is_constant_at = facts.is_constant_at;
  place_after = facts.place_after;
  float_codes = facts.float_codes;
  rows = d.rows;
  usable = λ l. usable_with d.parsed l (frame_at d.contents l);
}
