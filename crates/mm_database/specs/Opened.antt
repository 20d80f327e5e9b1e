-- An opened database.
use Rattle.std.specs.Prelude.{ℕ, ◌≡◌, List, length, map, slice_index_or, nat_lt, count_by, Option, Some, None}
use Rattle.std.specs.List.{range_with_len}
use Rattle.mm_base.specs.declared.kinds.Kinds.{Kinds}
use Rattle.mm_base.specs.declared.symbols.Label.{Label}
use Rattle.mm_model.specs.declared.frames.Frame.{Frame}
use Rattle.mm_model.specs.declared.rows.Production.{Production}
use Rattle.mm_model.specs.Statements.{statements, database_fault}
use Rattle.mm_model.specs.Frames.{frame_of}
use Rattle.mm_model.specs.Productions.{TypedVariable, typed_variables}
use Rattle.mm_model.specs.Book.{IsDatabaseOf}
use Rattle.mm_model.specs.BookFacts.{Rise}
use Rattle.mm_frames.specs.Contents.{Contents, contents_of}
use Rattle.mm_database.specs.declared.assertions.Parsed.{Parsed}
use Rattle.mm_database.specs.Books.{parsed_at, database_of}

-- what is kept: the statements, the kept productions, and by label what is kept of a usable assertion
pub record Opened : Type 0 where
  pub contents : Contents
  pub rows : List Production
  pub parsed : List (Option Parsed)

-- each label has a position, and later labels have later ones
pub record HasPositions (c : Contents) : Type 0 where
  pub count : length c.positions ≡ length c.labels
  pub rise : Rise c.positions

-- the number of the labels whose position is below a place
abbrev pub labels_below : Contents → ℕ → ℕ
labels_below c place = count_by (λ l. nat_lt (slice_index_or c.positions l 0) place) (range_with_len 0 (length c.labels))

abbrev pub labels_before : Opened → ℕ → ℕ
labels_before d place = labels_below d.contents place

-- what is kept is kept of an assertion, with its mandatory variables in the order of its frame
pub record IsKeptOf (text : List ℕ) (l : Label) (p : Parsed) : Type 0 where
  pub frame : Frame
  pub frame_is : frame_of (statements text) l ≡ Some frame
  pub vars : p.vars ≡ map (λ (v : TypedVariable). v.sym) (typed_variables frame.hyps)

-- it is opened from this text: the text has no fault, and what is kept is the text's database
pub record IsOpened (kinds : Kinds) (text : List ℕ) (d : Opened) : Type 0 where
  pub no_fault : database_fault text ≡ None
  pub contents : d.contents ≡ contents_of text
  pub database : IsDatabaseOf kinds text (database_of kinds text d.rows d.parsed)
  pub kept : (l : Label) (p : Parsed) → parsed_at d.parsed l ≡ Some p → IsKeptOf text l p
