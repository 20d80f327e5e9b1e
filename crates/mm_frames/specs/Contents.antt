-- What a database without a fault has, as lists: symbols and labels by number, its statements in order, and its frames.
use Rattle.std.specs.Prelude.{ℕ, List, map, Option, unwrap_or, option_map, option_and_then, slice_get, length}
use Rattle.mm_base.specs.declared.symbols.Label.{Label}
use Rattle.mm_model.specs.Names.{Name}
use Rattle.mm_model.specs.Statements.{statements, labels}
use Rattle.mm_model.specs.Frames.{symbols, positions}
use Rattle.mm_model.specs.declared.frames.Frame.{Frame}
use Rattle.frame_lists.specs.declared.entry.Entry.{Entry}
use Rattle.frame_lists.specs.Entries.{entry_in}
use Rattle.frame_lists.specs.Listings.{frames_of, constant_places}

pub record Contents : Type 0 where
  -- the symbols by number, and the labels by number
  pub symbols : List Name
  pub labels : List Name
  -- the numbers of the statements of the labels, by label
  pub positions : List ℕ
  -- the statements in order
  pub entries : List Entry
  -- the frames by label; none where it is no label of an assertion
  pub frames : List (Option Frame)
  -- by symbol the number of the `$c` that declares it; 2^32 - 1 where there is none
  pub constants : List ℕ
  -- the bytes of the text
  pub size : ℕ

abbrev pub contents_of : List ℕ → Contents
contents_of text = record {
  symbols = symbols (statements text);
  labels = labels (statements text);
  positions = positions (statements text);
  entries = map (entry_in (symbols (statements text))) (statements text);
  frames = frames_of (statements text);
  constants = constant_places (statements text);
  size = length text;
}

-- the frame of a label
abbrev pub frame_at : Contents → Label → Option Frame
frame_at c l = option_and_then (λ (f : Option Frame). f) (slice_get c.frames l.0)

-- the byte where the statement of a place begins; at the last place the end of the text
abbrev pub place_byte : Contents → ℕ → ℕ
place_byte c place = unwrap_or (option_map (λ (x : Entry). x.start) (slice_get c.entries place)) c.size

-- the bytes of the proof of a label
abbrev pub proof_at : Contents → Label → Option (ℕ × ℕ)
proof_at c l = option_and_then (λ at. option_and_then (λ (x : Entry). x.proof) (slice_get c.entries at)) (slice_get c.positions l.0)
