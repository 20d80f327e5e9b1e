-- A database as its contents give it, for what is said of its names and frames. This is part of the proof, and not of the claim.
use Rattle.std.specs.Prelude.{[], None, false}
use Rattle.mm_model.specs.Names.{Name}
use Rattle.mm_model.specs.Book.{Database}
use Rattle.mm_frames.specs.Contents.{Contents, frame_at}

-- with no productions and no usable assertions, and with nothing active
abbrev pub book_in : Contents → Name → Database
book_in c provable = record {
  provable = provable;
  logic = [];
  symbols = c.symbols;
  labels = c.labels;
  positions = [];
  statement_count = 0;
  frame = frame_at c;
  active_at = λ place. record { variables = []; hyps = []; pairs = [] };
  is_constant_at = λ s place. false;
  place_after = λ l. 0;
  float_codes = λ place. [];
  rows = [];
  usable = λ l. None;
}
