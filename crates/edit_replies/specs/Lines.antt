-- The lines of replies.
use Rattle.std.specs.Prelude.{ℕ, List}
use Rattle.serde_json.specs.Data.{Data}
use Rattle.serde_json.specs.Written.{compact_text}
use Rattle.sheet_text.specs.Layout.{ended}

-- the line of a reply
abbrev pub line_of : Data → List ℕ
line_of d = ended (compact_text d)
