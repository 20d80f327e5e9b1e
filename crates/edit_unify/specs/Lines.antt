-- The line of a reply.
use Rattle.std.specs.Prelude.{◌≡◌, ℕ, List}
use Rattle.edit_replies.specs.Lines.{line_of}
use Rattle.serde_json.specs.Data.{Data}

-- the line is that of such a reply
pub record IsLineOf (P : Data → Type 0) (line : List ℕ) : Type 0 where
  pub reply : Data
  pub is_reply : P reply
  pub is_line : line ≡ line_of reply
