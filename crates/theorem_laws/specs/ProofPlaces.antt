-- Where the proof of a `$p` stands.
use Rattle.std.specs.Prelude.{◌≡◌, ℕ, List, true, Some, None, IsSome, codes}
use Rattle.mm_base.specs.declared.symbols.Label.{Label}
use Rattle.mm_model.specs.Frames.{proof_range, statement_of}
use Rattle.mm_model.specs.Statements.{Statement, statements, database_fault, has_keyword}

-- in a text without a fault the proof of each `$p` stands between its `$=` and its `$.`
abbrev pub ProofsStand : Type 0
ProofsStand = (text : List ℕ) → database_fault text ≡ None → (l : Label) (at : ℕ) (s : Statement) → statement_of (statements text) l ≡ Some (at, s)
    → has_keyword (codes "$p") s ≡ true → IsSome (proof_range (statements text) l)
