-- Part of the proof, and not of the claim: what the indexes of productions have at a key.
use Rattle.std.specs.Prelude.{◌≡◌, Bool, ℕ, List}
use Rattle.mm_base.specs.declared.rows.Rows.{Rows}
use Rattle.mm_base.specs.Rows.{row_at}
use Rattle.mm_model.specs.declared.rows.Production.{Production}
use Rattle.syntax_grammar.specs.declared.table.Table.{Table}
use Rattle.syntax_grammar.specs.Selections.{numbers}
use Rattle.syntax_grammar.specs.Tables.{listed}

-- at each key stand the numbers of the productions that pass the key's test
abbrev pub IsAtKeys : (ℕ → Production → Bool) → List Production → (ℕ → List ℕ) → Type 0
IsAtKeys test rows at = (q : ℕ) → at q ≡ numbers (test q) 0 rows

abbrev pub IsIndex : (ℕ → Production → Bool) → List Production → Rows ℕ → Type 0
IsIndex test rows x = IsAtKeys test rows (row_at x)

abbrev pub IsTable : (ℕ → Production → Bool) → List Production → Table → Type 0
IsTable test rows x = IsAtKeys test rows (listed x)
