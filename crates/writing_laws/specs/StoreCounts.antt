-- The counts of a store of terms are those of the trees.
use Rattle.std.specs.Prelude.{◌≡◌, ℕ, Bool, true, false, List, count_by, Some}
use Rattle.mm_base.specs.declared.symbols.Label.{Label}
use Rattle.mm_base.specs.declared.tree.Tree.{Tree}
use Rattle.mm_model.specs.declared.rows.Item.{Item}
use Rattle.mm_model.specs.declared.rows.Item.TheVariants as item
use Rattle.mm_model.specs.declared.rows.Production.{Production}
use Rattle.mm_model.specs.Rows.{IsGrammar}
use Rattle.mm_model.specs.Texts.{row_of}
use Rattle.mm_model.specs.Typed.{IsTyped}
use Rattle.term_model.specs.Sizes.{tokens}
use Rattle.writing_laws.specs.TokenCounts.{token_count}

abbrev pub is_constant : Item → Bool
is_constant (item.Const s) = true
is_constant (item.Slot k) = false

-- each label of a row counts the row's constants
abbrev pub AreRowConstants : List Production → (Label → ℕ) → Type 0
AreRowConstants rows constants = (l : Label) (r : Production) → row_of rows l ≡ Some r → constants l ≡ count_by is_constant r.items

-- then a typed tree has as many tokens as a store of terms counts
abbrev pub CountIsTokens : Type 0
CountIsTokens = (rows : List Production) (constants : Label → ℕ) (before : ℕ) (t : Tree) → IsGrammar rows → AreRowConstants rows constants → IsTyped rows before t
    → token_count rows t ≡ tokens constants t
