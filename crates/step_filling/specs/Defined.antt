-- What is answered of a chain, in the words of the definitions, where the chain counts the tokens of trees as they do.
use Rattle.std.specs.Prelude.{◌≡◌, ℕ, List}
use Rattle.std.specs.List.{AllByRecursion}
use Rattle.mm_base.specs.declared.symbols.Label.{Label}
use Rattle.mm_base.specs.declared.tree.Tree.{Tree}
use Rattle.mm_model.specs.Names.{Name}
use Rattle.mm_model.specs.Book.{Database}
use Rattle.sheet_text.specs.declared.sheet.SheetItem.{SheetItem}
use Rattle.sheet_text.specs.declared.sheet.SheetStep.{SheetStep}
use Rattle.solve_model.specs.Solutions.{formula}
use Rattle.fault_lines.specs.Refusals.{told_number}
use Rattle.term_model.specs.Sizes.{tokens}
use Rattle.writing_laws.specs.TokenCounts.{token_count, formula_count}
use Rattle.writing_laws.specs.HasLong as long
use Rattle.step_chain.specs.Held.{Held, judgements_of}
use Rattle.step_chain.specs.Values.{value_of}
use Rattle.step_chain.specs.Answers.{constants_of}
use Rattle.step_filling.specs.Wanted.{AreShort}
use Rattle.step_filling.specs.Filled.{IsLongNext}

-- a tree has as many tokens as the chain counts
abbrev pub IsCounted : Database → (Label → ℕ) → Tree → Type 0
IsCounted db constants t = token_count db.rows t ≡ tokens constants t

abbrev pub AreCounted : Database → (Label → ℕ) → List Tree → Type 0
AreCounted db constants ts = AllByRecursion (IsCounted db constants) ts

-- behind a front, the first formula that is too long has so many tokens
pub record IsFirstLongOf (h : Held) (db : Database) (names : List Name) (front : List SheetItem) (s : SheetStep) (name : Name) (n : ℕ) : Type 0 where
  pub tree : Tree
  pub first : long.IsFirstLong db names h.bound (value_of h) (judgements_of h) front s name tree
  pub count : n ≡ told_number (formula_count db tree)

abbrev pub LongIsFirst : Type 0
LongIsFirst = (h : Held) (db : Database) (names : List Name) (front : List SheetItem) (s : SheetStep) (name : Name) (n : ℕ)
    → AreCounted db (constants_of h) (long.next_wanted db names h.bound (value_of h) (judgements_of h) front)
    → IsCounted db (constants_of h) (formula h.bound (value_of h) (long.next_number db names h.bound (value_of h) (judgements_of h) front))
    → IsLongNext h (long.filled_front db names h.bound (value_of h) (judgements_of h) front) names s name n → IsFirstLongOf h db names front s name n

abbrev pub ShortIsShort : Type 0
ShortIsShort = (db : Database) (constants : Label → ℕ) (ts : List Tree) → AreCounted db constants ts → AreShort constants ts → long.AreShort db ts
