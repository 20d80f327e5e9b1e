-- How many trees a formula has is decided.
use Rattle.std.specs.Prelude.{◌⊎◌, ℕ, List}
use Rattle.mm_base.specs.declared.kinds.Kinds.{Kinds}
use Rattle.mm_base.specs.declared.tree.Tree.{Tree}
use Rattle.mm_model.specs.Names.{Name}
use Rattle.mm_model.specs.Book.{Database}
use Rattle.solve_model.specs.Formulas.{IsTheTree, HasNoTree, HasTwoTrees}
use Rattle.written_model.specs.Opened.{IsOpened}

-- none, exactly one, or two
abbrev pub TreesAreTold : Kinds → Database → Type 0
TreesAreTold kinds db = (place : ℕ) (tokens : List Name) → IsOpened kinds db
    → HasNoTree db place tokens ⊎ (((t : Tree) × IsTheTree db place tokens t) ⊎ HasTwoTrees db place tokens)
