-- Typed trees with their leaves replaced.
use Rattle.std.specs.Prelude.{◌≡◌, ℕ, List}
use Rattle.mm_base.specs.declared.symbols.Sym.{Sym}
use Rattle.mm_base.specs.declared.symbols.Typecode.{Typecode}
use Rattle.mm_base.specs.declared.tree.Tree.{Tree}
use Rattle.mm_base.specs.Trees.{code_of}
use Rattle.mm_model.specs.declared.rows.Production.{Production}
use Rattle.mm_model.specs.Typed.{IsTyped}
use Rattle.solve_model.specs.Trees.{Open, open_code, replace}

-- the tree is typed, with this typecode
pub record IsTypedAs (rows : List Production) (before : ℕ) (c : Typecode) (t : Tree) : Type 0 where
  pub code : code_of t ≡ c
  pub typed : IsTyped rows before t

-- each leaf gets a typed tree of its typecode
pub record KeepsTypes (rows : List Production) (before : ℕ) (at_var : Sym → Typecode → Tree) (at_open : Open → Tree) : Type 0 where
  pub variables : (s : Sym) (c : Typecode) → IsTypedAs rows before c (at_var s c)
  pub open_leaves : (x : Open) → IsTypedAs rows before (open_code x) (at_open x)

-- the tree is then typed, with its typecode
abbrev pub ReplacedIsTyped : Type 0
ReplacedIsTyped = (rows : List Production) (before : ℕ) (at_var : Sym → Typecode → Tree) (at_open : Open → Tree) (t : Tree) → KeepsTypes rows before at_var at_open
    → IsTyped rows before t → IsTypedAs rows before (code_of t) (replace at_var at_open t)
