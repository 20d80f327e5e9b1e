-- Typed trees, and the trees of an expression.
use Rattle.std.specs.Prelude.{◌≡◌, ◌<◌, ℕ, List, Some, map}
use Rattle.mm_base.specs.declared.symbols.Typecode.{Typecode}
use Rattle.mm_base.specs.declared.tree.Tree.{Tree}
use Rattle.mm_base.specs.declared.tree.Tree.TheOpen.{Tree-F}
use Rattle.mm_base.specs.declared.tree.Tree.TheFolds.{every-Tree}
use Rattle.mm_base.specs.Trees.{code_of}
use Rattle.mm_model.specs.declared.rows.Leaf.{Leaf}
use Rattle.mm_model.specs.declared.rows.Production.{Production}
use Rattle.mm_model.specs.Texts.{row_of, text}

-- a layer of a production below a place has that production's typecode, and one child per slot, of the slot's typecode
abbrev pub LayerIsTyped : List Production → ℕ → Tree-F Tree → Type 0
LayerIsTyped rows before (Tree-F.Var s c) = Unit {0}
LayerIsTyped rows before (Tree-F.Work c n) = Unit {0}
LayerIsTyped rows before (Tree-F.Fresh c n) = Unit {0}
LayerIsTyped rows before (Tree-F.Node l c ts) =
    (r : Production) × (row_of rows l ≡ Some r) × (r.at < before) × (r.gives ≡ c) × (map code_of ts ≡ r.slots)

-- a layer is no fresh leaf
abbrev pub LayerIsNamed : Tree-F Tree → Type 0
LayerIsNamed (Tree-F.Var s c) = Unit {0}
LayerIsNamed (Tree-F.Work c n) = Unit {0}
LayerIsNamed (Tree-F.Fresh c n) = ⊥
LayerIsNamed (Tree-F.Node l c ts) = Unit {0}

-- each layer is typed over the productions below a place
unfoldable pub IsTyped : List Production → ℕ → Tree → Type 0
IsTyped rows before = every-Tree (LayerIsTyped rows before)

-- no leaf is fresh
unfoldable pub HasNoFresh : Tree → Type 0
HasNoFresh = every-Tree LayerIsNamed

-- the tree is one of the expression, of a typecode, over the productions below a place
pub record Parses (rows : List Production) (before : ℕ) (e : List Leaf) (want : Typecode) (t : Tree) : Type 0 where
  pub code : code_of t ≡ want
  pub typed : IsTyped rows before t
  pub named : HasNoFresh t
  pub written : text rows t ≡ e
