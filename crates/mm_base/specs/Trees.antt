-- What is said of trees in general: their typecode, a fact of each tree of a list.
use Rattle.std.specs.Prelude.{List, [], ◌∷◌}
use Rattle.mm_base.specs.declared.symbols.Typecode.{Typecode}
use Rattle.mm_base.specs.declared.tree.Tree.{Tree, out-Tree}
use Rattle.mm_base.specs.declared.tree.Tree.TheOpen.{Tree-F}

-- the typecode of one layer
abbrev pub layer_code : {X : Type 0} → Tree-F X → Typecode
layer_code (Tree-F.Var s c) = c
layer_code (Tree-F.Work c n) = c
layer_code (Tree-F.Fresh c n) = c
layer_code (Tree-F.Node l c ts) = c

-- the typecode of a tree
abbrev pub code_of : Tree → Typecode
code_of t = layer_code (out-Tree t)

-- a fact of each tree of a list
abbrev pub Each : (Tree → Type 0) → List Tree → Type 0
Each P [] = Unit {0}
Each P (t ∷ ts) = P t × Each P ts
