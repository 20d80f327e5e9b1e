-- Two trees are equal.
use Rattle.std.specs.Prelude.{Bool, true, false, ◌&&◌, ◌==◌, List, [], ◌∷◌}
use Rattle.mm_base.specs.declared.symbols.Typecode.{Typecode}
use Rattle.mm_base.specs.declared.tree.Tree.{Tree, out-Tree}
use Rattle.mm_base.specs.declared.tree.Tree.TheOpen.{Tree-F}
use Rattle.mm_base.specs.declared.tree.Tree.TheFolds.{fold-Tree}

-- two typecodes are one
abbrev pub same_code : Typecode → Typecode → Bool
same_code a b = a.0.0 == b.0.0

abbrev pub all_pass : List (Tree → Bool) → List Tree → Bool
all_pass [] [] = true
all_pass [] (t ∷ ts) = false
all_pass (p ∷ ps) [] = false
all_pass (p ∷ ps) (t ∷ ts) = p t && all_pass ps ts

abbrev pub layer_same : Tree-F (Tree → Bool) → Tree-F Tree → Bool
layer_same (Tree-F.Var s c) (Tree-F.Var r d) = s.0 == r.0 && same_code c d
layer_same (Tree-F.Work c n) (Tree-F.Work d m) = same_code c d && n == m
layer_same (Tree-F.Fresh c n) (Tree-F.Fresh d m) = same_code c d && n == m
layer_same (Tree-F.Node l c ps) (Tree-F.Node k d ts) = l.0 == k.0 && same_code c d && all_pass ps ts
layer_same _ _ = false

-- two trees are equal
unfoldable pub same_tree : Tree → Tree → Bool
same_tree = fold-Tree (Tree → Bool) (λ x t. layer_same x (out-Tree t))
