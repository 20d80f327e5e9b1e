-- Replaced leaves, and equal trees.
use Rattle.std.specs.Prelude.{◌≡◌, ◌↔◌, true}
use Rattle.mm_base.specs.declared.symbols.Sym.{Sym}
use Rattle.mm_base.specs.declared.symbols.Typecode.{Typecode}
use Rattle.mm_base.specs.declared.tree.Tree.{Tree}
use Rattle.mm_base.specs.declared.tree.Tree.TheVariants.{Var}
use Rattle.solve_model.specs.Trees.{Open, replace, leaf_tree, Occurs, same_tree}

-- replaced twice is replaced once, each leaf by what its first replacement becomes
abbrev pub ReplacedTwice : Type 0
ReplacedTwice = (a b : Sym → Typecode → Tree) (p q : Open → Tree) (t : Tree)
    → replace a p (replace b q t) ≡ replace (λ s c. replace a p (b s c)) (λ x. replace a p (q x)) t

-- with each leaf replaced by itself a tree stays
abbrev pub ReplacedBySelf : Type 0
ReplacedBySelf = (t : Tree) → replace (λ s c. Var s c) leaf_tree t ≡ t

-- two replacements of open leaves give one tree exactly where they agree on the tree's open leaves
abbrev pub ReplacedAlike : Type 0
ReplacedAlike = (a : Sym → Typecode → Tree) (p q : Open → Tree) (t : Tree)
    → (replace a p t ≡ replace a q t) ↔ ((x : Open) → Occurs x t → p x ≡ q x)

-- the test of two trees says whether they are equal
abbrev pub SameTreeDecides : Type 0
SameTreeDecides = (t u : Tree) → (same_tree t u ≡ true) ↔ (t ≡ u)
