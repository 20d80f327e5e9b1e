-- Substitution, on trees and on texts.
use Rattle.std.specs.Prelude.{ℕ, ◌≡◌, List, [], ◌∷◌, Option, Some, None, unwrap_or}
use Rattle.std.specs.List.{flat_map}
use Rattle.mm_base.specs.declared.symbols.Sym.{Sym}
use Rattle.mm_base.specs.declared.tree.Tree.{Tree}
use Rattle.mm_base.specs.declared.tree.Tree.TheVariants.{Var, Work, Fresh, Node}
use Rattle.mm_base.specs.declared.tree.Tree.TheOpen.{Tree-F}
use Rattle.mm_base.specs.declared.tree.Tree.TheFolds.{fold-Tree}
use Rattle.mm_model.specs.declared.rows.Leaf.{Leaf}
use Rattle.mm_model.specs.declared.rows.Leaf.TheVariants as leaf
use Rattle.mm_model.specs.declared.rows.Production.{Production}
use Rattle.mm_base.specs.declared.symbols.Typecode.{Typecode}
use Rattle.mm_model.specs.Texts.{text}
use Rattle.mm_base.specs.Trees.{code_of}
use Rattle.mm_model.specs.Typed.{IsTyped}

-- a tree for each of some leaves of a text: variables and work variables; a fresh leaf is none of them
abbrev pub Substitution : Type 0
Substitution = Leaf → Option Tree

-- constants stay
abbrev pub KeepsConstants : Substitution → Type 0
KeepsConstants s = (c : Sym) → s (leaf.Const c) ≡ None

-- one layer, where the children are replaced already
abbrev pub layer_substitute : Substitution → Tree-F Tree → Tree
layer_substitute s (Tree-F.Var v c) = unwrap_or (s (leaf.Var v c)) (Var v c)
layer_substitute s (Tree-F.Work c n) = unwrap_or (s (leaf.Work c n)) (Work c n)
layer_substitute s (Tree-F.Fresh c n) = Fresh c n
layer_substitute s (Tree-F.Node l c ts) = Node l c ts

-- the tree, with its variables and work variables replaced; constants and fresh leaves stay
unfoldable pub substitute : Substitution → Tree → Tree
substitute s = fold-Tree Tree (layer_substitute s)

-- what stands for a leaf of a text
abbrev pub leaf_text : List Production → Leaf → Option Tree → List Leaf
leaf_text rows x None = x ∷ []
leaf_text rows x (Some t) = text rows t

-- the text, with its variables and work variables replaced by texts
abbrev pub substitute_text : List Production → Substitution → List Leaf → List Leaf
substitute_text rows s = flat_map (λ x. leaf_text rows x (s x))

-- the leaf is a variable of this typecode
abbrev pub HasCode : Leaf → Typecode → Type 0
HasCode (leaf.Const v) d = ⊥
HasCode (leaf.Var v c) d = d ≡ c
HasCode (leaf.Work c n) d = d ≡ c

-- each leaf that is replaced has the typecode of its tree, which is typed; no constant is replaced
abbrev pub IsSubstitution : List Production → ℕ → Substitution → Type 0
IsSubstitution rows before s = (x : Leaf) (t : Tree) → s x ≡ Some t → HasCode x (code_of t) × IsTyped rows before t
