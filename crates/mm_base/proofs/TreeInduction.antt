-- Induction over trees, with the children as a list.
use Rattle.std.specs.Prelude.{ℕ, List, [], ◌∷◌, map}
use Rattle.std.proofs.Common.{sym, subst}
use Rattle.mm_base.specs.declared.symbols.Sym.{Sym}
use Rattle.mm_base.specs.declared.symbols.Label.{Label}
use Rattle.mm_base.specs.declared.symbols.Typecode.{Typecode}
use Rattle.mm_base.specs.declared.tree.Tree.{Tree}
use Rattle.mm_base.specs.declared.tree.Tree.TheVariants.{Var, Work, Fresh, Node, rolls-Var, rolls-Work, rolls-Fresh, rolls-Node}
use Rattle.mm_base.specs.declared.tree.Tree.TheOpen.{Tree-F}
use Rattle.mm_base.specs.declared.tree.Tree.TheViews.{roll-Tree}
use Rattle.mm_base.specs.declared.tree.Tree.TheFolds.{ind-Tree, map-Tree}
use Rattle.mm_base.specs.Trees.{Each}

each_of : (P : Tree → Type 0) (es : List ((t : Tree) × P t)) → Each P (map (λ e. e.0) es)
each_of P [] = tt
each_of P (e ∷ es) = (e.1, each_of P es)

module _ (P : Tree → Type 0)
    (at_var : (s : Sym) (c : Typecode) → P (Var s c))
    (at_work : (c : Typecode) (n : ℕ) → P (Work c n))
    (at_fresh : (c : Typecode) (n : ℕ) → P (Fresh c n))
    (at_node : (l : Label) (c : Typecode) (ts : List Tree) → Each P ts → P (Node l c ts)) where
  layer_step : (y : Tree-F ((t : Tree) × P t)) → P (roll-Tree (map-Tree ((t : Tree) × P t) Tree (λ e. e.0) y))
  layer_step (Tree-F.Var s c) = subst P (sym (rolls-Var s c)) (at_var s c)
  layer_step (Tree-F.Work c n) = subst P (sym (rolls-Work c n)) (at_work c n)
  layer_step (Tree-F.Fresh c n) = subst P (sym (rolls-Fresh c n)) (at_fresh c n)
  layer_step (Tree-F.Node l c es) = subst P (sym (rolls-Node l c (map (λ e. e.0) es))) (at_node l c (map (λ e. e.0) es) (each_of P es))

  -- what holds of each leaf, and of a node where it holds of its children, holds of each tree
  pub tree_ind : (t : Tree) → P t
  tree_ind = ind-Tree P (λ x y is. subst (λ z. P (roll-Tree z)) is (layer_step y))
