-- The equations of a fold over a tree, and of its top layer.
use Rattle.std.specs.Prelude.{◌≡◌, ℕ, List, map}
use Rattle.std.proofs.Common.{sym, ap, ◌∙◌}
use Rattle.mm_base.specs.declared.symbols.Sym.{Sym}
use Rattle.mm_base.specs.declared.symbols.Label.{Label}
use Rattle.mm_base.specs.declared.symbols.Typecode.{Typecode}
use Rattle.mm_base.specs.declared.tree.Tree.{Tree}
use Rattle.mm_base.specs.declared.tree.Tree.TheVariants.{Var, Work, Fresh, Node, rolls-Var, rolls-Work, rolls-Fresh, rolls-Node, outs-Var, outs-Work, outs-Fresh, outs-Node}
use Rattle.mm_base.specs.declared.tree.Tree.TheOpen.{Tree-F}
use Rattle.mm_base.specs.declared.tree.Tree.TheFolds.{fold-Tree, fold-roll-Tree}

module _ (X : Type 0) (layer : Tree-F X → X) where
  pub fold-Var : (s : Sym) (c : Typecode) → fold-Tree X layer (Var s c) ≡ layer (Tree-F.Var s c)
  fold-Var s c = ap (fold-Tree X layer) (sym (rolls-Var s c)) ∙ fold-roll-Tree X layer (Tree-F.Var s c)

  pub fold-Work : (c : Typecode) (n : ℕ) → fold-Tree X layer (Work c n) ≡ layer (Tree-F.Work c n)
  fold-Work c n = ap (fold-Tree X layer) (sym (rolls-Work c n)) ∙ fold-roll-Tree X layer (Tree-F.Work c n)

  pub fold-Fresh : (c : Typecode) (n : ℕ) → fold-Tree X layer (Fresh c n) ≡ layer (Tree-F.Fresh c n)
  fold-Fresh c n = ap (fold-Tree X layer) (sym (rolls-Fresh c n)) ∙ fold-roll-Tree X layer (Tree-F.Fresh c n)

  pub fold-Node : (l : Label) (c : Typecode) (ts : List Tree) → fold-Tree X layer (Node l c ts) ≡ layer (Tree-F.Node l c (map (fold-Tree X layer) ts))
  fold-Node l c ts = ap (fold-Tree X layer) (sym (rolls-Node l c ts)) ∙ fold-roll-Tree X layer (Tree-F.Node l c ts)

pub ruleset folds = (fold-Var, fold-Work, fold-Fresh, fold-Node, outs-Var, outs-Work, outs-Fresh, outs-Node)
