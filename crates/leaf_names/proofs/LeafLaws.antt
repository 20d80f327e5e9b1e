-- The equations of the fresh leaves of a tree, and how they stand among its leaves.
use Rattle.std.specs.Prelude.{◌≡◌, ℕ, List, [], ◌∷◌, map}
use Rattle.mm_base.specs.declared.symbols.Sym.{Sym}
use Rattle.mm_base.specs.declared.symbols.Label.{Label}
use Rattle.mm_base.specs.declared.symbols.Typecode.{Typecode}
use Rattle.mm_base.specs.declared.tree.Tree.{Tree}
use Rattle.mm_base.specs.declared.tree.Tree.TheVariants.{Var, Work, Fresh, Node}
use Rattle.mm_base.proofs.TreeFolds.{fold-Var, fold-Work, fold-Fresh, fold-Node}
use Rattle.mm_model.specs.declared.rows.Production.{Production}
use Rattle.mm_model.specs.Texts.{row_of}
use Rattle.leaf_names.specs.Leaves.{FreshLeaf, fresh_leaf, row_leaves, fresh_leaves}

module _ (rows : List Production) where
  pub leaves-Var : (s : Sym) (c : Typecode) → fresh_leaves rows (Var s c) ≡ []
  unfolding fresh_leaves
  leaves-Var s c = fold-Var (List FreshLeaf) _ s c

  pub leaves-Work : (c : Typecode) (n : ℕ) → fresh_leaves rows (Work c n) ≡ []
  unfolding fresh_leaves
  leaves-Work c n = fold-Work (List FreshLeaf) _ c n

  pub leaves-Fresh : (c : Typecode) (n : ℕ) → fresh_leaves rows (Fresh c n) ≡ fresh_leaf c.0.0 n ∷ []
  unfolding fresh_leaves
  leaves-Fresh c n = fold-Fresh (List FreshLeaf) _ c n

  pub leaves-Node : (l : Label) (c : Typecode) (ts : List Tree) → fresh_leaves rows (Node l c ts) ≡ row_leaves (map (fresh_leaves rows) ts) (row_of rows l)
  unfolding fresh_leaves
  leaves-Node l c ts = fold-Node (List FreshLeaf) _ l c ts

pub ruleset leaf_rules = (leaves-Var, leaves-Work, leaves-Fresh, leaves-Node)
