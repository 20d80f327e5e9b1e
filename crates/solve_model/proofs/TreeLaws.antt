-- The equations of what is defined on trees.
use Rattle.std.specs.Prelude.{◌≡◌, ℕ, Bool, List, [], ◌∷◌, map}
use Rattle.std.proofs.Common.{ap}
use Rattle.mm_base.specs.declared.symbols.Sym.{Sym}
use Rattle.mm_base.specs.declared.symbols.Label.{Label}
use Rattle.mm_base.specs.declared.symbols.Typecode.{Typecode}
use Rattle.mm_base.specs.declared.tree.Tree.{Tree, out-Tree}
use Rattle.mm_base.specs.declared.tree.Tree.TheVariants.{Var, Work, Fresh, Node, outs-Var, outs-Work, outs-Fresh, outs-Node}
use Rattle.mm_base.specs.declared.tree.Tree.TheOpen.{Tree-F}
use Rattle.mm_base.proofs.TreeFolds.{fold-Var, fold-Work, fold-Fresh, fold-Node}
pub use Rattle.mm_base.proofs.SameTrees.{same-Var, same-Work, same-Fresh, same-Node}
use Rattle.solve_model.specs.Trees.{Open, work, fresh, replace, open_leaves, variables, flatten}

module _ (at_var : Sym → Typecode → Tree) (at_open : Open → Tree) where
  pub replace-Var : (s : Sym) (c : Typecode) → replace at_var at_open (Var s c) ≡ at_var s c
  unfolding replace
  replace-Var s c = fold-Var Tree _ s c

  pub replace-Work : (c : Typecode) (n : ℕ) → replace at_var at_open (Work c n) ≡ at_open (work c n)
  unfolding replace
  replace-Work c n = fold-Work Tree _ c n

  pub replace-Fresh : (c : Typecode) (n : ℕ) → replace at_var at_open (Fresh c n) ≡ at_open (fresh c n)
  unfolding replace
  replace-Fresh c n = fold-Fresh Tree _ c n

  pub replace-Node : (l : Label) (c : Typecode) (ts : List Tree) → replace at_var at_open (Node l c ts) ≡ Node l c (map (replace at_var at_open) ts)
  unfolding replace
  replace-Node l c ts = fold-Node Tree _ l c ts

pub ruleset replaces = (replace-Var, replace-Work, replace-Fresh, replace-Node)

pub open_leaves-Var : (s : Sym) (c : Typecode) → open_leaves (Var s c) ≡ []
unfolding open_leaves
open_leaves-Var s c = fold-Var (List Open) _ s c

pub open_leaves-Work : (c : Typecode) (n : ℕ) → open_leaves (Work c n) ≡ work c n ∷ []
unfolding open_leaves
open_leaves-Work c n = fold-Work (List Open) _ c n

pub open_leaves-Fresh : (c : Typecode) (n : ℕ) → open_leaves (Fresh c n) ≡ fresh c n ∷ []
unfolding open_leaves
open_leaves-Fresh c n = fold-Fresh (List Open) _ c n

pub open_leaves-Node : (l : Label) (c : Typecode) (ts : List Tree) → open_leaves (Node l c ts) ≡ flatten (map open_leaves ts)
unfolding open_leaves
open_leaves-Node l c ts = fold-Node (List Open) _ l c ts

pub variables-Var : (s : Sym) (c : Typecode) → variables (Var s c) ≡ s ∷ []
unfolding variables
variables-Var s c = fold-Var (List Sym) _ s c

pub variables-Work : (c : Typecode) (n : ℕ) → variables (Work c n) ≡ []
unfolding variables
variables-Work c n = fold-Work (List Sym) _ c n

pub variables-Fresh : (c : Typecode) (n : ℕ) → variables (Fresh c n) ≡ []
unfolding variables
variables-Fresh c n = fold-Fresh (List Sym) _ c n

pub variables-Node : (l : Label) (c : Typecode) (ts : List Tree) → variables (Node l c ts) ≡ flatten (map variables ts)
unfolding variables
variables-Node l c ts = fold-Node (List Sym) _ l c ts

pub ruleset leaves = (open_leaves-Var, open_leaves-Work, open_leaves-Fresh, open_leaves-Node, variables-Var, variables-Work, variables-Fresh, variables-Node)

pub ruleset same_trees = (same-Var, same-Work, same-Fresh, same-Node, outs-Var, outs-Work, outs-Fresh, outs-Node)
