-- Typed trees, at a leaf and at a node.
use Rattle.std.specs.Prelude.{◌≡◌, ℕ, List}
use Rattle.std.proofs.Common.{ap}
use Rattle.mm_base.specs.declared.symbols.Sym.{Sym}
use Rattle.mm_base.specs.declared.symbols.Label.{Label}
use Rattle.mm_base.specs.declared.symbols.Typecode.{Typecode}
use Rattle.mm_base.specs.declared.tree.Tree.{Tree}
use Rattle.mm_base.specs.declared.tree.Tree.TheVariants.{Var, Work, Fresh, Node, outs-Var, outs-Work, outs-Node}
use Rattle.mm_base.specs.declared.tree.Tree.TheOpen.{Tree-F}
use Rattle.mm_model.specs.declared.rows.Production.{Production}
use Rattle.mm_base.specs.Trees.{Each}
use Rattle.mm_base.proofs.TreeFacts.{every-Var, every-Work, every-Node, node_here, node_held, fresh_here}
use Rattle.mm_base.specs.Trees.{layer_code, code_of}
use Rattle.mm_model.specs.Typed.{LayerIsTyped, LayerIsNamed, IsTyped, HasNoFresh}

pub code-Var : (s : Sym) (c : Typecode) → code_of (Var s c) ≡ c
code-Var s c = ap layer_code (outs-Var s c)

pub code-Work : (c : Typecode) (n : ℕ) → code_of (Work c n) ≡ c
code-Work c n = ap layer_code (outs-Work c n)

pub code-Node : (l : Label) (c : Typecode) (ts : List Tree) → code_of (Node l c ts) ≡ c
code-Node l c ts = ap layer_code (outs-Node l c ts)

module _ (rows : List Production) (before : ℕ) where
  pub typed-Var : (s : Sym) (c : Typecode) → IsTyped rows before (Var s c)
  unfolding IsTyped
  typed-Var s c = every-Var (LayerIsTyped rows before) s c tt

  pub typed-Work : (c : Typecode) (n : ℕ) → IsTyped rows before (Work c n)
  unfolding IsTyped
  typed-Work c n = every-Work (LayerIsTyped rows before) c n tt

  pub typed-Node : (l : Label) (c : Typecode) (ts : List Tree) → LayerIsTyped rows before (Tree-F.Node l c ts) → Each (IsTyped rows before) ts → IsTyped rows before (Node l c ts)
  unfolding IsTyped
  typed-Node l c ts q h = every-Node (LayerIsTyped rows before) l c ts q h

  pub typed_here : (l : Label) (c : Typecode) (ts : List Tree) → IsTyped rows before (Node l c ts) → LayerIsTyped rows before (Tree-F.Node l c ts)
  unfolding IsTyped
  typed_here l c ts h = node_here (LayerIsTyped rows before) l c ts h

  pub typed_held : (l : Label) (c : Typecode) (ts : List Tree) → IsTyped rows before (Node l c ts) → Each (IsTyped rows before) ts
  unfolding IsTyped
  typed_held l c ts h = node_held (LayerIsTyped rows before) l c ts h

pub named-Var : (s : Sym) (c : Typecode) → HasNoFresh (Var s c)
unfolding HasNoFresh
named-Var s c = every-Var LayerIsNamed s c tt

pub named-Work : (c : Typecode) (n : ℕ) → HasNoFresh (Work c n)
unfolding HasNoFresh
named-Work c n = every-Work LayerIsNamed c n tt

pub named-Node : (l : Label) (c : Typecode) (ts : List Tree) → Each HasNoFresh ts → HasNoFresh (Node l c ts)
unfolding HasNoFresh
named-Node l c ts h = every-Node LayerIsNamed l c ts tt h

pub named_held : (l : Label) (c : Typecode) (ts : List Tree) → HasNoFresh (Node l c ts) → Each HasNoFresh ts
unfolding HasNoFresh
named_held l c ts h = node_held LayerIsNamed l c ts h

pub fresh_is_not_named : (c : Typecode) (n : ℕ) → HasNoFresh (Fresh c n) → ⊥
unfolding HasNoFresh
fresh_is_not_named c n h = fresh_here LayerIsNamed c n h
