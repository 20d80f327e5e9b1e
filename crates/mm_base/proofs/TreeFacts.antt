-- A fact of each layer of a tree, at a leaf and at a node. What differs between trees.
use Rattle.std.specs.Prelude.{◌≡◌, ℕ, List, [], ◌∷◌, map, refl}
use Rattle.std.proofs.Common.{sym, subst, ap, ◌∙◌}
use Rattle.mm_base.specs.declared.symbols.Sym.{Sym}
use Rattle.mm_base.specs.declared.symbols.Label.{Label}
use Rattle.mm_base.specs.declared.symbols.Typecode.{Typecode}
use Rattle.mm_base.specs.declared.tree.Tree.{Tree, out-Tree}
use Rattle.mm_base.specs.declared.tree.Tree.TheVariants.{Var, Work, Fresh, Node, rolls-Var, rolls-Work, rolls-Node, outs-Var, outs-Work, outs-Fresh, outs-Node}
use Rattle.mm_base.specs.declared.tree.Tree.TheOpen.{Tree-F}
use Rattle.mm_base.specs.declared.tree.Tree.TheFolds.{map-Tree, every-Tree, every_here-Tree, every_held-Tree, every_made-Tree}
use Rattle.mm_base.specs.Trees.{Each}

module _ (Q : Tree-F Tree → Type 0) where
  abbrev Held : Type 0
  Held = (t : Tree) × every-Tree Q t

  held : (ts : List Tree) → Each (every-Tree Q) ts → (es : List Held) × (map (λ (e : Held). e.0) es ≡ ts)
  held [] h = ([], refl)
  held (t ∷ ts) h = let rest = held ts h.1 in ((t, h.0) ∷ rest.0, ap (λ xs. t ∷ xs) rest.1)

  each_held : (es : List Held) → Each (every-Tree Q) (map (λ (e : Held). e.0) es)
  each_held [] = tt
  each_held (e ∷ es) = (e.1, each_held es)

  pub every-Var : (s : Sym) (c : Typecode) → Q (Tree-F.Var s c) → every-Tree Q (Var s c)
  every-Var s c q = subst (every-Tree Q) (rolls-Var s c) (every_made-Tree Q (Tree-F.Var s c) (Tree-F.Var s c) refl q)

  pub every-Work : (c : Typecode) (n : ℕ) → Q (Tree-F.Work c n) → every-Tree Q (Work c n)
  every-Work c n q = subst (every-Tree Q) (rolls-Work c n) (every_made-Tree Q (Tree-F.Work c n) (Tree-F.Work c n) refl q)

  pub every-Node : (l : Label) (c : Typecode) (ts : List Tree) → Q (Tree-F.Node l c ts) → Each (every-Tree Q) ts → every-Tree Q (Node l c ts)
  every-Node l c ts q h =
      let es = held ts h in
      subst (every-Tree Q) (rolls-Node l c ts) (every_made-Tree Q (Tree-F.Node l c ts) (Tree-F.Node l c es.0) (ap (λ xs. Tree-F.Node l c xs) es.1) q)

  pub node_here : (l : Label) (c : Typecode) (ts : List Tree) → every-Tree Q (Node l c ts) → Q (Tree-F.Node l c ts)
  node_here l c ts h = subst Q (outs-Node l c ts) (every_here-Tree Q (Node l c ts) h)

  pub fresh_here : (c : Typecode) (n : ℕ) → every-Tree Q (Fresh c n) → Q (Tree-F.Fresh c n)
  fresh_here c n h = subst Q (outs-Fresh c n) (every_here-Tree Q (Fresh c n) h)

  children_held : (y : Tree-F Held) (l : Label) (c : Typecode) (ts : List Tree) → map-Tree Held Tree (λ e. e.0) y ≡ Tree-F.Node l c ts → Each (every-Tree Q) ts
  children_held (Tree-F.Var s d) l c ts e = absurd (cc)
  children_held (Tree-F.Work d n) l c ts e = absurd (cc)
  children_held (Tree-F.Fresh d n) l c ts e = absurd (cc)
  children_held (Tree-F.Node m d es) l c ts e =
      let same : map (λ (x : Held). x.0) es ≡ ts = cc in
      subst (Each (every-Tree Q)) same (each_held es)

  pub node_held : (l : Label) (c : Typecode) (ts : List Tree) → every-Tree Q (Node l c ts) → Each (every-Tree Q) ts
  node_held l c ts h =
      let y = every_held-Tree Q (Node l c ts) h in
      children_held y.0 l c ts (y.1 ∙ outs-Node l c ts)

pub record SameNode (l m : Label) (c d : Typecode) (ts us : List Tree) : Type 0 where
  pub label : l ≡ m
  pub code : c ≡ d
  pub children : ts ≡ us

pub same_node : (l m : Label) (c d : Typecode) (ts us : List Tree) → Node l c ts ≡ Node m d us → SameNode l m c d ts us
same_node l m c d ts us e =
    let out : Tree-F.Node l c ts ≡ Tree-F.Node m d us = sym (outs-Node l c ts) ∙ ap out-Tree e ∙ outs-Node m d us in
    record { label = cc; code = cc; children = cc }

pub var_is_no_node : (s : Sym) (c : Typecode) (l : Label) (d : Typecode) (ts : List Tree) → Var s c ≡ Node l d ts → ⊥
var_is_no_node s c l d ts e =
    let out : ◌≡◌ {A = Tree-F Tree} (Tree-F.Var s c) (Tree-F.Node l d ts) = sym (outs-Var s c) ∙ ap out-Tree e ∙ outs-Node l d ts in
    cc

pub work_is_no_node : (c : Typecode) (n : ℕ) (l : Label) (d : Typecode) (ts : List Tree) → Work c n ≡ Node l d ts → ⊥
work_is_no_node c n l d ts e =
    let out : ◌≡◌ {A = Tree-F Tree} (Tree-F.Work c n) (Tree-F.Node l d ts) = sym (outs-Work c n) ∙ ap out-Tree e ∙ outs-Node l d ts in
    cc
