-- The store of shared terms, and its solutions.
use Rattle.std.specs.Prelude.{◌≡◌, ℕ, ◌<◌, ◌++◌, Bool, false, List, [], ◌∷◌, length, map, take, slice_index_or, ⊤}
use Rattle.std.specs.List.{AllByRecursion}
use Rattle.mm_base.specs.declared.symbols.Label.{Label}
use Rattle.mm_base.specs.declared.symbols.Typecode.{Typecode}
use Rattle.mm_base.specs.declared.tree.Tree.{Tree}
use Rattle.mm_base.specs.declared.tree.Tree.TheVariants as tree
use Rattle.mm_base.specs.Trees.{code_of}
use Rattle.term_model.specs.declared.shape.Id.{Id}
use Rattle.term_model.specs.Terms.{Term, Var, Free, Node, term_code, term_at, no_code, HasChildrenBelow}
use Rattle.term_model.specs.Links.{Link, end_of, InOrder}

abbrev pub tree_at : List Tree → ℕ → Tree
tree_at trees i = slice_index_or trees i (tree.Fresh no_code 0)

abbrev pub trees_at : List Tree → List Id → List Tree
trees_at trees children = map (λ (id : Id). tree_at trees id.0) children

-- a tree is what a term asks for, where the nodes have these trees
abbrev pub Fits : List Tree → Tree → Term → Type 0
Fits trees t (Var sym code) = t ≡ tree.Var sym code
Fits trees t (Free code) = code_of t ≡ code
Fits trees t (Node label code constants children) = t ≡ tree.Node label code (trees_at trees children)

-- a bound node has the tree of the node that it is bound to
abbrev pub Respects : List Tree → List Link → Type 0
Respects trees links = AllByRecursion (λ (link : Link). tree_at trees link.from ≡ tree_at trees link.to) links

-- one finite tree a node, which respects the terms and the bindings
pub record Solution (nodes : List Term) (links : List Link) (trees : List Tree) : Type 0 where
  pub count : length trees ≡ length nodes
  pub nodes_fit : (i : ℕ) → i < length nodes → Fits trees (tree_at trees i) (term_at nodes i)
  pub links_fit : Respects trees links

abbrev pub HasSolution : List Term → List Link → Type 0
HasSolution nodes links = (trees : List Tree) × Solution nodes links trees

abbrev pub ends_of : List Link → List Id → List ℕ
ends_of links children = map (λ (id : Id). end_of links id.0) children

-- a production of the same label, with children that end where these do
abbrev pub IsSameNode : List Link → Label → Typecode → List Id → Term → Type 0
IsSameNode links label code children (Var sym code') = ⊥
IsSameNode links label code children (Free code') = ⊥
IsSameNode links label code children (Node label' code' constants' children') = (label ≡ label') × (code ≡ code') × (ends_of links children ≡ ends_of links children')

-- the second term is what the first asks for
abbrev pub Agrees : List Link → Term → Term → Type 0
Agrees links (Var sym code) e = e ≡ Var sym code
Agrees links (Free code) e = ⊤
Agrees links (Node label code constants children) e = IsSameNode links label code children e

-- each bound node ends at a node that is what it asks for
abbrev pub IsClosed : List Term → List Link → Type 0
IsClosed nodes links = (i : ℕ) → i < length nodes → Agrees links (term_at nodes i) (term_at nodes (end_of links i))

-- each node agrees with where the first k links lead it
pub record IsClosedUpTo (k : ℕ) (nodes : List Term) (links : List Link) : Type 0 where
  pub agrees : (i : ℕ) → i < length nodes → Agrees links (term_at nodes i) (term_at nodes (end_of (take k links) i))

-- the bindings are closed, and some solution exists
pub record IsSolved (nodes : List Term) (links : List Link) : Type 0 where
  pub closed : IsClosed nodes links
  pub solution : HasSolution nodes links

-- the store as contracts see it: its nodes, its bindings in the order in which they were made, and whether it has room for every binding
pub record Store : Type 0 where
  pub nodes : List Term
  pub links : List Link
  pub ready : Bool

abbrev pub with_node : Store → Term → Store
with_node s e = record { nodes = s.nodes ++ e ∷ []; links = s.links; ready = false }

abbrev pub with_link : Store → Link → Store
with_link s link = record { nodes = s.nodes; links = s.links ++ link ∷ []; ready = s.ready }

-- the first nodes and the first bindings
abbrev pub cut_to : Store → ℕ → ℕ → Store
cut_to s nodes trail = record { nodes = take nodes s.nodes; links = take trail s.links; ready = s.ready }

-- each binding joins two nodes of one typecode
abbrev pub HaveSameCodes : List Term → List Link → Type 0
HaveSameCodes nodes links = AllByRecursion (λ (link : Link). term_code (term_at nodes link.from) ≡ term_code (term_at nodes link.to)) links

-- what is true of every store
pub record IsStore (nodes : List Term) (links : List Link) : Type 0 where
  pub children : (i : ℕ) → i < length nodes → HasChildrenBelow i (term_at nodes i)
  pub in_order : InOrder (length nodes) links
  pub codes : HaveSameCodes nodes links
