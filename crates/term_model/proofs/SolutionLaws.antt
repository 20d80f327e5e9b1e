-- What every solution of a store respects, and what a binding forces.
use Rattle.std.proofs.Common.{◌≡◌, ℕ, List, [], ◌∷◌, ◌++◌, refl, ap, sym, ◌∙◌, inl, inr}
use Rattle.std.proofs.lemmas.Bool.{cases_eq, eq-eqb, ne_eqb}
use Rattle.mm_base.specs.declared.symbols.Sym.{Sym}
use Rattle.mm_base.specs.declared.symbols.Label.{Label}
use Rattle.mm_base.specs.declared.symbols.Typecode.{Typecode}
use Rattle.mm_base.specs.declared.tree.Tree.{Tree}
use Rattle.mm_base.specs.Trees.{code_of}
use Rattle.term_model.proofs.TreeLaws.{code_of-Var, code_of-Node, Node-parts, Var-parts, Var-no-Node}
use Rattle.term_model.specs.declared.shape.Id.{Id}
use Rattle.term_model.specs.Terms.{Term, Var, Free, Node, term_code}
use Rattle.term_model.specs.Links.{Link, end_of}
use Rattle.term_model.specs.Store.{tree_at, trees_at, Fits, Respects, Solution}

-- a node has the tree of its end
pub respects_end : (trees : List Tree) (links : List Link) (i : ℕ) → Respects trees links → tree_at trees i ≡ tree_at trees (end_of links i)
respects_end trees [] i r = refl
respects_end trees (l ∷ links) i r =
    elim (cases_eq i l.from) [
      | inl at ↦ rw (eq-eqb i l.from at) (ap (tree_at trees) at ∙ r.0 ∙ respects_end trees links l.to r.1)
      | inr past ↦ rw (ne_eqb i l.from past) (respects_end trees links i r.1)
    ]

pub respects_push : (trees : List Tree) (links : List Link) (link : Link) → Respects trees links → tree_at trees link.from ≡ tree_at trees link.to → Respects trees (links ++ link ∷ [])
respects_push trees [] link r e = (e, tt)
respects_push trees (l ∷ links) link r e = (r.0, respects_push trees links link r.1 e)

pub respects_front : (trees : List Tree) (links more : List Link) → Respects trees (links ++ more) → Respects trees links
respects_front trees [] more r = tt
respects_front trees (l ∷ links) more r = (r.0, respects_front trees links more r.1)

-- nodes with one end have one tree
pub same_end : (trees : List Tree) (links : List Link) (i j : ℕ) → Respects trees links → end_of links i ≡ end_of links j → tree_at trees i ≡ tree_at trees j
same_end trees links i j r e = respects_end trees links i r ∙ ap (tree_at trees) e ∙ sym (respects_end trees links j r)

-- a binding of two ends is forced where the nodes have one tree
pub solution_push : (nodes : List Term) (links : List Link) (trees : List Tree) (i j : ℕ) → Solution nodes links trees
    → tree_at trees i ≡ tree_at trees j → Solution nodes (links ++ record { from = end_of links i; to = end_of links j } ∷ []) trees
solution_push nodes links trees i j s e = record {
  count = s.count;
  nodes_fit = s.nodes_fit;
  links_fit = respects_push trees links _ s.links_fit (sym (respects_end trees links i s.links_fit) ∙ e ∙ respects_end trees links j s.links_fit);
}

-- a solution after more bindings is one before
pub solution_front : (nodes : List Term) (links more : List Link) (trees : List Tree) → Solution nodes (links ++ more) trees → Solution nodes links trees
solution_front nodes links more trees s = record { count = s.count; nodes_fit = s.nodes_fit; links_fit = respects_front trees links more s.links_fit }

-- a tree that fits a node has its typecode
pub fits_code : (trees : List Tree) (t : Tree) (e : Term) → Fits trees t e → code_of t ≡ term_code e
fits_code trees t (Var s c) f = ap code_of f ∙ code_of-Var s c
fits_code trees t (Free c) f = f
fits_code trees t (Node l c k kids) f = ap code_of f ∙ code_of-Node l c (trees_at trees kids)

-- two nodes with one tree: their children have the same trees
pub fits_Node : (trees : List Tree) (t : Tree) (l m : Label) (c d : Typecode) (k h : ℕ) (xs ys : List Id) → Fits trees t (Node l c k xs)
    → Fits trees t (Node m d h ys) → (l ≡ m) × (c ≡ d) × (trees_at trees xs ≡ trees_at trees ys)
fits_Node trees t l m c d k h xs ys f g = Node-parts l m c d (trees_at trees xs) (trees_at trees ys) (sym f ∙ g)

pub fits_Var : (trees : List Tree) (t : Tree) (x y : Sym) (c d : Typecode) → Fits trees t (Var x c) → Fits trees t (Var y d) → (x ≡ y) × (c ≡ d)
fits_Var trees t x y c d f g = Var-parts x y c d (sym f ∙ g)

pub fits_Var_Node : (trees : List Tree) (t : Tree) (x : Sym) (c d : Typecode) (m : Label) (h : ℕ) (ys : List Id) → Fits trees t (Var x c) → Fits trees t (Node m d h ys) → ⊥
fits_Var_Node trees t x c d m h ys f g = Var-no-Node x c m d (trees_at trees ys) (sym f ∙ g)
