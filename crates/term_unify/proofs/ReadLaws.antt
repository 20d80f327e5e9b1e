-- What the shape of a node says of its tree.
use Rattle.std.proofs.Common.{◌≡◌, ℕ, ◌+◌, ◌<◌, ◌≤◌, Some, None, List, [], ◌∷◌, ◌++◌, length, take, get_or, map, refl, ap, sym, ◌∙◌, subst, arith}
use Rattle.std.specs.Prelude.{slice_get}
use Rattle.std.proofs.lemmas.List.{map_push, take_more, take_all, length-map}
use Rattle.std.proofs.lemmas.Option.{get_or_from_slice_get}
use Rattle.mm_base.specs.declared.symbols.Sym.{Sym}
use Rattle.mm_base.specs.declared.symbols.Label.{Label}
use Rattle.mm_base.specs.declared.symbols.Typecode.{Typecode}
use Rattle.mm_base.specs.declared.tree.Tree.{Tree}
use Rattle.mm_base.specs.declared.tree.Tree.TheVariants as tree
use Rattle.mm_base.specs.declared.tree.Tree.TheOpen.{Tree-F}
use Rattle.mm_base.specs.declared.tree.Tree.TheVariants.{rolls-Fresh}
use Rattle.mm_base.specs.declared.tree.Tree.TheFolds.{every-Tree, every_made-Tree}
use Rattle.mm_base.specs.Trees.{Each}
use Rattle.mm_base.proofs.TreeFolds.{fold-Var, fold-Fresh, fold-Node}
use Rattle.mm_base.proofs.TreeFacts.{every-Var, every-Node}
use Rattle.term_model.specs.Links.{Link, target_of}
use Rattle.term_model.specs.Ranks.{IsAbove}
use Rattle.term_unify.specs.Read.{fill_step, filled, IsFreshOf, HasFreshOf}
use Rattle.term_model.specs.declared.shape.Id.{Id}
use Rattle.term_model.specs.declared.shape.Shape.{Shape}
use Rattle.term_model.specs.Terms.{Term, Var, Free, Node, term_at, children_of, shape_of}
use Rattle.term_model.specs.Links.{end_of}
use Rattle.term_model.specs.Store.{Fits, Solution, tree_at, trees_at}
use Rattle.term_model.proofs.SolutionLaws.{respects_end}
use Rattle.term_unify.proofs.StepLaws.{slice_get-map}

pub filled-Var : (at : ℕ → Tree) (s : Sym) (code : Typecode) → filled at (tree.Var s code) ≡ tree.Var s code
unfolding filled
filled-Var at s code = fold-Var Tree (fill_step at) s code

pub filled-Fresh : (at : ℕ → Tree) (code : Typecode) (n : ℕ) → filled at (tree.Fresh code n) ≡ at n
unfolding filled
filled-Fresh at code n = fold-Fresh Tree (fill_step at) code n

pub filled-Node : (at : ℕ → Tree) (label : Label) (code : Typecode) (kids : List Tree) → filled at (tree.Node label code kids) ≡ tree.Node label code (map (filled at) kids)
unfolding filled
filled-Node at label code kids = fold-Node Tree (fill_step at) label code kids

pub fits_shape_Var : (trees : List Tree) (t : Tree) (e : Term) (s : Sym) (c : Typecode) → shape_of e ≡ Shape.Var s c → Fits trees t e → t ≡ tree.Var s c
fits_shape_Var trees t (Var x d) s c e f = let parts : ◌≡◌ {A = Shape} (Shape.Var x d) (Shape.Var s c) = e in let a : x ≡ s = cc in let b : d ≡ c = cc in rw (← a, ← b) f
fits_shape_Var trees t (Free d) s c e f = let impossible : ◌≡◌ {A = Shape} (Shape.Free d) (Shape.Var s c) = e in cc
fits_shape_Var trees t (Node m d k xs) s c e f = let impossible : ◌≡◌ {A = Shape} (Shape.Node m d (length xs)) (Shape.Var s c) = e in cc

pub fits_shape_Node : (trees : List Tree) (t : Tree) (e : Term) (l : Label) (c : Typecode) (n : ℕ) → shape_of e ≡ Shape.Node l c n → Fits trees t e
    → (t ≡ tree.Node l c (trees_at trees (children_of e))) × (length (children_of e) ≡ n)
fits_shape_Node trees t (Var x d) l c n e f = let impossible : ◌≡◌ {A = Shape} (Shape.Var x d) (Shape.Node l c n) = e in cc
fits_shape_Node trees t (Free d) l c n e f = let impossible : ◌≡◌ {A = Shape} (Shape.Free d) (Shape.Node l c n) = e in cc
fits_shape_Node trees t (Node m d k xs) l c n e f =
    let parts : ◌≡◌ {A = Shape} (Shape.Node m d (length xs)) (Shape.Node l c n) = e in
    let a : m ≡ l = cc in let b : d ≡ c = cc in let h : length xs ≡ n = cc in
    (rw (← a, ← b) f, h)

module _ (nodes : List Term) (links : List Link) (i end : ℕ) (is : end ≡ end_of links i) (below : end < length nodes) (trees : List Tree) (sol : Solution nodes links trees) where
  tree_of_end : tree_at trees i ≡ tree_at trees end
  tree_of_end = rw is (respects_end trees links i sol.links_fit)

  pub read_Var : (sym' : Sym) (c : Typecode) → shape_of (term_at nodes end) ≡ Shape.Var sym' c → filled (tree_at trees) (tree.Var sym' c) ≡ tree_at trees i
  read_Var sym' c e = filled-Var (tree_at trees) sym' c ∙ sym (tree_of_end ∙ fits_shape_Var trees (tree_at trees end) (term_at nodes end) sym' c e (sol.nodes_fit end below))

  pub read_Fresh : (c : Typecode) → filled (tree_at trees) (tree.Fresh c end) ≡ tree_at trees i
  read_Fresh c = filled-Fresh (tree_at trees) c end ∙ sym tree_of_end

  pub read_Node : (l : Label) (c : Typecode) (n k : ℕ) (kids : List Tree) → shape_of (term_at nodes end) ≡ Shape.Node l c n → n ≤ k
      → map (filled (tree_at trees)) kids ≡ take k (trees_at trees (children_of (term_at nodes end)))
      → filled (tree_at trees) (tree.Node l c kids) ≡ tree_at trees i
  read_Node l c n k kids e h m =
      let at : Id → Tree = λ (id : Id). tree_at trees id.0 in
      let fit = fits_shape_Node trees (tree_at trees end) (term_at nodes end) l c n e (sol.nodes_fit end below) in
      let whole : take k (trees_at trees (children_of (term_at nodes end))) ≡ trees_at trees (children_of (term_at nodes end)) =
      take_all k (trees_at trees (children_of (term_at nodes end))) (omega (arith, length-map (children_of (term_at nodes end)) at, fit.1)) in
      filled-Node (tree_at trees) l c kids ∙ ap (tree.Node l c) (m ∙ whole) ∙ sym (tree_of_end ∙ fit.0)

-- one more child has been read
pub read_more : (trees : List Tree) (xs : List Id) (k : ℕ) (child : Id) (kids more : List Tree) (t : Tree) → more ≡ kids ++ t ∷ []
    → slice_get xs k ≡ Some child → k < length xs → filled (tree_at trees) t ≡ tree_at trees child.0
    → map (filled (tree_at trees)) kids ≡ take k (trees_at trees xs) → map (filled (tree_at trees)) more ≡ take (k + 1) (trees_at trees xs)
read_more trees xs k child kids more t e at h f m =
    let tree' : Id → Tree = λ (id : Id). tree_at trees id.0 in
    let all = trees_at trees xs in
    let here : get_or all k t ≡ tree_at trees child.0 = get_or_from_slice_get all k (tree' child) t (slice_get-map tree' xs k child at) in
    rw (e, map_push (filled (tree_at trees)) kids t, m, f, take_more all k t (omega (arith, length-map xs tree')), here) refl

pub shape_count : (e : Term) (l : Label) (c : Typecode) (n : ℕ) → shape_of e ≡ Shape.Node l c n → length (children_of e) ≡ n
shape_count (Var x d) l c n e = let impossible : ◌≡◌ {A = Shape} (Shape.Var x d) (Shape.Node l c n) = e in cc
shape_count (Free d) l c n e = let impossible : ◌≡◌ {A = Shape} (Shape.Free d) (Shape.Node l c n) = e in cc
shape_count (Node m d k xs) l c n e = let parts : ◌≡◌ {A = Shape} (Shape.Node m d (length xs)) (Shape.Node l c n) = e in cc

-- ---- the fresh leaves

shape_free : (e : Term) (c : Typecode) → shape_of e ≡ Shape.Free c → e ≡ Free c
shape_free (Var x d) c e = let impossible : ◌≡◌ {A = Shape} (Shape.Var x d) (Shape.Free c) = e in cc
shape_free (Free d) c e = let parts : ◌≡◌ {A = Shape} (Shape.Free d) (Shape.Free c) = e in let same : d ≡ c = cc in ap Free same
shape_free (Node m d k xs) c e = let impossible : ◌≡◌ {A = Shape} (Shape.Node m d (length xs)) (Shape.Free c) = e in cc

module _ (nodes : List Term) (links : List Link) where
  pub fresh_Var : (x : Sym) (c : Typecode) → HasFreshOf nodes links (tree.Var x c)
  fresh_Var x c = every-Var (IsFreshOf nodes links) x c tt

  pub fresh_Fresh : (c : Typecode) (n : ℕ) → n < length nodes → target_of links n ≡ None → shape_of (term_at nodes n) ≡ Shape.Free c → HasFreshOf nodes links (tree.Fresh c n)
  fresh_Fresh c n below free shape =
      let Q : Tree-F Tree → Type 0 = IsFreshOf nodes links in
      subst (every-Tree Q) (rolls-Fresh c n) (every_made-Tree Q (Tree-F.Fresh c n) (Tree-F.Fresh c n) refl (below, free, shape_free (term_at nodes n) c shape))

  pub fresh_Node : (l : Label) (c : Typecode) (ts : List Tree) → Each (HasFreshOf nodes links) ts → HasFreshOf nodes links (tree.Node l c ts)
  fresh_Node l c ts h = every-Node (IsFreshOf nodes links) l c ts tt h

  pub fresh_more : (ts : List Tree) (t : Tree) → Each (HasFreshOf nodes links) ts → HasFreshOf nodes links t → Each (HasFreshOf nodes links) (ts ++ t ∷ [])
  fresh_more [] t h f = (f, tt)
  fresh_more (u ∷ ts) t h f = (h.0, fresh_more ts t h.1 f)

-- ---- the depth

pub above_zero : (nodes : List Term) (links : List Link) (depth i : ℕ) → IsAbove nodes links depth i → 0 < depth
above_zero nodes links depth i a = omega (arith, a.2)

-- a child's tree is less deep
pub child_above : (nodes : List Term) (links : List Link) (depth less i end k : ℕ) (child : Id) → end ≡ end_of links i → i < length nodes
    → slice_get (children_of (term_at nodes end)) k ≡ Some child → IsAbove nodes links depth i → depth ≡ less + 1 → IsAbove nodes links less child.0
child_above nodes links depth less i end k child is below at a e =
    (a.0, a.1, omega (arith, a.1.falls i k child below (rw is at at), a.2, e))
