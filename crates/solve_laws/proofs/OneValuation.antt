-- The most general valuation is one, up to the numbers of fresh leaves.
use Rattle.std.specs.Prelude.{◌≡◌, ℕ, zero, suc, ◌≤◌, Contains, List, [], ◌∷◌, map, Option, Some, None, refl}
use Rattle.std.proofs.Common.{sym, ap, subst, ◌∙◌, arith, inl, inr}
use Rattle.std.proofs.lemmas.List.Elements.{Contains-append_left, Contains-append_right, Contains-append_cases}
use Rattle.mm_base.specs.declared.symbols.Typecode.{Typecode}
use Rattle.mm_base.specs.declared.tree.Tree.{Tree, out-Tree}
use Rattle.mm_base.specs.declared.tree.Tree.TheVariants.{Var, Work, Fresh, outs-Var, outs-Work, outs-Fresh, outs-Node}
use Rattle.mm_base.specs.declared.tree.Tree.TheOpen.{Tree-F}
use Rattle.mm_base.proofs.TreeInduction.{tree_ind}
use Rattle.mm_base.specs.Trees.{layer_code, code_of, Each}
use Rattle.mm_model.specs.Book.{Database}
use Rattle.solve_model.specs.declared.bound.Bound.{Bound}
use Rattle.solve_model.specs.Trees.{Open, work, fresh, leaf_tree, open_code, open_leaves, flatten, Occurs}
use Rattle.solve_model.proofs.TreeLaws.{replace-Var, replace-Work, replace-Fresh, replace-Node}
use Rattle.solve_model.specs.Solutions.{Unknown, named, Valuation, IsUnknown, Asked, unknown_code}
use Rattle.solve_model.specs.MostGeneral.{Refinement, refine, IsInstance, IsTheValuation, IsNamedLeaf}
use Rattle.solve_laws.specs.OneValuation.{renumbered, MostGeneralIsOne}
use Rattle.solve_model.proofs.TreeLaws.{open_leaves-Var, open_leaves-Work, open_leaves-Fresh, open_leaves-Node}
use Rattle.solve_laws.proofs.ReplaceLaws.{replace-replace, replace-agree, agree-replace, replace-self}

abbrev open_layer : Tree-F Tree → Option Open
open_layer (Tree-F.Var s c) = None
open_layer (Tree-F.Work c n) = Some (work c n)
open_layer (Tree-F.Fresh c n) = Some (fresh c n)
open_layer (Tree-F.Node l c ts) = None

-- the open leaf that a tree is
abbrev pub open_part : Tree → Option Open
open_part t = open_layer (out-Tree t)

pub open_part-leaf : (x : Open) → open_part (leaf_tree x) ≡ Some x
open_part-leaf (work c n) = ap open_layer (outs-Work c n)
open_part-leaf (fresh c n) = ap open_layer (outs-Fresh c n)

pub leaf_same : (x y : Open) → leaf_tree x ≡ leaf_tree y → x ≡ y
leaf_same x y e = let s : Some x ≡ Some y = sym (open_part-leaf x) ∙ ap open_part e ∙ open_part-leaf y in cc

pub code-leaf : (x : Open) → code_of (leaf_tree x) ≡ open_code x
code-leaf (work c n) = ap layer_code (outs-Work c n)
code-leaf (fresh c n) = ap layer_code (outs-Fresh c n)

pub refine-leaf : (r : Refinement) (x : Open) → refine r (leaf_tree x) ≡ r x
refine-leaf r (work c n) = replace-Work _ r c n
refine-leaf r (fresh c n) = replace-Fresh _ r c n

abbrev IsLeaf : Tree → Type 0
IsLeaf t = (y : Open) × (t ≡ leaf_tree y)

-- what is refined to a leaf is a leaf
pub leaf_from : (r : Refinement) (t : Tree) (x : Open) → refine r t ≡ leaf_tree x → IsLeaf t
leaf_from r = tree_ind (λ t. (x : Open) → refine r t ≡ leaf_tree x → IsLeaf t)
    (λ s c x e. let none : None ≡ Some x = sym (ap open_layer (outs-Var s c)) ∙ ap open_part (sym (replace-Var _ r s c) ∙ e) ∙ open_part-leaf x in absurd (cc))
    (λ c n x e. (work c n, refl))
    (λ c n x e. (fresh c n, refl))
    (λ l c ts h x e. let none : None ≡ Some x = sym (ap open_layer (outs-Node l c _)) ∙ ap open_part (sym (replace-Node _ r l c ts) ∙ e) ∙ open_part-leaf x in absurd (cc))

-- a leaf of what a leaf is refined to is a leaf of the refined tree
module _ (r : Refinement) (x y : Open) where
  abbrev Passes : Tree → Type 0
  Passes t = Occurs x t → Occurs y (r x) → Occurs y (refine r t)

  passes_leaf : (z : Open) (o : Contains (z ∷ []) x) → Occurs y (r x) → Occurs y (r z)
  passes_leaf z (zero, h, e) o = subst (λ w. Occurs y (r w)) (sym e) o
  passes_leaf z (suc k, h, e) o = absurd (omega (arith, h))

  passes_all : (ts : List Tree) → Each Passes ts → Contains (flatten (map open_leaves ts)) x → Occurs y (r x) → Contains (flatten (map open_leaves (map (refine r) ts))) y
  passes_all [] h (k, l, is) o = absurd (omega (arith, l))
  passes_all (t ∷ ts) h m o = elim (Contains-append_cases (open_leaves t) (flatten (map open_leaves ts)) x m) [
    | inl here ↦ Contains-append_left (open_leaves (refine r t)) (flatten (map open_leaves (map (refine r) ts))) y (h.0 here o)
    | inr later ↦ Contains-append_right (open_leaves (refine r t)) (flatten (map open_leaves (map (refine r) ts))) y (passes_all ts h.1 later o)
  ]

  pub occurs-refine : (t : Tree) → Passes t
  occurs-refine = tree_ind Passes
      (λ s c m o. let at : Contains [] x = rw open_leaves-Var at m in absurd (omega (arith, at.1)))
      (λ c n m o. rw replace-Work (passes_leaf (work c n) (rw open_leaves-Work at m) o))
      (λ c n m o. rw replace-Fresh (passes_leaf (fresh c n) (rw open_leaves-Fresh at m) o))
      (λ l c ts h m o. rw (replace-Node, open_leaves-Node) (passes_all ts h (rw open_leaves-Node at m) o))

pub occurs_leaf : (y : Open) → Occurs y (leaf_tree y)
occurs_leaf (work c n) = rw open_leaves-Work (0, omega arith, refl)
occurs_leaf (fresh c n) = rw open_leaves-Fresh (0, omega arith, refl)

abbrev number_of : Option Open → ℕ
number_of None = 0
number_of (Some (work c n)) = n
number_of (Some (fresh c n)) = n

-- the number that a refinement gives a fresh leaf
abbrev numbers : Refinement → Typecode → ℕ → ℕ
numbers r c n = number_of (open_part (r (fresh c n)))

-- one half: two canonical valuations that are instances of each other
module _ (db : Database) (bound : Bound) (accepted : List Asked) (g h : Valuation)
    (one : IsTheValuation db bound accepted g) (other : IsTheValuation db bound accepted h) where
  abbrev On : Unknown → Type 0
  On = IsUnknown bound accepted

  abbrev there : IsInstance On g h
  there = one.most_general.general h other.most_general.is_valuation other.most_general.solves

  abbrev back : IsInstance On h g
  back = other.most_general.general g one.most_general.is_valuation one.most_general.solves

  abbrev r : Refinement
  r = there.by

  abbrev s : Refinement
  s = back.by

  round_trip : (u : Unknown) → On u → refine (λ x. refine s (r x)) (g u) ≡ refine leaf_tree (g u)
  round_trip u on =
      replace-agree (λ v c. Var v c) (λ v c. refine s (Var v c)) (λ x. refine s (r x)) (λ x. refine s (r x)) (λ v c. sym (replace-Var _ s v c)) (g u) (λ x o. refl)
      ∙ sym (replace-replace (λ v c. Var v c) (λ v c. Var v c) s r (g u)) ∙ ap (refine s) (sym (there.same u on)) ∙ sym (back.same u on) ∙ sym (replace-self (g u))

  -- there and back, an open leaf of a value is itself
  pub returns : (u : Unknown) (x : Open) → On u → Occurs x (g u) → refine s (r x) ≡ leaf_tree x
  returns u x on o = agree-replace (λ v c. Var v c) (λ y. refine s (r y)) leaf_tree (g u) (round_trip u on) x o

  -- the leaf y of h that the leaf x of g becomes
  pub record Becomes (x y : Open) : Type 0 where
    pub goes : r x ≡ leaf_tree y
    pub comes : s y ≡ leaf_tree x
    pub code : open_code x ≡ open_code y
    pub first : IsNamedLeaf On g x
    pub second : IsNamedLeaf On h y

  becomes : (u : Unknown) (x : Open) → On u → Occurs x (g u) → (y : Open) × Becomes x y
  becomes u x on o =
      let again = returns u x on o in
      let y = leaf_from s (r x) x again in
      let goes : r x ≡ leaf_tree y.0 = y.1 in
      let comes : s y.0 ≡ leaf_tree x = sym (refine-leaf s y.0) ∙ ap (refine s) (sym goes) ∙ again in
      let first = one.canonical u x on o in
      let in_value : Occurs y.0 (h u) = subst (Occurs y.0) (sym (there.same u on)) (occurs-refine r x y.0 (g u) o (subst (Occurs y.0) (sym goes) (occurs_leaf y.0))) in
      let value : h first.holder ≡ leaf_tree y.0 = there.same first.holder first.is_unknown ∙ ap (refine r) first.holds ∙ refine-leaf r x ∙ goes in
      let code_x : open_code x ≡ unknown_code db first.holder = sym (code-leaf x) ∙ ap code_of (sym first.holds) ∙ one.most_general.is_valuation.code first.holder first.is_unknown in
      let code_y : open_code y.0 ≡ unknown_code db first.holder = sym (code-leaf y.0) ∙ ap code_of (sym value) ∙ other.most_general.is_valuation.code first.holder first.is_unknown in
      (y.0, record { goes = goes; comes = comes; code = code_x ∙ sym code_y; first = first; second = other.canonical u y.0 on in_value })

  -- the value of a work variable, there and back
  h_value : (c : Typecode) (n : ℕ) (x y : Open) → On (named c n) → Becomes x y → g (named c n) ≡ leaf_tree x → h (named c n) ≡ leaf_tree y
  h_value c n x y on b e = there.same (named c n) on ∙ ap (refine r) e ∙ refine-leaf r x ∙ b.goes

  g_value : (c : Typecode) (n : ℕ) (x y : Open) → On (named c n) → Becomes x y → h (named c n) ≡ leaf_tree y → g (named c n) ≡ leaf_tree x
  g_value c n x y on b e = back.same (named c n) on ∙ ap (refine s) e ∙ refine-leaf s y ∙ b.comes

  -- a work variable becomes itself, and a fresh leaf a fresh leaf
  stays : (x y : Open) → Becomes x y → leaf_tree y ≡ renumbered (numbers r) x
  stays (work c m) (work d k) b =
      let same : c ≡ d = b.code in
      let mine = b.first.named_least in
      let its = b.second.named_least in
      let hv : h (named c m) ≡ Work d k = h_value c m (work c m) (work d k) mine.0 b mine.1 in
      let gv : g (named d k) ≡ Work c m = g_value d k (work c m) (work d k) its.0 b its.1 in
      let low : k ≤ m = its.2 m (subst (λ t. On (named t m)) same mine.0) (subst (λ t. h (named t m) ≡ Work d k) same hv) in
      let high : m ≤ k = mine.2 k (subst (λ t. On (named t k)) (sym same) its.0) (subst (λ t. g (named t k) ≡ Work c m) (sym same) gv) in
      let number : k ≡ m = omega (arith, low, high) in
      cc
  stays (work c m) (fresh d k) b =
      let same : c ≡ d = b.code in
      let mine = b.first.named_least in
      let hv : h (named c m) ≡ Fresh d k = h_value c m (work c m) (fresh d k) mine.0 b mine.1 in
      absurd (b.second.named_least m (subst (λ t. On (named t m)) same mine.0) (subst (λ t. h (named t m) ≡ Fresh d k) same hv))
  stays (fresh c m) (work d k) b =
      let same : c ≡ d = b.code in
      let its = b.second.named_least in
      let gv : g (named d k) ≡ Fresh c m = g_value d k (fresh c m) (work d k) its.0 b its.1 in
      absurd (b.first.named_least k (subst (λ t. On (named t k)) (sym same) its.0) (subst (λ t. g (named t k) ≡ Fresh c m) (sym same) gv))
  stays (fresh c m) (fresh d k) b =
      let same : c ≡ d = b.code in
      let number : numbers r c m ≡ k = ap (λ t. number_of (open_part t)) b.goes ∙ ap number_of (open_part-leaf (fresh d k)) in
      cc

  pub renumbers : (u : Unknown) → On u → h u ≡ refine (renumbered (numbers r)) (g u)
  renumbers u on = there.same u on ∙ replace-agree (λ v c. Var v c) (λ v c. Var v c) r (renumbered (numbers r)) (λ v c. refl) (g u)
      (λ x o. let b = becomes u x on o in b.1.goes ∙ stays x b.0 b.1)

-- there is one most general valuation, up to the numbers of fresh leaves
pub most_general_is_one : (db : Database) (bound : Bound) (accepted : List Asked) → MostGeneralIsOne db bound accepted
most_general_is_one db bound accepted g h one other = record {
  renumber = numbers (r db bound accepted g h one other);
  back = numbers (r db bound accepted h g other one);
  there = renumbers db bound accepted g h one other;
  again = renumbers db bound accepted h g other one;
}
