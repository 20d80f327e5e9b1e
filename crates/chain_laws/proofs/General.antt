-- What holds of the trees by node of a solved store.
use Rattle.std.specs.Prelude.{◌≡◌, ℕ, ◌<◌, ◌≤◌, ◌+◌, List, [], ◌∷◌, length, map, Some, None, slice_get, Contains, refl}
use Rattle.std.specs.List.{AllByRecursion, range_with_len}
use Rattle.std.proofs.Common.{suc, sym, ap, subst, ◌∙◌, arith, inl, inr}
use Rattle.std.proofs.lemmas.List.{get_or-map}
use Rattle.std.proofs.lemmas.List.Elements.{Contains-append_cases}
use Rattle.std.proofs.lemmas.List.FromFn.{length-range_with_len, get_or-range_with_len, length-map-range_with_len}
use Rattle.mm_base.specs.declared.symbols.Sym.{Sym}
use Rattle.mm_base.specs.declared.symbols.Label.{Label}
use Rattle.mm_base.specs.declared.symbols.Typecode.{Typecode}
use Rattle.mm_base.specs.declared.tree.Tree.{Tree}
use Rattle.mm_base.specs.declared.tree.Tree.TheVariants as tree
use Rattle.mm_base.specs.Trees.{Each, code_of}
use Rattle.mm_model.specs.declared.rows.Production.{Production}
use Rattle.mm_model.specs.Typed.{IsTyped}
use Rattle.mm_model.proofs.TypedLaws.{typed-Var, typed-Node}
use Rattle.solve_model.specs.Trees.{Open, open_leaves, flatten, Occurs}
use Rattle.solve_model.specs.MostGeneral.{Refinement, refine}
use Rattle.solve_model.proofs.TreeLaws.{replace-Var, replace-Node, open_leaves-Var, open_leaves-Node}
use Rattle.term_model.specs.declared.shape.Id.{Id}
use Rattle.term_model.specs.Terms.{Term, Var, Free, Node, term_at, term_code, children_of}
use Rattle.term_model.specs.Links.{Link, target_of, end_of}
use Rattle.term_model.specs.Ranks.{AreRanked}
use Rattle.term_model.specs.Store.{tree_at, trees_at, Fits, Solution, IsClosed, IsStore, Agrees, IsSameNode, ends_of}
use Rattle.term_model.proofs.TreeLaws.{code_of-Var, code_of-Node}
use Rattle.term_model.proofs.LinkLaws.{end_unbound, end_of_unbound, target_ends, target_below, source_below, are_below}
use Rattle.term_model.proofs.CycleLaws.{code_of_end, respects_targets}
use Rattle.term_model.proofs.SolutionLaws.{respects_end}
use Rattle.chain_laws.specs.Layout.{IsTypedTerm}
use Rattle.chain_laws.proofs.LeastLeaves.{nothing}
use Rattle.chain_laws.specs.Reading.{made}
use Rattle.chain_laws.proofs.Reading.{AreMade, by_rank, end_inside}

-- a leaf has the typecode of its free node
pub record HasCodes (nodes : List Term) (links : List Link) (leaf : ℕ → Typecode → Tree) : Type 0 where
  pub code : (e : ℕ) (c : Typecode) → e < length nodes → target_of links e ≡ None → term_at nodes e ≡ Free c → code_of (leaf e c) ≡ c

-- an open leaf stands in the leaf of an unbound free node
pub record IsLeafOf (nodes : List Term) (links : List Link) (leaf : ℕ → Typecode → Tree) (x : Open) : Type 0 where
  pub node : ℕ
  pub code : Typecode
  pub within : node < length nodes
  pub unbound : target_of links node ≡ None
  pub free : term_at nodes node ≡ Free code
  pub occurs : Occurs x (leaf node code)

-- each production of the store is typed
abbrev pub AreTyped : List Production → ℕ → List Term → Type 0
AreTyped rows before nodes = (i : ℕ) (l : Label) (c : Typecode) (k : ℕ) (kids : List Id) → i < length nodes → term_at nodes i ≡ Node l c k kids → IsTypedTerm rows before nodes l c kids

module _ (nodes : List Term) (links : List Link) (leaf : ℕ → Typecode → Tree) (at : ℕ → Tree) (store : IsStore nodes links)
    (is : AreMade nodes links leaf at) (codes : HasCodes nodes links leaf) where
  abbrev end : ℕ → ℕ
  end i = end_of links i

  unbound : (i : ℕ) → target_of links (end i) ≡ None
  unbound i = end_unbound (length nodes) links i store.in_order

  inside : (i : ℕ) → i < length nodes → end i < length nodes
  inside i h = end_inside nodes links store i h

  -- an end's tree is that of the nodes that lead there
  pub at_same : (i j : ℕ) → i < length nodes → j < length nodes → end i ≡ end j → at i ≡ at j
  at_same i j h g e = is.each i h ∙ ap (λ (k : ℕ). made leaf k at (term_at nodes k)) e ∙ sym (is.each j g)

  pub at_end : (i : ℕ) → i < length nodes → at i ≡ at (end i)
  at_end i h = at_same i (end i) h (inside i h) (sym (end_of_unbound links (end i) (unbound i)))

  made_code : (e : ℕ) (x : Term) → e < length nodes → target_of links e ≡ None → term_at nodes e ≡ x → code_of (made leaf e at x) ≡ term_code x
  made_code e (Var s c) h u is' = code_of-Var s c
  made_code e (Free c) h u is' = codes.code e c h u is'
  made_code e (Node l c k kids) h u is' = code_of-Node l c (map (λ (id : Id). at id.0) kids)

  pub at_code : (i : ℕ) → i < length nodes → code_of (at i) ≡ term_code (term_at nodes i)
  at_code i h = ap code_of (is.each i h) ∙ made_code (end i) (term_at nodes (end i)) (inside i h) (unbound i) refl ∙ sym (code_of_end nodes links i store.codes)

  -- ---- they are a solution

  module _ (closed : IsClosed nodes links) where
    same_kids : (xs ys : List Id) → AllByRecursion (λ (id : Id). id.0 < length nodes) xs → AllByRecursion (λ (id : Id). id.0 < length nodes) ys
        → ends_of links xs ≡ ends_of links ys → map (λ (id : Id). at id.0) xs ≡ map (λ (id : Id). at id.0) ys
    same_kids [] [] h g e = refl
    same_kids [] (y ∷ ys) h g e = absurd (cc)
    same_kids (x ∷ xs) [] h g e = absurd (cc)
    same_kids (x ∷ xs) (y ∷ ys) h g e =
        let head : end x.0 ≡ end y.0 = cc in
        let tail : ends_of links xs ≡ ends_of links ys = cc in
        let here = at_same x.0 y.0 h.0 g.0 head in
        let rest = same_kids xs ys h.1 g.1 tail in
        cc

    wider : (n m : ℕ) (xs : List Id) → n ≤ m → AllByRecursion (λ (id : Id). id.0 < n) xs → AllByRecursion (λ (id : Id). id.0 < m) xs
    wider n m [] h a = tt
    wider n m (x ∷ xs) h a = (omega (arith, a.0, h), wider n m xs h a.1)

    kids_inside : (i : ℕ) → i < length nodes → AllByRecursion (λ (id : Id). id.0 < length nodes) (children_of (term_at nodes i))
    kids_inside i h = wider i (length nodes) (children_of (term_at nodes i)) (omega (arith, h)) (store.children i h)

    -- the tree of a node is what it asks for
    abbrev IsAsked : Tree → Term → Type 0
    IsAsked t (Var s c) = t ≡ tree.Var s c
    IsAsked t (Free c) = code_of t ≡ c
    IsAsked t (Node l c k kids) = t ≡ tree.Node l c (map (λ (id : Id). at id.0) kids)

    node_asked : (e : ℕ) (l : Label) (c : Typecode) (k : ℕ) (xs : List Id) (y : Term) → AllByRecursion (λ (id : Id). id.0 < length nodes) xs
        → AllByRecursion (λ (id : Id). id.0 < length nodes) (children_of y) → IsSameNode links l c xs y
        → made leaf e at y ≡ tree.Node l c (map (λ (id : Id). at id.0) xs)
    node_asked e l c k xs (Var s d) h g a = absurd a
    node_asked e l c k xs (Free d) h g a = absurd a
    node_asked e l c k xs (Node m d k' ys) h g a =
        let same = same_kids xs ys h g a.2 in
        let label = a.0 in
        let code = a.1 in
        cc

    asked : (i : ℕ) (x : Term) → i < length nodes → term_at nodes i ≡ x → Agrees links x (term_at nodes (end i)) → IsAsked (at i) x
    asked i (Var s c) h e a = is.each i h ∙ ap (made leaf (end i) at) a
    asked i (Free c) h e a = at_code i h ∙ ap term_code e
    asked i (Node l c k xs) h e a =
        is.each i h
        ∙ node_asked (end i) l c k xs (term_at nodes (end i))
        (subst (λ (z : Term). AllByRecursion (λ (id : Id). id.0 < length nodes) (children_of z)) e (kids_inside i h))
        (kids_inside (end i) (inside i h)) a

    unfoldable pub general_trees : List Tree
    general_trees = map at (range_with_len 0 (length nodes))

    pub tree_is : (i : ℕ) → i < length nodes → tree_at general_trees i ≡ at i
    unfolding general_trees
    tree_is i h =
        get_or-map at (range_with_len 0 (length nodes)) i 0 (tree.Fresh _ 0) (omega (arith, h, length-range_with_len 0 (length nodes)))
        ∙ ap at (let same : 0 + i ≡ i = omega arith in get_or-range_with_len 0 (length nodes) i 0 h ∙ same)

    trees_are : (xs : List Id) → AllByRecursion (λ (id : Id). id.0 < length nodes) xs → trees_at general_trees xs ≡ map (λ (id : Id). at id.0) xs
    trees_are [] h = refl
    trees_are (x ∷ xs) h =
        let here = tree_is x.0 h.0 in
        let rest = trees_are xs h.1 in
        cc

    fits : (t : Tree) (x : Term) → AllByRecursion (λ (id : Id). id.0 < length nodes) (children_of x) → IsAsked t x → Fits general_trees t x
    fits t (Var s c) h a = a
    fits t (Free c) h a = a
    fits t (Node l c k xs) h a = a ∙ ap (λ ts. tree.Node l c ts) (sym (trees_are xs h))

    general_length : length general_trees ≡ length nodes
    unfolding general_trees
    general_length = length-map-range_with_len at 0 (length nodes)

    pub general_solves : Solution nodes links general_trees
    general_solves = record {
      count = general_length;
      nodes_fit =
          λ i h. subst (λ (t : Tree). Fits general_trees t (term_at nodes i)) (sym (tree_is i h))
          (fits (at i) (term_at nodes i) (kids_inside i h) (asked i (term_at nodes i) h refl (closed i h)));
      links_fit = respects_targets (length nodes) general_trees links store.in_order (λ i j e.
          let below = source_below (length nodes) links i j (are_below (length nodes) links store.in_order) e in
          let target = target_below (length nodes) links i j store.in_order e in
          tree_is i below ∙ at_same i j below target (target_ends (length nodes) links i j store.in_order e) ∙ sym (tree_is j target));
    }

  -- ---- by the numbers of nodes

  module _ (ranks : List ℕ) (ranked : AreRanked nodes links ranks) where
    each_of : (P : Tree → Type 0) (kids : List Id) → ((k : ℕ) (child : Id) → slice_get kids k ≡ Some child → P (at child.0)) → Each P (map (λ (id : Id). at id.0) kids)
    each_of P [] h = tt
    each_of P (x ∷ xs) h = (h 0 x refl, each_of P xs (λ k child e. h (suc k) child e))

    -- what holds of leaves, and of a production where it holds of its children, holds of each tree
    module _ (P : Tree → Type 0)
        (at_var : (s : Sym) (c : Typecode) → P (tree.Var s c))
        (at_leaf : (e : ℕ) (c : Typecode) → e < length nodes → target_of links e ≡ None → term_at nodes e ≡ Free c → P (leaf e c))
        (at_node : (e : ℕ) (l : Label) (c : Typecode) (k : ℕ) (kids : List Id) → e < length nodes → term_at nodes e ≡ Node l c k kids
        → Each P (map (λ (id : Id). at id.0) kids) → P (tree.Node l c (map (λ (id : Id). at id.0) kids))) where
      made_has : (e : ℕ) (x : Term) → e < length nodes → target_of links e ≡ None → term_at nodes e ≡ x
          → ((k : ℕ) (child : Id) → slice_get (children_of x) k ≡ Some child → P (at child.0)) → P (made leaf e at x)
      made_has e (Var s c) h u is' below = at_var s c
      made_has e (Free c) h u is' below = at_leaf e c h u is'
      made_has e (Node l c k kids) h u is' below = at_node e l c k kids h is' (each_of P kids below)

      pub each_tree : (i : ℕ) → i < length nodes → P (at i)
      each_tree = by_rank nodes links store ranks ranked (λ i. P (at i)) (λ i h below.
          subst P (sym (is.each i h)) (made_has (end i) (term_at nodes (end i)) (inside i h) (unbound i) refl below))

    -- they are typed
    code_list : (kids : List Id) → AllByRecursion (λ (id : Id). id.0 < length nodes) kids → map code_of (map (λ (id : Id). at id.0) kids) ≡ map (λ (id : Id). term_code (term_at nodes id.0)) kids
    code_list [] h = refl
    code_list (x ∷ xs) h =
        let here = at_code x.0 h.0 in
        let rest = code_list xs h.1 in
        cc

    kids_within : (e : ℕ) (l : Label) (c : Typecode) (k : ℕ) (kids : List Id) → e < length nodes → term_at nodes e ≡ Node l c k kids → AllByRecursion (λ (id : Id). id.0 < length nodes) kids
    kids_within e l c k kids h is' = grow e (length nodes) kids (omega (arith, h)) (subst (λ (z : Term). AllByRecursion (λ (id : Id). id.0 < e) (children_of z)) is' (store.children e h))
      where
        grow : (n m : ℕ) (xs : List Id) → n ≤ m → AllByRecursion (λ (id : Id). id.0 < n) xs → AllByRecursion (λ (id : Id). id.0 < m) xs
        grow n m [] h a = tt
        grow n m (x ∷ xs) h a = (omega (arith, a.0, h), grow n m xs h a.1)

    module _ (rows : List Production) (before : ℕ) (typed : AreTyped rows before nodes) (leaf_typed : (e : ℕ) (c : Typecode) → IsTyped rows before (leaf e c)) where
      pub at_typed : (i : ℕ) → i < length nodes → IsTyped rows before (at i)
      at_typed = each_tree (IsTyped rows before)
          (λ s c. typed-Var rows before s c)
          (λ e c h u is'. leaf_typed e c)
          (λ e l c k kids h is' all.
          let row = typed e l c k kids h is' in
          typed-Node rows before l c (map (λ (id : Id). at id.0) kids) (row.row, row.is_row, row.before_place, row.gives, code_list kids (kids_within e l c k kids h is') ∙ row.slots) all)

    -- each open leaf stands in the leaf of a node
    abbrev IsOwnLeaf : Tree → Type 0
    IsOwnLeaf t = (x : Open) → Occurs x t → IsLeafOf nodes links leaf x

    all_own : (ts : List Tree) → Each IsOwnLeaf ts → (x : Open) → Contains (flatten (map open_leaves ts)) x → IsLeafOf nodes links leaf x
    all_own [] h x o = absurd (nothing x o)
    all_own (t ∷ ts) h x o = elim (Contains-append_cases (open_leaves t) (flatten (map open_leaves ts)) x o) [ inl one ↦ h.0 x one | inr rest ↦ all_own ts h.1 x rest ]

    pub own_leaves : (i : ℕ) → i < length nodes → IsOwnLeaf (at i)
    own_leaves = each_tree IsOwnLeaf
        (λ s c x o. absurd (nothing x (rw open_leaves-Var at o)))
        (λ e c h u is' x o. record { node = e; code = c; within = h; unbound = u; free = is'; occurs = o })
        (λ e l c k kids h is' all x o. all_own (map (λ (id : Id). at id.0) kids) all x (rw open_leaves-Node at o))

    -- each solution is an instance of them
    module _ (trees : List Tree) (sol : Solution nodes links trees) (r : Refinement)
        (leaf_refined : (e : ℕ) (c : Typecode) → e < length nodes → target_of links e ≡ None → term_at nodes e ≡ Free c → refine r (leaf e c) ≡ tree_at trees e) where
      refined_list : (kids : List Id) → ((k : ℕ) (child : Id) → slice_get kids k ≡ Some child → refine r (at child.0) ≡ tree_at trees child.0)
          → map (refine r) (map (λ (id : Id). at id.0) kids) ≡ trees_at trees kids
      refined_list [] h = refl
      refined_list (x ∷ xs) h =
          let here = h 0 x refl in
          let rest = refined_list xs (λ k child e. h (suc k) child e) in
          cc

      made_refined : (e : ℕ) (x : Term) → e < length nodes → target_of links e ≡ None → term_at nodes e ≡ x → Fits trees (tree_at trees e) x
          → ((k : ℕ) (child : Id) → slice_get (children_of x) k ≡ Some child → refine r (at child.0) ≡ tree_at trees child.0)
          → refine r (made leaf e at x) ≡ tree_at trees e
      made_refined e (Var s c) h u is' f below = replace-Var _ r s c ∙ sym f
      made_refined e (Free c) h u is' f below = leaf_refined e c h u is'
      made_refined e (Node l c k kids) h u is' f below = replace-Node _ r l c (map (λ (id : Id). at id.0) kids) ∙ ap (λ ts. tree.Node l c ts) (refined_list kids below) ∙ sym f

      pub refined : (i : ℕ) → i < length nodes → refine r (at i) ≡ tree_at trees i
      refined = by_rank nodes links store ranks ranked (λ i. refine r (at i) ≡ tree_at trees i) (λ i h below.
          ap (refine r) (is.each i h) ∙ made_refined (end i) (term_at nodes (end i)) (inside i h) (unbound i) refl (sol.nodes_fit (end i) (inside i h)) below
          ∙ sym (respects_end trees links i sol.links_fit))
