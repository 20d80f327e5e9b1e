-- Marking one more node keeps a solution of the marked nodes.
use Rattle.std.proofs.Common.{◌≡◌, ◌≢◌, ℕ, ◌+◌, ◌-◌, ◌<◌, ◌≤◌, Bool, true, false, Option, Some, None, List, [], ◌∷◌, length, set, get_or, replicate}
use Rattle.std.proofs.Common.{not, cond, map, refl, sym, ◌∙◌, inl, inr, arith}
use Rattle.std.proofs.lemmas.Bool.{cases_eq, and_parts, and_from, and_cases, both_ways}
use Rattle.std.proofs.lemmas.List.Sums.{sum_by-set, count_by-le-length}
use Rattle.std.proofs.lemmas.List.{length-replicate, length-set, get_or-set_same, get_or-set_other}
use Rattle.mm_base.specs.declared.tree.Tree.{Tree}
use Rattle.mm_base.specs.declared.tree.Tree.TheVariants as tree
use Rattle.term_model.proofs.TreeLaws.{code_of-Fresh}
use Rattle.term_model.specs.declared.shape.Id.{Id}
use Rattle.term_model.specs.Terms.{Term, Var, Free, Node, no_code, term_at, children_of}
use Rattle.term_model.specs.Store.{tree_at, trees_at}
use Rattle.term_model.specs.Marks.{bound_at, parts_at, parts_of, IsIn, is_marked, are_marked, rank_at, unmarked_count, FitsAt, IsMarkedWell, IsPartlySolved, IsGraph}
use Rattle.std.specs.List.{AllByRecursion}

-- each of marked nodes is marked
pub marked_in : (marks : List Bool) (js : List ℕ) (j : ℕ) → are_marked marks js ≡ true → IsIn j js → is_marked marks j ≡ true
marked_in marks [] j m h = absurd h
marked_in marks (k ∷ js) j m (inl e) = rw e (and_parts (is_marked marks k) (are_marked marks js) m).0
marked_in marks (k ∷ js) j m (inr h) = marked_in marks js j (and_parts (is_marked marks k) (are_marked marks js) m).1 h

-- of nodes that are not all marked one is not
pub unmarked_in : (marks : List Bool) (js : List ℕ) → are_marked marks js ≡ false → (j : ℕ) × IsIn j js × (is_marked marks j ≡ false)
unmarked_in marks [] m = let impossible : true ≡ false = m in cc
unmarked_in marks (k ∷ js) m = elim (and_cases (is_marked marks k) (are_marked marks js) m) [
  | inl here ↦ (k, inl refl, here)
  | inr there ↦ let found = unmarked_in marks js there in (found.0, inr found.1, found.2)
]

pub unmarked_falls : (marks : List Bool) (i : ℕ) → i < length marks → is_marked marks i ≡ false → unmarked_count (set marks i true) + 1 ≡ unmarked_count marks
unmarked_falls marks i below fresh =
    let same : unmarked_count (set marks i true) + cond (not (get_or marks i false)) 1 0 ≡ unmarked_count marks + 0 =
    sum_by-set (λ (b : Bool). cond (not b) 1 0) marks i true false below in
    let one : unmarked_count (set marks i true) + 1 ≡ unmarked_count marks + 0 = rw fresh at same in
    omega (arith, one)

module _ (marks : List Bool) (i : ℕ) (fresh : is_marked marks i ≡ false) where
  pub other : (k : ℕ) → is_marked marks k ≡ true → k ≢ i
  other k m = λ (e : k ≡ i). both_ways (is_marked marks i) fresh (rw (sym e) m)

  pub marked_more : (k : ℕ) → is_marked marks k ≡ true → is_marked (set marks i true) k ≡ true
  marked_more k m = rw (get_or-set_other marks i k true false (other k m)) m

  pub all_marked_more : (js : List ℕ) → are_marked marks js ≡ true → are_marked (set marks i true) js ≡ true
  all_marked_more [] m = refl
  all_marked_more (j ∷ js) m =
      let both = and_parts (is_marked marks j) (are_marked marks js) m in
      and_from _ _ (marked_more j both.0) (all_marked_more js both.1)

module _ (marks : List Bool) (trees : List Tree) (i : ℕ) (t : Tree) (fresh : is_marked marks i ≡ false) where
  pub tree_same : (k : ℕ) → is_marked marks k ≡ true → tree_at (set trees i t) k ≡ tree_at trees k
  tree_same k m = get_or-set_other trees i k t _ (other marks i fresh k m)

  pub trees_same : (kids : List Id) → are_marked marks (map (λ (id : Id). id.0) kids) ≡ true → trees_at (set trees i t) kids ≡ trees_at trees kids
  trees_same [] m = refl
  trees_same (id ∷ kids) m =
      let both = and_parts (is_marked marks id.0) (are_marked marks (map (λ (id : Id). id.0) kids)) m in
      rw (tree_same id.0 both.0, trees_same kids both.1) refl

  fits_more : (u : Tree) (e : Term) (o : Option ℕ) → are_marked marks (parts_at o e) ≡ true → FitsAt trees u e o → FitsAt (set trees i t) u e o
  fits_more u e (Some j) m f = f ∙ sym (tree_same j (marked_in marks (j ∷ []) j m (inl refl)))
  fits_more u (Var s c) None m f = f
  fits_more u (Free c) None m f = f
  fits_more u (Node l c k kids) None m f = rw (trees_same kids m) f

-- the tree of a node, from the trees of what it is made of
tree_of : List Tree → ℕ → Term → Option ℕ → Tree
tree_of trees i e (Some j) = tree_at trees j
tree_of trees i (Var s c) None = tree.Var s c
tree_of trees i (Free c) None = tree.Fresh c i
tree_of trees i (Node l c k kids) None = tree.Node l c (trees_at trees kids)

tree_of_fits : (trees : List Tree) (i : ℕ) (e : Term) (o : Option ℕ) → FitsAt trees (tree_of trees i e o) e o
unfolding tree_of
tree_of_fits trees i e (Some j) = refl
tree_of_fits trees i (Var s c) None = refl
tree_of_fits trees i (Free c) None = code_of-Fresh c i
tree_of_fits trees i (Node l c k kids) None = refl

pub child_below : (n j : ℕ) (kids : List Id) → AllByRecursion (λ (id : Id). id.0 < n) kids → IsIn j (map (λ (id : Id). id.0) kids) → j < n
child_below n j [] a h = absurd h
child_below n j (id ∷ kids) a (inl e) = rw e a.0
child_below n j (id ∷ kids) a (inr h) = child_below n j kids a.1 h

-- what a node is made of is in the store
pub part_below : (nodes : List Term) (bound : List (Option ℕ)) → IsGraph nodes bound → (i j : ℕ) → i < length nodes → IsIn j (parts_of nodes bound i) → j < length nodes
part_below nodes bound g i j below h = go (bound_at bound i) refl h
  where
    go : (o : Option ℕ) → bound_at bound i ≡ o → IsIn j (parts_at o (term_at nodes i)) → j < length nodes
    go (Some k) e (inl at) = rw at (g.targets i k e)
    go (Some k) e (inr none) = absurd none
    go None e h = child_below (length nodes) j (children_of (term_at nodes i)) (g.children i below) h

module _ (nodes : List Term) (bound : List (Option ℕ)) (marks : List Bool) (i : ℕ) (below : i < length nodes) (within : i < length marks) (fresh : is_marked marks i ≡ false) where
  fewer : unmarked_count (set marks i true) + 1 ≡ unmarked_count marks
  fewer = unmarked_falls marks i within fresh

  rank_same : (ranks : List ℕ) (r k : ℕ) → is_marked marks k ≡ true → rank_at (set ranks i r) k ≡ rank_at ranks k
  rank_same ranks r k m = get_or-set_other ranks i k r 0 (other marks i fresh k m)

  well_more : (trees : List Tree) (ranks : List ℕ) (t : Tree) (r k : ℕ) → is_marked marks k ≡ true → IsMarkedWell nodes bound marks trees ranks k
      → IsMarkedWell nodes bound (set marks i true) (set trees i t) (set ranks i r) k
  well_more trees ranks t r k m w = record {
    parts = all_marked_more marks i fresh (parts_of nodes bound k) w.parts;
    fits = rw (tree_same marks trees i t fresh k m) (fits_more marks trees i t fresh (tree_at trees k) (term_at nodes k) (bound_at bound k) w.parts w.fits);
    lower = λ j h. rw (rank_same ranks r j (marked_in marks (parts_of nodes bound k) j w.parts h), rank_same ranks r k m) (w.lower j h);
    few = rw (rank_same ranks r k m) (omega (arith, w.few, fewer, length-set marks i true));
  }

  -- a node whose parts are marked may be marked
  pub mark_more : IsGraph nodes bound → are_marked marks (parts_of nodes bound i) ≡ true → IsPartlySolved nodes bound marks → IsPartlySolved nodes bound (set marks i true)
  mark_more g can p =
      let t : Tree = tree_of p.trees i (term_at nodes i) (bound_at bound i) in
      let r : ℕ = length marks - unmarked_count marks in
      let count : unmarked_count marks ≤ length marks = count_by-le-length not marks in
      let tree_here : tree_at (set p.trees i t) i ≡ t = get_or-set_same p.trees i t _ (omega (arith, p.tree_count)) in
      let rank_here : rank_at (set p.ranks i r) i ≡ r = get_or-set_same p.ranks i r 0 (omega (arith, p.rank_count)) in
      let here : IsMarkedWell nodes bound (set marks i true) (set p.trees i t) (set p.ranks i r) i = record {
        parts = all_marked_more marks i fresh (parts_of nodes bound i) can;
        fits = rw tree_here (fits_more marks p.trees i t fresh t (term_at nodes i) (bound_at bound i) can (tree_of_fits p.trees i (term_at nodes i) (bound_at bound i)));
        lower = λ j h.
            let m = marked_in marks (parts_of nodes bound i) j can h in
            rw (rank_here, rank_same p.ranks r j m) (omega (arith, (p.each j (part_below nodes bound g i j below h) m).few));
        few = rw rank_here (omega (arith, fewer, count, length-set marks i true));
      } in
      record {
        trees = set p.trees i t;
        ranks = set p.ranks i r;
        tree_count = length-set p.trees i t ∙ p.tree_count;
        rank_count = length-set p.ranks i r ∙ p.rank_count;
        each = λ k k_below m. elim (cases_eq k i) [
          | inl at ↦ rw at here
          | inr past ↦
              let was : is_marked marks k ≡ true = sym (get_or-set_other marks i k true false past) ∙ m in
              well_more p.trees p.ranks t r k was (p.each k k_below was)
        ];
      }

-- with no mark there is nothing to solve
pub none_marked : (nodes : List Term) (bound : List (Option ℕ)) (marks : List Bool) → ((k : ℕ) → is_marked marks k ≡ false) → IsPartlySolved nodes bound marks
none_marked nodes bound marks none = record {
  trees = replicate (length nodes) (tree.Fresh no_code 0);
  ranks = replicate (length nodes) 0;
  tree_count = length-replicate (length nodes) (tree.Fresh no_code 0);
  rank_count = length-replicate (length nodes) 0;
  each = λ i below m. absurd (both_ways (is_marked marks i) (none i) m);
}
