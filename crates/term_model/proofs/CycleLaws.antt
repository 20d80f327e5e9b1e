-- Closed bindings have a solution exactly where no path comes back to itself.
use Rattle.std.proofs.Common.{◌≡◌, ◌≢◌, ◌⊎◌, ℕ, ◌+◌, ◌*◌, ◌<◌, ◌≤◌, Bool, true, false, Option, Some, None, List, zero, suc, [], ◌∷◌, length, take}
use Rattle.std.proofs.Common.{set, replicate, map, sum, refl, ap, sym, subst, ◌∙◌, inl, inr, arith}
use Rattle.std.specs.List.{AllByRecursion}
use Rattle.std.proofs.Math.Nat.{mul-le-mul_left}
use Rattle.std.proofs.lemmas.Bool.{cases_eq, cases_lt, cases_Bool, eq-eqb, ne_eqb, both_ways}
use Rattle.std.proofs.lemmas.List.{length-set, length-replicate, get_or-replicate, get_or_past}
use Rattle.std.proofs.lemmas.List.Sums.{sum_by-cons}
use Rattle.mm_base.specs.declared.symbols.Label.{Label}
use Rattle.mm_base.specs.declared.symbols.Typecode.{Typecode}
use Rattle.mm_base.specs.declared.tree.Tree.{Tree}
use Rattle.mm_base.specs.declared.tree.Tree.TheVariants as tree
use Rattle.mm_model.specs.Sizes.{nodes as size_of}
use Rattle.mm_model.proofs.SizeLaws.{nodes-Node}
use Rattle.term_model.specs.declared.shape.Id.{Id}
use Rattle.term_model.specs.Terms.{Term, Var, Free, Node, term_code, term_at, children_of, HasChildrenBelow}
use Rattle.term_model.specs.Links.{Link, link_at, target_of, end_of, hops_of, InOrder}
use Rattle.term_model.specs.Store.{tree_at, trees_at, ends_of, Fits, Respects, Solution, Agrees, IsSameNode, IsClosed, HaveSameCodes, IsStore, HasSolution}
use Rattle.term_model.specs.Marks.{bound_at, IsTableOf, parts_at, parts_of, IsIn, is_marked, are_marked, unmarked_count, FitsAt, IsPartlySolved, IsGraph, IsWay, IsCyclic}
use Rattle.term_model.proofs.LinkLaws.{target_of_avoided, target_ends, target_hops, target_below, end_unbound, end_below, in_order_take}
use Rattle.term_model.proofs.SolutionLaws.{respects_end, same_end, fits_code}
use Rattle.term_model.proofs.MarkLaws.{unmarked_in, unmarked_falls, marked_more, mark_more, part_below, child_below, none_marked}
use Rattle.term_model.proofs.ClosureLaws.{agrees_refl}

-- a target further on is the target
target_of_tail : (n : ℕ) (l : Link) (links : List Link) (i j : ℕ) → InOrder n (l ∷ links) → target_of links i ≡ Some j → target_of (l ∷ links) i ≡ Some j
target_of_tail n l links i j o e =
    elim (cases_eq i l.from) [
      | inl at ↦ let none : target_of links i ≡ None = rw at (target_of_avoided links l.from o.3) in let impossible : ◌≡◌ {A = Option ℕ} None (Some j) = sym none ∙ e in cc
      | inr past ↦ rw (ne_eqb i l.from past) e
    ]

target_of_head : (l : Link) (links : List Link) → target_of (l ∷ links) l.from ≡ Some l.to
target_of_head l links = rw (eq-eqb l.from l.from refl) refl

-- trees that are equal along the table respect the links
pub respects_targets : (n : ℕ) (trees : List Tree) (links : List Link) → InOrder n links → ((i j : ℕ) → target_of links i ≡ Some j → tree_at trees i ≡ tree_at trees j) → Respects trees links
respects_targets n trees [] o each = tt
respects_targets n trees (l ∷ links) o each =
    (each l.from l.to (target_of_head l links), respects_targets n trees links o.4 (λ i j e. each i j (target_of_tail n l links i j o e)))

-- what passes from each node to its target passes to its end
pub passes_to_end : (n : ℕ) (Q : ℕ → Type 0) (links : List Link) (i : ℕ) → InOrder n links → ((i j : ℕ) → target_of links i ≡ Some j → Q i → Q j) → Q i → Q (end_of links i)
passes_to_end n Q [] i o each q = q
passes_to_end n Q (l ∷ links) i o each q =
    let tail = λ (i j : ℕ) (e : target_of links i ≡ Some j). each i j (target_of_tail n l links i j o e) in
    elim (cases_eq i l.from) [
      | inl at ↦ rw (eq-eqb i l.from at) (passes_to_end n Q links l.to o.4 tail (each l.from l.to (target_of_head l links) (subst Q at q)))
      | inr past ↦ rw (ne_eqb i l.from past) (passes_to_end n Q links i o.4 tail q)
    ]

-- a node has the typecode of its end
pub code_of_end : (nodes : List Term) (links : List Link) (i : ℕ) → HaveSameCodes nodes links → term_code (term_at nodes i) ≡ term_code (term_at nodes (end_of links i))
code_of_end nodes [] i codes = refl
code_of_end nodes (l ∷ links) i codes =
    elim (cases_eq i l.from) [
      | inl at ↦ rw (eq-eqb i l.from at) (ap (λ (k : ℕ). term_code (term_at nodes k)) at ∙ codes.0 ∙ code_of_end nodes links l.to codes.1)
      | inr past ↦ rw (ne_eqb i l.from past) (code_of_end nodes links i codes.1)
    ]

-- children with the same ends have the same trees
pub same_ends : (trees : List Tree) (links : List Link) (xs : List Id) → Respects trees links → trees_at trees xs ≡ map (tree_at trees) (ends_of links xs)
same_ends trees links [] r = refl
same_ends trees links (id ∷ xs) r = rw (sym (respects_end trees links id.0 r), same_ends trees links xs r) refl

-- the tree of the end fits the node
fits_Node_end : (trees : List Tree) (links : List Link) (t : Tree) (l : Label) (c : Typecode) (xs : List Id) (e : Term) → Respects trees links
    → IsSameNode links l c xs e → Fits trees t e → t ≡ tree.Node l c (trees_at trees xs)
fits_Node_end trees links t l c xs (Var s d) r a f = absurd a
fits_Node_end trees links t l c xs (Free d) r a f = absurd a
fits_Node_end trees links t l c xs (Node m d k ys) r a f =
    let kids : trees_at trees xs ≡ trees_at trees ys = same_ends trees links xs r ∙ ap (map (tree_at trees)) a.2 ∙ sym (same_ends trees links ys r) in
    rw (a.0, a.1, kids) f

fits_end : (trees : List Tree) (links : List Link) (t : Tree) (x e : Term) → Respects trees links → Agrees links x e → term_code x ≡ term_code e → Fits trees t e → Fits trees t x
fits_end trees links t (Var s c) e r a codes f = rw a at f
fits_end trees links t (Free c) e r a codes f = fits_code trees t e f ∙ sym codes
fits_end trees links t (Node l c k xs) e r a codes f = fits_Node_end trees links t l c xs e r a f

-- closed bindings with every node marked have a solution
pub solution_from_marks : (nodes : List Term) (links : List Link) (bound : List (Option ℕ)) (marks : List Bool) → IsStore nodes links
    → IsClosed nodes links → IsTableOf bound links → IsPartlySolved nodes bound marks → ((i : ℕ) → i < length nodes → is_marked marks i ≡ true)
    → (trees : List Tree) × Solution nodes links trees
solution_from_marks nodes links bound marks store closed table p all =
    let n = length nodes in
    let at_target : (i j : ℕ) → target_of links i ≡ Some j → tree_at p.trees i ≡ tree_at p.trees j = λ i j e.
    bound_tree i j (source_below n links i j store.in_order e) e in
    let respects : Respects p.trees links = respects_targets n p.trees links store.in_order at_target in (
      p.trees,
      record {
        count = p.tree_count;
        nodes_fit = λ i below.
            let r = end_of links i in
            let r_below : r < n = end_below n links i store.in_order below in
            let free : bound_at bound r ≡ None = table.each r ∙ end_unbound n links i store.in_order in
            let there : FitsAt p.trees (tree_at p.trees r) (term_at nodes r) None = rw free at (p.each r r_below (all r r_below)).fits in
            rw (respects_end p.trees links i respects)
            (fits_end p.trees links (tree_at p.trees r) (term_at nodes i) (term_at nodes r) respects (closed i below) (code_of_end nodes links i store.codes) there);
        links_fit = respects;
      },
    )
  where
    bound_tree : (i j : ℕ) → i < length nodes → target_of links i ≡ Some j → tree_at p.trees i ≡ tree_at p.trees j
    bound_tree i j below e =
        let o : bound_at bound i ≡ Some j = table.each i ∙ e in
        let here : FitsAt p.trees (tree_at p.trees i) (term_at nodes i) (Some j) = rw o at (p.each i below (all i below)).fits in
        here

    source_below : (n : ℕ) (links : List Link) (i j : ℕ) → InOrder n links → target_of links i ≡ Some j → i < n
    source_below n [] i j o e = let impossible : ◌≡◌ {A = Option ℕ} None (Some j) = e in cc
    source_below n (l ∷ links) i j o e =
        elim (cases_eq i l.from) [
          | inl at ↦ rw at o.0
          | inr past ↦ source_below n links i j o.4 (rw (ne_eqb i l.from past) at e)
        ]

-- ---- in a solution, what a node is made of weighs less

hops_few : (links : List Link) (i : ℕ) → hops_of links i ≤ length links
hops_few [] i = omega arith
hops_few (l ∷ links) i =
    elim (cases_eq i l.from) [
      | inl at ↦ rw (eq-eqb i l.from at) (omega (arith, hops_few links l.to))
      | inr past ↦ rw (ne_eqb i l.from past) (omega (arith, hops_few links i))
    ]

-- the size of its tree, and of equal trees the number of bindings up to its end
abbrev pub weight : List Link → List Tree → ℕ → ℕ
weight links trees i = (length links + 1) * size_of (tree_at trees i) + hops_of links i

lighter : (l a b h g : ℕ) → a < b → h ≤ l → (l + 1) * a + h < (l + 1) * b + g
lighter l a b h g less few = let more : (l + 1) * (a + 1) ≤ (l + 1) * b = mul-le-mul_left (l + 1) (omega arith) in omega (arith, more)

child_size : (trees : List Tree) (j : ℕ) (kids : List Id) → IsIn j (map (λ (id : Id). id.0) kids) → size_of (tree_at trees j) ≤ sum (map size_of (trees_at trees kids))
child_size trees j [] h = absurd h
child_size trees j (id ∷ kids) h =
    let whole : sum (map size_of (trees_at trees (id ∷ kids))) ≡ size_of (tree_at trees id.0) + sum (map size_of (trees_at trees kids)) =
    sum_by-cons (λ (x : ℕ). x) (size_of (tree_at trees id.0)) (map size_of (trees_at trees kids)) in
    elim h [
      | inl e ↦ omega (arith, whole, ap (λ (k : ℕ). size_of (tree_at trees k)) e)
      | inr rest ↦ omega (arith, whole, child_size trees j kids rest)
    ]

pub child_smaller : (trees : List Tree) (t : Tree) (e : Term) (j : ℕ) → Fits trees t e → IsIn j (map (λ (id : Id). id.0) (children_of e)) → size_of (tree_at trees j) < size_of t
child_smaller trees t (Var s c) j f h = absurd h
child_smaller trees t (Free c) j f h = absurd h
child_smaller trees t (Node l c k kids) j f h =
    let size : size_of t ≡ sum (map size_of (trees_at trees kids)) + 1 = ap size_of f ∙ nodes-Node l c (trees_at trees kids) in
    omega (arith, child_size trees j kids h, size)

pub parts_fall : (nodes : List Term) (links : List Link) (bound : List (Option ℕ)) (trees : List Tree) → InOrder (length nodes) links
    → Solution nodes links trees → (i j : ℕ) → i < length nodes → bound_at bound i ≡ target_of links i → IsIn j (parts_of nodes bound i)
    → weight links trees j < weight links trees i
parts_fall nodes links bound trees order sol i j below table h = go (bound_at bound i) refl h
  where
    go : (o : Option ℕ) → bound_at bound i ≡ o → IsIn j (parts_at o (term_at nodes i)) → weight links trees j < weight links trees i
    go (Some k) e (inr none) = absurd none
    go (Some k) e (inl at) =
        let target : target_of links i ≡ Some j = sym table ∙ e ∙ ap (λ (m : ℕ). Some m) (sym at) in
        let same : tree_at trees i ≡ tree_at trees j = same_end trees links i j sol.links_fit (target_ends (length nodes) links i j order target) in
        omega (arith, ap (λ (t : Tree). (length links + 1) * size_of t) same, target_hops (length nodes) links i j order target)
    go None e h =
        let small = child_smaller trees (tree_at trees i) (term_at nodes i) j (sol.nodes_fit i below) h in
        lighter (length links) (size_of (tree_at trees j)) (size_of (tree_at trees i)) (hops_of links j) (hops_of links i) small (hops_few links j)

-- ---- a path that comes back

pub way_below : (nodes : List Term) (bound : List (Option ℕ)) (i : ℕ) (rest : List ℕ) → IsWay nodes bound (i ∷ rest) → i < length nodes
way_below nodes bound i [] way = way
way_below nodes bound i (j ∷ rest) way = way.0

module _ (nodes : List Term) (bound : List (Option ℕ)) (w : ℕ → ℕ) (falls : (i j : ℕ) → i < length nodes → IsIn j (parts_of nodes bound i) → w j < w i) where
  way_heavier : (i : ℕ) (rest : List ℕ) (k : ℕ) → IsWay nodes bound (i ∷ rest) → IsIn k (i ∷ rest) → w i ≤ w k
  way_heavier i [] k way (inl e) = rw e (omega arith)
  way_heavier i [] k way (inr none) = absurd none
  way_heavier i (j ∷ rest) k way (inl e) = rw e (omega arith)
  way_heavier i (j ∷ rest) k way (inr h) = omega (arith, way_heavier j rest k way.2 h, falls j i (way_below nodes bound j rest way.2) way.1)

  pub cyclic_falls : IsCyclic nodes bound → ⊥
  cyclic_falls c = omega (arith, way_heavier c.last c.before c.part c.is_way c.closes, falls c.last c.part (way_below nodes bound c.last c.before c.is_way) c.is_part)

pub cyclic_none : (nodes : List Term) (links : List Link) (bound : List (Option ℕ)) → IsStore nodes links → IsTableOf bound links → IsCyclic nodes bound → HasSolution nodes links → ⊥
cyclic_none nodes links bound store table c s =
    cyclic_falls nodes bound (weight links s.0) (λ i j below h. parts_fall nodes links bound s.0 store.in_order s.1 i j below (table.each i) h) c

-- ---- where weights fall from each node that is not marked, all can be marked

pub record AllSolved (nodes : List Term) (bound : List (Option ℕ)) (size : ℕ) : Type 0 where
  pub marks : List Bool
  pub solved : IsPartlySolved nodes bound marks
  pub all : (i : ℕ) → i < length nodes → is_marked marks i ≡ true
  pub count : length marks ≡ size

same_count : (nodes : List Term) (bound : List (Option ℕ)) (more marks : List Bool) → length more ≡ length marks → AllSolved nodes bound (length more) → AllSolved nodes bound (length marks)
same_count nodes bound more marks e a = rw (← e) a

find_unmarked : (marks : List Bool) (n : ℕ) → ((i : ℕ) → i < n → is_marked marks i ≡ true) ⊎ ((i : ℕ) × (i < n) × (is_marked marks i ≡ false))
find_unmarked marks zero = inl (λ i h. absurd (omega arith))
find_unmarked marks (suc n) = elim (find_unmarked marks n) [
  | inr found ↦ inr (found.0, omega (arith, found.1), found.2)
  | inl all ↦ elim (cases_Bool (is_marked marks n)) [
    | inl here ↦ inl (λ i h. elim (cases_eq i n) [ inl at ↦ rw at here | inr past ↦ all i (omega arith) ])
    | inr not ↦ inr (n, omega arith, not)
  ]
]

module _ (nodes : List Term) (bound : List (Option ℕ)) (g : IsGraph nodes bound) (w : ℕ → ℕ) where
  abbrev pub Falls : List Bool → Type 0
  Falls marks = (i j : ℕ) → i < length nodes → is_marked marks i ≡ false → IsIn j (parts_of nodes bound i) → w j < w i

  lowest : (marks : List Bool) → Falls marks → (s i : ℕ) → i < length nodes → is_marked marks i ≡ false → w i < s
      → (k : ℕ) × (k < length nodes) × (is_marked marks k ≡ false) × (are_marked marks (parts_of nodes bound k) ≡ true)
  lowest marks f zero i below fresh h = absurd (omega (arith, h))
  lowest marks f (suc s) i below fresh h = elim (cases_Bool (are_marked marks (parts_of nodes bound i))) [
    | inl all ↦ (i, below, fresh, all)
    | inr not ↦
        let found = unmarked_in marks (parts_of nodes bound i) not in
        lowest marks f s found.0 (part_below nodes bound g i found.0 below found.1) found.2 (omega (arith, f i found.0 below fresh found.1, h))
  ]

  fresh_still : (marks : List Bool) (k i : ℕ) → is_marked marks k ≡ false → is_marked (set marks k true) i ≡ false → is_marked marks i ≡ false
  fresh_still marks k i fresh m = elim (cases_Bool (is_marked marks i)) [
    | inl was ↦ absurd (both_ways _ m (marked_more marks k fresh i was))
    | inr not ↦ not
  ]

  pub settle_rest : (s : ℕ) (marks : List Bool) → unmarked_count marks < s → length nodes ≤ length marks → Falls marks → IsPartlySolved nodes bound marks → AllSolved nodes bound (length marks)
  settle_rest zero marks h long f p = absurd (omega arith)
  settle_rest (suc s) marks h long f p = elim (find_unmarked marks (length nodes)) [
    | inl all ↦ record { marks = marks; solved = p; all = all; count = refl }
    | inr found ↦
        let next = lowest marks f (w found.0 + 1) found.0 found.1 found.2 (omega arith) in
        let within : next.0 < length marks = omega (arith, next.1, long) in
        let one = unmarked_falls marks next.0 within next.2 in
        let rest = settle_rest s (set marks next.0 true) (omega (arith, one, h)) (omega (arith, length-set marks next.0 true, long))
        (λ i j below m is. f i j below (fresh_still marks next.0 i next.2 m) is)
        (mark_more nodes bound marks next.0 next.1 within next.2 g next.3 p) in
        same_count nodes bound (set marks next.0 true) marks (length-set marks next.0 true) rest
  ]

pub children_within : (n m : ℕ) (xs : List Id) → n ≤ m → AllByRecursion (λ (id : Id). id.0 < n) xs → AllByRecursion (λ (id : Id). id.0 < m) xs
children_within n m [] h a = tt
children_within n m (id ∷ xs) h a = (omega (arith, a.0, h), children_within n m xs h a.1)

children_below : (i n : ℕ) (e : Term) → i ≤ n → HasChildrenBelow i e → AllByRecursion (λ (id : Id). id.0 < n) (children_of e)
children_below i n (Var s c) h b = tt
children_below i n (Free c) h b = tt
children_below i n (Node l c k xs) h b = children_within i n xs h b

pub graph_of_store : (nodes : List Term) (links : List Link) (bound : List (Option ℕ)) → IsStore nodes links → IsTableOf bound links → IsGraph nodes bound
graph_of_store nodes links bound store table = record {
  children = λ i below. children_below i (length nodes) (term_at nodes i) (omega (arith, below)) (store.children i below);
  targets = λ i j e. target_below (length nodes) links i j store.in_order (sym (table.each i) ∙ e);
}

-- ---- what a walk found

solved_by : (nodes : List Term) (links : List Link) (bound : List (Option ℕ)) (n : ℕ) → IsStore nodes links → IsClosed nodes links
    → IsTableOf bound links → AllSolved nodes bound n → HasSolution nodes links
solved_by nodes links bound n store closed table a = solution_from_marks nodes links bound a.marks store closed table a.solved a.all

none_bound : (i : ℕ) → bound_at [] i ≡ None
none_bound zero = refl
none_bound (suc i) = refl

pub none_in : (n k : ℕ) → is_marked (replicate n false) k ≡ false
none_in n k = elim (cases_lt k n) [
  | inl h ↦ get_or-replicate n k false false h
  | inr past ↦ get_or_past (replicate n false) k false (omega (arith, length-replicate n false))
]

-- without bindings there is a solution
pub start_solution : (nodes : List Term) (links : List Link) → IsStore nodes links → HasSolution nodes []
start_solution nodes links s =
    let store : IsStore nodes [] = record { children = s.children; in_order = tt; codes = tt } in
    let table : IsTableOf [] [] = record { each = none_bound } in
    let g : IsGraph nodes [] = graph_of_store nodes [] [] store table in
    let marks : List Bool = replicate (length nodes) false in
    let none : (k : ℕ) → is_marked marks k ≡ false = none_in (length nodes) in
    solved_by nodes [] [] (length marks) store (λ i below. agrees_refl [] (term_at nodes i)) table
    (settle_rest nodes [] g (λ i. i) (unmarked_count marks + 1) marks (omega arith) (omega (arith, length-replicate (length nodes) false))
    (λ i j below m h. child_before nodes i j below s h) (none_marked nodes [] marks none))
  where
    child_before : (nodes : List Term) (i j : ℕ) → i < length nodes → IsStore nodes links → IsIn j (parts_of nodes [] i) → j < i
    child_before nodes i j below s h = child_below i j (children_of (term_at nodes i)) (s.children i below) (subst (λ (o : Option ℕ). IsIn j (parts_at o (term_at nodes i))) (none_bound i) h)

target_none : (links : List Link) (i : ℕ) → ((k : ℕ) → k < length links → (link_at links k).from ≢ i) → target_of links i ≡ None
target_none [] i n = refl
target_none (l ∷ links) i n = rw (ne_eqb i l.from (λ e. n 0 (omega arith) (sym e))) (target_none links i (λ k h. n (suc k) (omega (arith, h))))

-- later bindings of other nodes are not seen
target_take : (t : ℕ) (links : List Link) (i : ℕ) → ((k : ℕ) → t ≤ k → k < length links → (link_at links k).from ≢ i) → target_of (take t links) i ≡ target_of links i
target_take zero links i n = sym (target_none links i (λ k h. n k (omega arith) h))
target_take (suc t) [] i n = refl
target_take (suc t) (l ∷ links) i n = rw (target_take t links i (λ k h below. n (suc k) (omega (arith, h)) (omega (arith, below)))) refl

-- where the nodes of all later bindings are settled, a solution before them gives one after them
pub solution_since : (nodes : List Term) (links : List Link) (bound : List (Option ℕ)) (t : ℕ) (marks : List Bool) → IsStore nodes links
    → IsClosed nodes links → IsTableOf bound links → HasSolution nodes (take t links) → length nodes ≤ length marks → IsPartlySolved nodes bound marks
    → ((k : ℕ) → t ≤ k → k < length links → is_marked marks (link_at links k).from ≡ true) → HasSolution nodes links
solution_since nodes links bound t marks store closed table old long p roots =
    let early : List Link = take t links in
    let falls : (i j : ℕ) → i < length nodes → is_marked marks i ≡ false → IsIn j (parts_of nodes bound i) → weight early old.0 j < weight early old.0 i = λ i j below m h.
    let other : (k : ℕ) → t ≤ k → k < length links → (link_at links k).from ≢ i =
    λ k from within e. both_ways (is_marked marks i) m (subst (λ (x : ℕ). is_marked marks x ≡ true) e (roots k from within)) in
    parts_fall nodes early bound old.0 (in_order_take (length nodes) t links store.in_order) old.1 i j below (table.each i ∙ sym (target_take t links i other)) h in
    solved_by nodes links bound (length marks) store closed table
    (settle_rest nodes bound (graph_of_store nodes links bound store table) (weight early old.0) (unmarked_count marks + 1) marks (omega arith) long falls p)
