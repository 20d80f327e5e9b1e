-- How many nodes trees add to a store.
use Rattle.std.specs.Prelude.{◌≡◌, ℕ, ◌<◌, ◌≤◌, ◌+◌, List, [], ◌∷◌, ◌++◌, length, map, sum, take, slice_get, Option, Some, None, Contains, refl}
use Rattle.std.specs.List.{AllByRecursion}
use Rattle.std.specs.Option.{option_map_or}
use Rattle.std.proofs.Common.{zero, suc, get_or, sym, ap, subst, ◌∙◌, arith, inl, inr}
use Rattle.std.proofs.lemmas.List.{length-append, length-map, length_push}
use Rattle.std.proofs.lemmas.List.Concat.{flat_map-cons}
use Rattle.std.proofs.lemmas.List.Elements.{Contains-append_left, Contains-append_right}
use Rattle.std.proofs.lemmas.List.Sums.{sum_by-cons}
use Rattle.mm_base.specs.declared.symbols.Sym.{Sym}
use Rattle.mm_base.specs.declared.symbols.Label.{Label}
use Rattle.mm_base.specs.declared.symbols.Typecode.{Typecode}
use Rattle.mm_base.specs.declared.tree.Tree.{Tree}
use Rattle.mm_base.specs.declared.tree.Tree.TheVariants as tree
use Rattle.mm_base.specs.declared.tree.Tree.TheOpen.{Tree-F}
use Rattle.mm_base.specs.declared.tree.Tree.TheFolds.{fold-Tree}
use Rattle.mm_base.specs.Trees.{Each}
use Rattle.mm_base.proofs.TreeFolds.{fold-Var, fold-Work, fold-Fresh, fold-Node}
use Rattle.mm_base.proofs.TreeInduction.{tree_ind}
use Rattle.mm_base.proofs.TreeFacts.{node_held}
use Rattle.mm_model.specs.declared.rows.Production.{Production}
use Rattle.mm_model.specs.Productions.{TypedVariable, typed_variables}
use Rattle.mm_model.specs.Sizes.{nodes}
use Rattle.mm_model.proofs.SizeLaws.{nodes-Var, nodes-Work, nodes-Fresh, nodes-Node}
use Rattle.mm_model.specs.Book.{Database, Assertion}
use Rattle.solve_model.specs.declared.bound.BoundStep.{BoundStep}
use Rattle.solve_model.specs.declared.bound.Bound.{Bound}
use Rattle.solve_model.specs.Bound.{standing, standing_size, step_size, work_size}
use Rattle.solve_model.specs.Trees.{Open, work, fresh, open_leaves, flatten}
use Rattle.solve_model.proofs.TreeLaws.{open_leaves-Var, open_leaves-Work, open_leaves-Fresh, open_leaves-Node}
use Rattle.term_model.specs.Terms.{Term, Var, Free, Node}
use Rattle.chain_laws.specs.declared.leaves.WorkNode.{WorkNode}
use Rattle.chain_laws.specs.declared.leaves.VariableNode.{VariableNode}
use Rattle.chain_laws.specs.Adding.{Rooted, Listed, Adder, run, there_or, work_at, variable_at, constants_in, with_production, added, numbered, free_of, AreApart}
use Rattle.chain_laws.specs.Layout.{LayerIsOver, IsOver}
use Rattle.chain_laws.proofs.LeastLeaves.{first, later, nothing}
use Rattle.chain_laws.proofs.Listed.{parted}
use Rattle.chain_laws.proofs.Agreement.{over_Var, over_Work}
use Rattle.chain_laws.proofs.Copies.{found}
use Rattle.again_laws.specs.Leaves.{typed_leaves}
use Rattle.again_laws.specs.Whole.{StandsIn}
use Rattle.again_laws.proofs.LeafLaws.{leaves-Var, leaves-Work, leaves-Fresh, leaves-Node}
use Rattle.step_chain.specs.Formulas.{Begun, with_work, with_leaf, with_leaves, with_formula, with_step, with_steps}
use Rattle.step_chain.specs.Sizes.{formula_size, formulas_size, candidates_size, size_of_front}
use Rattle.step_chain.specs.Candidate.{roots_of}
use Rattle.step_chain.proofs.AddingLaws.{added-Var, added-Work, added-Fresh, added-Node}

pub sum_cons : (n : ℕ) (ns : List ℕ) → sum (n ∷ ns) ≡ n + sum ns
sum_cons n ns = sum_by-cons (λ (x : ℕ). x) n ns

-- ---- the nodes of a tree, where a variable counts so many and a work variable so many

abbrev layer_new : ℕ → ℕ → Tree-F ℕ → ℕ
layer_new v w (Tree-F.Var s c) = v
layer_new v w (Tree-F.Work c n) = w
layer_new v w (Tree-F.Fresh c n) = 1
layer_new v w (Tree-F.Node l c below) = sum below + 1

pub new_nodes : ℕ → ℕ → Tree → ℕ
new_nodes v w = fold-Tree ℕ (layer_new v w)

module _ (v w : ℕ) where
  new-Var : (s : Sym) (c : Typecode) → new_nodes v w (tree.Var s c) ≡ v
  unfolding new_nodes
  new-Var s c = fold-Var ℕ (layer_new v w) s c

  new-Work : (c : Typecode) (n : ℕ) → new_nodes v w (tree.Work c n) ≡ w
  unfolding new_nodes
  new-Work c n = fold-Work ℕ (layer_new v w) c n

  new-Fresh : (c : Typecode) (n : ℕ) → new_nodes v w (tree.Fresh c n) ≡ 1
  unfolding new_nodes
  new-Fresh c n = fold-Fresh ℕ (layer_new v w) c n

  new-Node : (l : Label) (c : Typecode) (ts : List Tree) → new_nodes v w (tree.Node l c ts) ≡ sum (map (new_nodes v w) ts) + 1
  unfolding new_nodes
  new-Node l c ts = fold-Node ℕ (layer_new v w) l c ts

module _ (rows : List Production) (works : List WorkNode) (vars : List VariableNode) (v w : ℕ) (Ok : Tree → Type 0) (ok_node : (l : Label) (c : Typecode) (ts : List Tree) → Ok (tree.Node l c ts)
    → Each Ok ts)
    (at_var : (s : Sym) (c : Typecode) → Ok (tree.Var s c) → (ns : List Term) → length (there_or (variable_at vars s c) (Var s c) ns).nodes ≡ length ns + v)
    (at_work : (c : Typecode) (n : ℕ) → Ok (tree.Work c n) → (ns : List Term) → length (there_or (work_at works c n) (Free c) ns).nodes ≡ length ns + w) where
  abbrev add : Tree → Adder
  add = added rows works vars

  abbrev Adds : Tree → Type 0
  Adds t = Ok t → (ns : List Term) → length (add t ns).nodes ≡ length ns + new_nodes v w t

  run_adds : (ts : List Tree) → Each Adds ts → Each Ok ts → (ns : List Term) → length (run (map add ts) ns).nodes ≡ length ns + sum (map (new_nodes v w) ts)
  run_adds [] h ok ns = omega arith
  run_adds (t ∷ ts) h ok ns =
      let one = h.0 ok.0 ns in
      let rest = run_adds ts h.1 ok.1 (add t ns).nodes in
      let total = sum_cons (new_nodes v w t) (map (new_nodes v w) ts) in
      omega (arith, one, rest, total)

  by_new : (ns : List Term) (r q : Rooted) (n m : ℕ) → r ≡ q → n ≡ m → length q.nodes ≡ length ns + m → length r.nodes ≡ length ns + n
  by_new ns r q n m e same h = ap (λ (x : Rooted). length x.nodes) e ∙ h ∙ ap (λ (k : ℕ). length ns + k) (sym same)

  pub tree_adds : (t : Tree) → Adds t
  tree_adds = tree_ind Adds
      (λ s c ok ns. by_new ns _ _ _ _ (added-Var rows works vars s c ns) (new-Var v w s c) (at_var s c ok ns))
      (λ c n ok ns. by_new ns _ _ _ _ (added-Work rows works vars c n ns) (new-Work v w c n) (at_work c n ok ns))
      (λ c n ok ns. by_new ns _ _ _ _ (added-Fresh rows works vars c n ns) (new-Fresh v w c n) (length_push ns (Free c)))
      (λ l c ts h ok ns. by_new ns _ _ _ _ (added-Node rows works vars l c ts ns) (new-Node v w l c ts) (production_adds l c ts ns (run_adds ts h (ok_node l c ts ok) ns)))
    where
      production_adds : (l : Label) (c : Typecode) (ts : List Tree) (ns : List Term) → length (run (map add ts) ns).nodes ≡ length ns + sum (map (new_nodes v w) ts)
          → length (with_production l c (constants_in rows l) (run (map add ts) ns)).nodes ≡ length ns + (sum (map (new_nodes v w) ts) + 1)
      production_adds l c ts ns h = let kids = run (map add ts) ns in let long = length_push kids.nodes (Node l c (constants_in rows l) kids.roots) in omega (arith, long, h)

  pub trees_add : (ts : List Tree) → Each Ok ts → (ns : List Term) → length (run (map add ts) ns).nodes ≡ length ns + sum (map (new_nodes v w) ts)
  trees_add ts ok ns = run_adds ts (each ts) ok ns
    where
      each : (ts : List Tree) → Each Adds ts
      each [] = tt
      each (t ∷ ts) = (tree_adds t, each ts)

-- ---- all nodes are the new ones and leaves that are there

leaves_more : (t : Tree) (ts : List Tree) → length (flatten (map typed_leaves (t ∷ ts))) ≡ length (typed_leaves t) + length (flatten (map typed_leaves ts))
leaves_more t ts = ap length (flat_map-cons (λ (xs : List TypedVariable). xs) (typed_leaves t) (map typed_leaves ts)) ∙ length-append (typed_leaves t) (flatten (map typed_leaves ts))

abbrev HasLeaves : Tree → Type 0
HasLeaves t = nodes t ≡ new_nodes 0 1 t + length (typed_leaves t)

all_leaves : (ts : List Tree) → Each HasLeaves ts → sum (map nodes ts) ≡ sum (map (new_nodes 0 1) ts) + length (flatten (map typed_leaves ts))
all_leaves [] h = refl
all_leaves (t ∷ ts) h =
    let here = h.0 in
    let rest = all_leaves ts h.1 in
    let one = sum_cons (nodes t) (map nodes ts) in
    let two = sum_cons (new_nodes 0 1 t) (map (new_nodes 0 1) ts) in
    omega (arith, here, rest, one, two, leaves_more t ts)

pub with_leaves_are : (t : Tree) → HasLeaves t
with_leaves_are = tree_ind HasLeaves
    (λ s c. let a = nodes-Var s c in let b = new-Var 0 1 s c in let d = ap length (leaves-Var s c) in omega (arith, a, b, d))
    (λ c n. let a = nodes-Work c n in let b = new-Work 0 1 c n in let d = ap length (leaves-Work c n) in omega (arith, a, b, d))
    (λ c n. let a = nodes-Fresh c n in let b = new-Fresh 0 1 c n in let d = ap length (leaves-Fresh c n) in omega (arith, a, b, d))
    (λ l c ts h. let a = nodes-Node l c ts in let b = new-Node 0 1 l c ts in let d = ap length (leaves-Node l c ts) in let e = all_leaves ts h in omega (arith, a, b, d, e))

pub all_leaves_are : (ts : List Tree) → sum (map nodes ts) ≡ sum (map (new_nodes 0 1) ts) + length (flatten (map typed_leaves ts))
all_leaves_are ts = all_leaves ts (each ts)
  where
    each : (ts : List Tree) → Each HasLeaves ts
    each [] = tt
    each (t ∷ ts) = (with_leaves_are t, each ts)

-- ---- distinct elements of a list are at most as many as it has

module _ {X : Type 0} where
  drop_at : List X → ℕ → List X
  drop_at [] k = []
  drop_at (x ∷ xs) zero = xs
  drop_at (x ∷ xs) (suc k) = x ∷ drop_at xs k

  dropped : (xs : List X) (k : ℕ) → k < length xs → length xs ≡ length (drop_at xs k) + 1
  unfolding drop_at
  dropped [] k h = absurd (omega (arith, h))
  dropped (x ∷ xs) zero h = omega arith
  dropped (x ∷ xs) (suc k) h = let rest = dropped xs k (omega (arith, h)) in omega (arith, rest)

  still_there : (xs : List X) (k : ℕ) (x y : X) → get_or xs k x ≡ x → (x ≡ y → ⊥) → Contains xs y → Contains (drop_at xs k) y
  unfolding drop_at
  still_there [] k x y e off h = absurd (nothing y h)
  still_there (z ∷ xs) zero x y e off h = elim (parted y z xs h) [ inl same ↦ absurd (off (sym e ∙ same)) | inr rest ↦ rest ]
  still_there (z ∷ xs) (suc k) x y e off h = elim (parted y z xs h) [
    | inl same ↦ subst (Contains (z ∷ drop_at xs k)) same (first z (drop_at xs k))
    | inr rest ↦ later y z (drop_at xs k)
        (still_there xs k x y e off rest)
  ]

pub at_most : (vs xs : List TypedVariable) → AreApart vs → ((v : TypedVariable) → Contains vs v → Contains xs v) → length vs ≤ length xs
at_most [] xs apart h = omega arith
at_most (v ∷ vs) xs apart h =
    let there = h v (first v vs) in
    let rest = at_most vs (drop_at xs there.0) apart.1 (λ u g. still_there xs there.0 v u there.2 (λ (e : v ≡ u). apart.0 (subst (Contains vs) (sym e) g)) (h u (later u v vs g))) in
    let less = dropped xs there.0 there.1 in
    omega (arith, rest, less)

-- ---- a candidate

module _ (rows : List Production) (ns : List Term) (a : Assertion) (vars : a.vars ≡ typed_variables a.frame.hyps) (apart : AreApart a.vars) (over : IsOver a.vars a.tree)
    (all_over : AllByRecursion (IsOver a.vars) a.hyps)
    (stand : (v : TypedVariable) → Contains a.vars v → StandsIn a v) where
  abbrev own : List VariableNode
  own = numbered (length ns) a.vars

  abbrev all_typed : List TypedVariable
  all_typed = typed_leaves a.tree ++ flatten (map typed_leaves a.hyps)

  own_var : (s : Sym) (c : Typecode) → IsOver a.vars (tree.Var s c) → (ms : List Term) → length (there_or (variable_at own s c) (Var s c) ms).nodes ≡ length ms + 0
  own_var s c h ms = let at = found (length ns) a.vars s c (over_Var a.vars s c h) in ap (λ (o : Option ℕ). length (there_or o (Var s c) ms).nodes) at.node ∙ omega arith

  no_work : (c : Typecode) (n : ℕ) → IsOver a.vars (tree.Work c n) → (ms : List Term) → length (there_or (work_at [] c n) (Free c) ms).nodes ≡ length ms + 1
  no_work c n h ms = absurd (over_Work a.vars c n h)

  own_tree : (ms : List Term) → length (added rows [] own a.tree ms).nodes ≡ length ms + new_nodes 0 1 a.tree
  own_tree = tree_adds rows [] own 0 1 (IsOver a.vars) (λ l c ts h. node_held (LayerIsOver a.vars) l c ts h) own_var no_work a.tree over

  own_trees : (ms : List Term) → length (run (map (added rows [] own) a.hyps) ms).nodes ≡ length ms + sum (map (new_nodes 0 1) a.hyps)
  own_trees = trees_add rows [] own 0 1 (IsOver a.vars) (λ l c ts h. node_held (LayerIsOver a.vars) l c ts h) own_var no_work a.hyps all_over

  in_hyps : (ts : List Tree) (j : ℕ) (t : Tree) (v : TypedVariable) → slice_get ts j ≡ Some t → Contains (typed_leaves t) v → Contains (flatten (map typed_leaves ts)) v
  in_hyps [] j t v e h = let impossible : ◌≡◌ {A = Option Tree} None (Some t) = e in absurd (cc)
  in_hyps (u ∷ ts) zero t v e h =
      let same : u ≡ t = cc in
      subst (λ (xs : List TypedVariable). Contains xs v) (sym (flat_map-cons (λ (xs : List TypedVariable). xs) (typed_leaves u) (map typed_leaves ts))) (Contains-append_left (typed_leaves u)
      (flatten (map typed_leaves ts)) v (subst (λ (x : Tree). Contains (typed_leaves x) v) (sym same) h))
  in_hyps (u ∷ ts) (suc j) t v e h =
      subst (λ (xs : List TypedVariable). Contains xs v) (sym (flat_map-cons (λ (xs : List TypedVariable). xs) (typed_leaves u) (map typed_leaves ts))) (Contains-append_right (typed_leaves u)
      (flatten (map typed_leaves ts)) v (in_hyps ts j t v e h))

  stands : (v : TypedVariable) → StandsIn a v → Contains all_typed v
  stands v (inl h) = Contains-append_left (typed_leaves a.tree) (flatten (map typed_leaves a.hyps)) v h
  stands v (inr h) = Contains-append_right (typed_leaves a.tree) (flatten (map typed_leaves a.hyps)) v (in_hyps a.hyps h.0 h.1 v h.2 h.3)

  variables_few : length a.vars ≤ length (typed_leaves a.tree) + length (flatten (map typed_leaves a.hyps))
  variables_few =
      let few = at_most a.vars all_typed apart (λ v h. stands v (stand v h)) in
      let both = length-append (typed_leaves a.tree) (flatten (map typed_leaves a.hyps)) in
      omega (arith, few, both)

  own_run : Listed
  own_run = run (map (added rows [] own) a.hyps) (added rows [] own a.tree (ns ++ map free_of a.vars)).nodes

  same_run : own_run ≡ roots_of rows ns a.frame.hyps a.tree a.hyps
  unfolding own_run
  same_run = ap (λ (vs : List TypedVariable). run (map (added rows [] (numbered (length ns) vs)) a.hyps) (added rows [] (numbered (length ns) vs) a.tree (ns ++ map free_of vs)).nodes) vars

  -- the nodes of a candidate are at most those of its assertion's trees
  pub candidate_few : length (roots_of rows ns a.frame.hyps a.tree a.hyps).nodes ≤ length ns + (nodes a.tree + sum (map nodes a.hyps))
  unfolding own_run
  candidate_few =
      let start = ns ++ map free_of a.vars in
      let one = own_tree start in
      let two = own_trees (added rows [] own a.tree start).nodes in
      let long = length-append ns (map free_of a.vars) in
      let many = length-map a.vars free_of in
      let same = ap (λ (x : Listed). length x.nodes) same_run in
      let a1 = with_leaves_are a.tree in
      let a2 = all_leaves_are a.hyps in
      omega (arith, one, two, long, many, same, a1, a2, variables_few)

-- ---- formulas

abbrev pub works_count : List Open → ℕ
works_count [] = 0
works_count (work c n ∷ xs) = works_count xs + 1
works_count (fresh c n ∷ xs) = works_count xs

works_append : (xs ys : List Open) → works_count (xs ++ ys) ≡ works_count xs + works_count ys
works_append [] ys = omega arith
works_append (work c n ∷ xs) ys = let rest = works_append xs ys in omega (arith, rest)
works_append (fresh c n ∷ xs) ys = works_append xs ys

works_more : (t : Tree) (ts : List Tree) → works_count (flatten (map open_leaves (t ∷ ts))) ≡ works_count (open_leaves t) + works_count (flatten (map open_leaves ts))
works_more t ts = ap works_count (flat_map-cons (λ (xs : List Open). xs) (open_leaves t) (map open_leaves ts)) ∙ works_append (open_leaves t) (flatten (map open_leaves ts))

abbrev HasWorks : Tree → Type 0
HasWorks t = nodes t ≡ new_nodes 1 0 t + works_count (open_leaves t)

all_works : (ts : List Tree) → Each HasWorks ts → sum (map nodes ts) ≡ sum (map (new_nodes 1 0) ts) + works_count (flatten (map open_leaves ts))
all_works [] h = refl
all_works (t ∷ ts) h =
    let here = h.0 in
    let rest = all_works ts h.1 in
    let one = sum_cons (nodes t) (map nodes ts) in
    let two = sum_cons (new_nodes 1 0 t) (map (new_nodes 1 0) ts) in
    omega (arith, here, rest, one, two, works_more t ts)

pub with_works_are : (t : Tree) → HasWorks t
with_works_are = tree_ind HasWorks
    (λ s c. let a = nodes-Var s c in let b = new-Var 1 0 s c in let d = ap works_count (open_leaves-Var s c) in omega (arith, a, b, d))
    (λ c n. let a = nodes-Work c n in let b = new-Work 1 0 c n in let d = ap works_count (open_leaves-Work c n) in omega (arith, a, b, d))
    (λ c n. let a = nodes-Fresh c n in let b = new-Fresh 1 0 c n in let d = ap works_count (open_leaves-Fresh c n) in omega (arith, a, b, d))
    (λ l c ts h. let a = nodes-Node l c ts in let b = new-Node 1 0 l c ts in let d = ap works_count (open_leaves-Node l c ts) in let e = all_works ts h in omega (arith, a, b, d, e))

-- what a formula's tree adds, and its unknowns
abbrev pub tree_size : BoundStep → ℕ
tree_size s = option_map_or (new_nodes 1 0) s.tree 0

abbrev pub unknowns_size : BoundStep → ℕ
unknowns_size s = option_map_or (λ (t : Tree). works_count (open_leaves t)) s.tree 1

both_sizes : (t : Option Tree) → option_map_or nodes t 1 ≡ option_map_or (new_nodes 1 0) t 0 + option_map_or (λ (t : Tree). works_count (open_leaves t)) t 1
both_sizes None = omega arith
both_sizes (Some t) = with_works_are t

pub sizes_are : (ss : List BoundStep) → formulas_size ss ≡ sum (map tree_size ss) + sum (map unknowns_size ss)
sizes_are [] = refl
sizes_are (s ∷ ss) =
    let here = both_sizes s.tree in
    let rest = sizes_are ss in
    let one = sum_cons (formula_size s) (map formula_size ss) in
    let two = sum_cons (tree_size s) (map tree_size ss) in
    let three = sum_cons (unknowns_size s) (map unknowns_size ss) in
    omega (arith, here, rest, one, two, three)

work_few : (b : Begun) (c : Typecode) (n : ℕ) (o : Option ℕ) → length (with_work b c n o).nodes ≤ length b.nodes + 1
work_few b c n None = let long = length_push b.nodes (Free c) in omega (arith, long)
work_few b c n (Some i) = omega arith

leaves_few : (xs : List Open) (b : Begun) → length (with_leaves b xs).nodes ≤ length b.nodes + works_count xs
leaves_few [] b = omega arith
leaves_few (work c n ∷ xs) b =
    let one = work_few b c n (work_at b.works c n) in
    let rest = leaves_few xs (with_leaf b (work c n)) in
    omega (arith, one, rest)
leaves_few (fresh c n ∷ xs) b = leaves_few xs b

module _ (logic : Typecode) where
  formula_few : (t : Option Tree) (b : Begun) → length (with_formula logic b t).nodes ≤ length b.nodes + option_map_or (λ (t : Tree). works_count (open_leaves t)) t 1
  formula_few None b = let long = length_push b.nodes (Free logic) in omega (arith, long)
  formula_few (Some t) b = leaves_few (open_leaves t) b

  pub unknowns_few : (ss : List BoundStep) (b : Begun) → length (with_steps logic b ss).nodes ≤ length b.nodes + sum (map unknowns_size ss)
  unknowns_few [] b = omega arith
  unknowns_few (s ∷ ss) b =
      let one = formula_few s.tree b in
      let rest = unknowns_few ss (with_step logic b s) in
      let total = sum_cons (unknowns_size s) (map unknowns_size ss) in
      omega (arith, one, rest, total)

-- ---- all steps

sum_takes : (f : BoundStep → ℕ) (ss : List BoundStep) (k : ℕ) → sum (map f (take k ss)) ≤ sum (map f ss)
sum_takes f ss zero = omega arith
sum_takes f [] (suc k) = omega arith
sum_takes f (s ∷ ss) (suc k) =
    let rest = sum_takes f ss k in
    let one = sum_cons (f s) (map f (take k ss)) in
    let two = sum_cons (f s) (map f ss) in
    omega (arith, rest, one, two)

step_sizes : (db : Database) (place : ℕ) (ss : List BoundStep) → sum (map (step_size db place) ss) ≡ formulas_size ss + candidates_size db place ss
step_sizes db place [] = refl
step_sizes db place (s ∷ ss) =
    let rest = step_sizes db place ss in
    let one = sum_cons (step_size db place s) (map (step_size db place) ss) in
    let two = sum_cons (formula_size s) (map formula_size ss) in
    let three = sum_cons (standing_size (standing db place s)) (map (λ (x : BoundStep). standing_size (standing db place x)) ss) in
    omega (arith, rest, one, two, three)

-- the nodes of the formulas and of the first candidates are within the work size
pub front_few : (db : Database) (bound : Bound) (k : ℕ) → size_of_front db bound k ≤ work_size db bound
front_few db bound k =
    let some_of = sum_takes (λ (s : BoundStep). standing_size (standing db bound.place s)) bound.steps k in
    let all = step_sizes db bound.place bound.steps in
    omega (arith, some_of, all)

-- more steps are no fewer nodes
pub front_rises : (db : Database) (bound : Bound) (k : ℕ) → size_of_front db bound k ≤ size_of_front db bound (k + 1)
front_rises db bound k = let rises = longer bound.steps k in omega (arith, rises)
  where
    longer : (ss : List BoundStep) (j : ℕ) → candidates_size db bound.place (take j ss) ≤ candidates_size db bound.place (take (j + 1) ss)
    longer [] zero = omega arith
    longer [] (suc j) = omega arith
    longer (s ∷ ss) zero = omega arith
    longer (s ∷ ss) (suc j) =
        let number : suc j + 1 ≡ suc (j + 1) = omega arith in
        let rest = longer ss j in
        let one = sum_cons (standing_size (standing db bound.place s)) (map (λ (x : BoundStep). standing_size (standing db bound.place x)) (take j ss)) in
        let two = sum_cons (standing_size (standing db bound.place s)) (map (λ (x : BoundStep). standing_size (standing db bound.place x)) (take (j + 1) ss)) in
        let whole = ap (λ (m : ℕ). candidates_size db bound.place (take m (s ∷ ss))) number in
        omega (arith, rest, one, two, whole)

-- with one candidate more
pub front_more : (db : Database) (bound : Bound) (k : ℕ) (s : BoundStep) → slice_get bound.steps k ≡ Some s
    → size_of_front db bound (k + 1) ≡ size_of_front db bound k + standing_size (standing db bound.place s)
front_more db bound k s e = let more = taken bound.steps k e in omega (arith, more)
  where
    taken : (ss : List BoundStep) (j : ℕ) → slice_get ss j ≡ Some s
        → sum (map (λ (x : BoundStep). standing_size (standing db bound.place x)) (take (j + 1) ss)) ≡ sum (map (λ (x : BoundStep). standing_size (standing db bound.place x))
        (take j ss)) + standing_size (standing db bound.place s)
    taken [] j is = let impossible : ◌≡◌ {A = Option BoundStep} None (Some s) = is in absurd (cc)
    taken (x ∷ ss) zero is =
        let same : x ≡ s = cc in
        let one = sum_cons (standing_size (standing db bound.place x)) [] in
        let size = ap (λ (y : BoundStep). standing_size (standing db bound.place y)) same in
        omega (arith, one, size)
    taken (x ∷ ss) (suc j) is =
        let number : suc j + 1 ≡ suc (j + 1) = omega arith in
        let rest = taken ss j is in
        let one = sum_cons (standing_size (standing db bound.place x)) (map (λ (x : BoundStep). standing_size (standing db bound.place x)) (take (j + 1) ss)) in
        let two = sum_cons (standing_size (standing db bound.place x)) (map (λ (x : BoundStep). standing_size (standing db bound.place x)) (take j ss)) in
        let whole = ap (λ (m : ℕ). sum (map (λ (x : BoundStep). standing_size (standing db bound.place x)) (take m (x ∷ ss)))) number in
        omega (arith, rest, one, two, whole)
