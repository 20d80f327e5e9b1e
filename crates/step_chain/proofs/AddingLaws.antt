-- Laws of the nodes that trees add.
use Rattle.std.specs.Prelude.{◌≡◌, ℕ, ◌<◌, ◌≤◌, ◌+◌, List, [], ◌∷◌, ◌++◌, length, map, take, Option, Some, None, find, option_map, Bool, true, false, refl, Result, Ok, Err, IfOk, OnOk}
use Rattle.std.specs.Option.{ForSome}
use Rattle.std.proofs.Common.{sym, ap, subst, ◌∙◌, arith, cond, get_or}
use Rattle.std.proofs.lemmas.List.{append_assoc, append-nil, length-append, take_more, take_all, map_push}
use Rattle.mm_base.specs.declared.errors.Memory.{Memory}
use Rattle.mm_base.specs.declared.symbols.Sym.{Sym}
use Rattle.mm_base.specs.declared.symbols.Label.{Label}
use Rattle.mm_base.specs.declared.symbols.Typecode.{Typecode}
use Rattle.mm_base.specs.declared.tree.Tree.{Tree}
use Rattle.mm_base.specs.declared.tree.Tree.TheVariants as tree
use Rattle.mm_base.proofs.TreeFolds.{fold-Var, fold-Work, fold-Fresh, fold-Node}
use Rattle.mm_model.specs.declared.rows.Production.{Production}
use Rattle.term_model.specs.declared.shape.Id.{Id}
use Rattle.term_model.specs.Terms.{Term, Var, Free, Node}
use Rattle.term_model.specs.Store.{Store, with_node}
use Rattle.chain_laws.specs.declared.leaves.WorkNode.{WorkNode}
use Rattle.chain_laws.specs.declared.leaves.VariableNode.{VariableNode}
use Rattle.chain_laws.specs.Adding.{Rooted, Adder, run, id_of, put, there_or, work_at, variable_at, constants_in, with_production, layer_adder, added}
use Rattle.step_chain.specs.Grown.{IsGrown, IsRooted, AreListed, AreWorksIn, AreVariablesIn, AreIdsIn}

module _ (rows : List Production) (works : List WorkNode) (vars : List VariableNode) where
  pub added-Var : (s : Sym) (c : Typecode) (nodes : List Term) → added rows works vars (tree.Var s c) nodes ≡ there_or (variable_at vars s c) (Var s c) nodes
  unfolding added
  added-Var s c nodes = ap (λ (f : Adder). f nodes) (fold-Var Adder (layer_adder rows works vars) s c)

  pub added-Work : (c : Typecode) (n : ℕ) (nodes : List Term) → added rows works vars (tree.Work c n) nodes ≡ there_or (work_at works c n) (Free c) nodes
  unfolding added
  added-Work c n nodes = ap (λ (f : Adder). f nodes) (fold-Work Adder (layer_adder rows works vars) c n)

  pub added-Fresh : (c : Typecode) (n : ℕ) (nodes : List Term) → added rows works vars (tree.Fresh c n) nodes ≡ put (Free c) nodes
  unfolding added
  added-Fresh c n nodes = ap (λ (f : Adder). f nodes) (fold-Fresh Adder (layer_adder rows works vars) c n)

  pub added-Node : (l : Label) (c : Typecode) (ts : List Tree) (nodes : List Term)
      → added rows works vars (tree.Node l c ts) nodes ≡ with_production l c (constants_in rows l) (run (map (added rows works vars) ts) nodes)
  unfolding added
  added-Node l c ts nodes = ap (λ (f : Adder). f nodes) (fold-Node Adder (layer_adder rows works vars) l c ts)

-- one more
pub run_nodes : (fs : List Adder) (f : Adder) (nodes : List Term) → (run (fs ++ f ∷ []) nodes).nodes ≡ (f (run fs nodes).nodes).nodes
run_nodes [] f nodes = refl
run_nodes (g ∷ fs) f nodes = run_nodes fs f (g nodes).nodes

pub run_roots : (fs : List Adder) (f : Adder) (nodes : List Term) → (run (fs ++ f ∷ []) nodes).roots ≡ (run fs nodes).roots ++ id_of (f (run fs nodes).nodes).root ∷ []
run_roots [] f nodes = refl
run_roots (g ∷ fs) f nodes = ap (λ (ids : List Id). id_of (g nodes).root ∷ ids) (run_roots fs f (g nodes).nodes)

-- ---- nodes of a longer store

pub works_in_more : (n m : ℕ) (works : List WorkNode) → n ≤ m → AreWorksIn n works → AreWorksIn m works
works_in_more n m [] h a = tt
works_in_more n m (w ∷ ws) h a = (omega (arith, a.0, h), works_in_more n m ws h a.1)

pub variables_in_more : (n m : ℕ) (vars : List VariableNode) → n ≤ m → AreVariablesIn n vars → AreVariablesIn m vars
variables_in_more n m [] h a = tt
variables_in_more n m (v ∷ vs) h a = (omega (arith, a.0, h), variables_in_more n m vs h a.1)

pub ids_in_more : (n m : ℕ) (ids : List Id) → n ≤ m → AreIdsIn n ids → AreIdsIn m ids
ids_in_more n m [] h a = tt
ids_in_more n m (x ∷ xs) h a = (omega (arith, a.0, h), ids_in_more n m xs h a.1)

pub ids_in_push : (n : ℕ) (ids : List Id) (id : Id) → AreIdsIn n ids → id.0 < n → AreIdsIn n (ids ++ id ∷ [])
ids_in_push n [] id a h = (h, tt)
ids_in_push n (x ∷ xs) id a h = (a.0, ids_in_push n xs id a.1 h)

pub grown_none : (s : Store) → IsGrown s s
grown_none s = record { more = []; nodes = sym (append-nil s.nodes); links = refl; solved = λ h. h }

pub grown_more : (a b c : Store) → IsGrown a b → IsGrown b c → IsGrown a c
grown_more a b c h g = record {
  more = h.more ++ g.more;
  nodes = g.nodes ∙ ap (λ (ns : List Term). ns ++ g.more) h.nodes ∙ append_assoc a.nodes h.more g.more;
  links = g.links ∙ h.links;
  solved = λ s. g.solved (h.solved s);
}

pub grown_longer : (a b : Store) → IsGrown a b → length a.nodes ≤ length b.nodes
grown_longer a b h = let same : length b.nodes ≡ length (a.nodes ++ h.more) = ap length h.nodes in omega (arith, same, length-append a.nodes h.more)

-- ---- what is found stands in the list

work_by : (n : ℕ) (w : WorkNode) (o : Option WorkNode) (b : Bool) → w.node < n → ForSome (option_map (λ (v : WorkNode). v.node) o) (λ i. i < n)
    → ForSome (option_map (λ (v : WorkNode). v.node) (cond b (Some w) o)) (λ i. i < n)
work_by n w o true h rest i e = let same : w.node ≡ i = cc in subst (λ (j : ℕ). j < n) same h
work_by n w o false h rest i e = rest i e

pub found_work : (n : ℕ) (p : WorkNode → Bool) (ws : List WorkNode) → AreWorksIn n ws → ForSome (option_map (λ (w : WorkNode). w.node) (find p ws)) (λ i. i < n)
found_work n p [] h i e = let impossible : ◌≡◌ {A = Option ℕ} None (Some i) = e in absurd (cc)
found_work n p (w ∷ ws) h i e = work_by n w (find p ws) (p w) h.0 (λ j g. found_work n p ws h.1 j g) i e

variable_by : (n : ℕ) (w : VariableNode) (o : Option VariableNode) (b : Bool) → w.node < n
    → ForSome (option_map (λ (v : VariableNode). v.node) o) (λ i. i < n)
    → ForSome (option_map (λ (v : VariableNode). v.node) (cond b (Some w) o)) (λ i. i < n)
variable_by n w o true h rest i e = let same : w.node ≡ i = cc in subst (λ (j : ℕ). j < n) same h
variable_by n w o false h rest i e = rest i e

pub found_variable : (n : ℕ) (p : VariableNode → Bool) (ws : List VariableNode) → AreVariablesIn n ws → ForSome (option_map (λ (w : VariableNode). w.node) (find p ws)) (λ i. i < n)
found_variable n p [] h i e = let impossible : ◌≡◌ {A = Option ℕ} None (Some i) = e in absurd (cc)
found_variable n p (w ∷ ws) h i e = variable_by n w (find p ws) (p w) h.0 (λ j g. found_variable n p ws h.1 j g) i e

-- ---- for the code

pub rooted_by : (r : Result Id Memory) (nodes : List Term) (x y : Rooted) → x ≡ y → IfOk r (λ id. IsRooted x nodes id) → IfOk r (λ id. IsRooted y nodes id)
rooted_by r nodes x y e h = subst (λ (z : Rooted). IfOk r (λ id. IsRooted z nodes id)) e h

pub fresh_rooted : (r : Result Id Memory) (old new : Store) (e : Term) → IfOk r (λ id. id.0 ≡ length old.nodes) → OnOk r (new ≡ with_node old e)
    → IfOk r (λ id. IsRooted (put e old.nodes) new.nodes id)
fresh_rooted (Ok id) old new e h g = record { nodes_are = ap (λ (s : Store). s.nodes) g; root = h }
fresh_rooted (Err x) old new e h g = tt

module _ (rows : List Production) (works : List WorkNode) (vars : List VariableNode) where
  abbrev f : Tree → Adder
  f = added rows works vars

  pub listed_more : (nodes0 : List Term) (mid new : Store) (xs : List Tree) (k : ℕ) (x : Tree) (ids more : List Id) (id : Id)
      → AreListed (run (map f (take k xs)) nodes0) mid.nodes ids → IsRooted (f x mid.nodes) new.nodes id → x ≡ get_or xs k x → k < length xs
      → more ≡ ids ++ id ∷ []
      → AreListed (run (map f (take (k + 1) xs)) nodes0) new.nodes more
  listed_more nodes0 mid new xs k x ids more id h r e below is =
      let list : map f (take (k + 1) xs) ≡ map f (take k xs) ++ f x ∷ [] = ap (map f) (take_more xs k x below ∙ ap (λ (y : Tree). take k xs ++ y ∷ []) (sym e)) ∙ map_push f (take k xs) x in
      let before = run (map f (take k xs)) nodes0 in
      let mid_is : mid.nodes ≡ before.nodes = h.nodes_are in
      record {
        nodes_are = r.nodes_are ∙ ap (λ (ns : List Term). (f x ns).nodes) mid_is ∙ sym (run_nodes (map f (take k xs)) (f x) nodes0) ∙ ap (λ (fs : List Adder). (run fs nodes0).nodes) (sym list);
        roots = is ∙ ap (λ (is' : List Id). is' ++ id ∷ []) h.roots ∙ ap (λ (j : Id). before.roots ++ j ∷ []) (ap id_of (r.root ∙ ap (λ (ns : List Term). (f x ns).root) mid_is))
            ∙ sym (run_roots (map f (take k xs)) (f x) nodes0) ∙ ap (λ (fs : List Adder). (run fs nodes0).roots) (sym list);
      }

  pub production_rooted : (r : Result Id Memory) (l : Label) (c : Typecode) (k' : ℕ) (ts items : List Tree) (k : ℕ) (nodes0 : List Term)
      (mid new : Store) (ids given : List Id) (t : Tree)
      → items ≡ ts → length items ≤ k → AreListed (run (map f (take k items)) nodes0) mid.nodes ids → given ≡ ids → k' ≡ constants_in rows l
      → t ≡ tree.Node l c ts
      → IfOk r (λ id. id.0 ≡ length mid.nodes) → OnOk r (new ≡ with_node mid (Node l c k' given)) → IfOk r (λ id. IsRooted (f t nodes0) new.nodes id)
  production_rooted (Err x) l c k' ts items k nodes0 mid new ids given t is past h g n e o p = tt
  production_rooted (Ok id) l c k' ts items k nodes0 mid new ids given t is past h g n e o p =
      let whole : map f (take k items) ≡ map f ts = ap (map f) (take_all k items past ∙ is) in
      let listed = subst (λ (fs : List Adder). AreListed (run fs nodes0) mid.nodes ids) whole h in
      let tree_is : f t nodes0 ≡ with_production l c (constants_in rows l) (run (map f ts) nodes0) = ap (λ (u : Tree). f u nodes0) e ∙ added-Node rows works vars l c ts nodes0 in
      let roots : given ≡ (run (map f ts) nodes0).roots = g ∙ listed.roots in
      let nodes = listed.nodes_are in
      let made : mid.nodes ++ Node l c k' given ∷ [] ≡ (with_production l c (constants_in rows l) (run (map f ts) nodes0)).nodes = cc in
      record { nodes_are = ap (λ (s : Store). s.nodes) p ∙ made ∙ ap (λ (q : Rooted). q.nodes) (sym tree_is); root = o ∙ ap length nodes ∙ ap (λ (q : Rooted). q.root) (sym tree_is) }
