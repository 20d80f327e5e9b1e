-- Laws of the nodes of formulas, for the code that adds them.
use Rattle.std.specs.Prelude.{◌≡◌, ℕ, ◌<◌, ◌≤◌, ◌+◌, List, [], ◌∷◌, ◌++◌, length, map, take, fold, Option, Some, None, Result, OnOk, refl}
use Rattle.std.specs.List.{AllByRecursion}
use Rattle.std.specs.Option.{ForSome}
use Rattle.std.proofs.Common.{zero, suc, get_or, sym, ap, subst, ◌∙◌, arith}
use Rattle.std.proofs.lemmas.List.{take_all, take_more, length-append}
use Rattle.std.proofs.lemmas.List.Concat.{flat_map-cons}
use Rattle.std.proofs.lemmas.List.Sums.{fold-append, fold_more}
use Rattle.mm_base.specs.declared.errors.Memory.{Memory}
use Rattle.mm_base.specs.declared.symbols.Typecode.{Typecode}
use Rattle.mm_base.specs.declared.tree.Tree.{Tree}
use Rattle.mm_model.specs.declared.rows.Production.{Production}
use Rattle.solve_model.specs.declared.bound.BoundStep.{BoundStep}
use Rattle.solve_model.specs.Trees.{Open, work, fresh, open_leaves, flatten}
use Rattle.term_model.specs.declared.shape.Id.{Id}
use Rattle.term_model.specs.Terms.{Term, Free}
use Rattle.term_model.specs.Store.{Store}
use Rattle.chain_laws.specs.declared.leaves.WorkNode.{WorkNode}
use Rattle.chain_laws.specs.Adding.{Adder, Listed, run, id_of, work_at}
use Rattle.step_chain.specs.Grown.{IsRooted, AreListed, AreWorksIn}
use Rattle.step_chain.specs.Formulas.{Begun, begun, with_work, with_leaf, with_leaves, with_formula, with_step, with_steps, blank_node, blank_nodes}
use Rattle.step_chain.specs.Formulas.{formula_adder, formula_adders, nothing_begun, unknowns_of, formulas_of, AreFormulas}
use Rattle.step_chain.proofs.AddingLaws.{run_nodes, run_roots, works_in_more}

-- ---- the work variables of a tree

abbrev pub with_tree : Begun → Tree → Begun
with_tree b t = with_leaves b (open_leaves t)

with_trees : (b : Begun) (ts : List Tree) → with_leaves b (flatten (map open_leaves ts)) ≡ fold with_tree b ts
with_trees b [] = refl
with_trees b (t ∷ ts) =
    ap (with_leaves b) (flat_map-cons (λ (xs : List Open). xs) (open_leaves t) (map open_leaves ts)) ∙ fold-append with_leaf b (open_leaves t) (flatten (map open_leaves ts))
    ∙ with_trees (with_tree b t) ts

-- one tree more
pub tree_more : (b : Begun) (ts : List Tree) (i : ℕ) (t : Tree) (now after : Begun) → i < length ts → t ≡ get_or ts i t → now ≡ fold with_tree b (take i ts)
    → after ≡ with_leaves now (open_leaves t) → after ≡ fold with_tree b (take (i + 1) ts)
tree_more b ts i t now after h is n e =
    e ∙ ap (λ x. with_leaves x (open_leaves t)) n ∙ ap (λ x. with_leaves (fold with_tree b (take i ts)) (open_leaves x)) is ∙ sym (fold_more with_tree b ts i t h)

-- all trees of a production
pub all_trees : (b : Begun) (ts us : List Tree) (xs : List Open) (i : ℕ) (now : Begun) → us ≡ ts → xs ≡ flatten (map open_leaves ts) → length us ≤ i → now ≡ fold with_tree b (take i us)
    → now ≡ with_leaves b xs
all_trees b ts us xs i now same is h n =
    n ∙ ap (fold with_tree b) (take_all i us h) ∙ ap (fold with_tree b) same ∙ sym (with_trees b ts) ∙ ap (with_leaves b) (sym is)

pub ok_leaves : (r : Result (Unit {0}) Memory) (b after : Begun) (xs ys : List Open) → xs ≡ ys → OnOk r (after ≡ with_leaves b xs) → OnOk r (after ≡ with_leaves b ys)
ok_leaves r b after xs ys e h = subst (λ (zs : List Open). OnOk r (after ≡ with_leaves b zs)) e h

-- ---- the unknowns of steps

module _ (logic : Typecode) where
  pub step_more : (b : Begun) (ss : List BoundStep) (i : ℕ) (s : BoundStep) (now after : Begun) → i < length ss → s ≡ get_or ss i s → now ≡ with_steps logic b (take i ss)
      → after ≡ with_formula logic now s.tree → after ≡ with_steps logic b (take (i + 1) ss)
  step_more b ss i s now after h is n e =
      e ∙ ap (λ x. with_step logic x s) n ∙ ap (λ x. with_step logic (with_steps logic b (take i ss)) x) is ∙ sym (fold_more (with_step logic) b ss i s h)

  blanks_push : (b : Begun) (ss : List BoundStep) (s : BoundStep) → blank_nodes logic b (ss ++ s ∷ []) ≡ blank_nodes logic b ss ++ blank_node (with_steps logic b ss) s.tree ∷ []
  blanks_push b [] s = refl
  blanks_push b (t ∷ ss) s = ap (λ (os : List (Option ℕ)). blank_node b t.tree ∷ os) (blanks_push (with_step logic b t) ss s)

  pub blanks_more : (b : Begun) (ss : List BoundStep) (i : ℕ) (s : BoundStep) (now : Begun) (old new : List (Option ℕ)) (o : Option ℕ) → i < length ss → s ≡ get_or ss i s
      → now ≡ with_steps logic b (take i ss) → old ≡ blank_nodes logic b (take i ss)
      → o ≡ blank_node now s.tree → new ≡ old ++ o ∷ [] → new ≡ blank_nodes logic b (take (i + 1) ss)
  blanks_more b ss i s now old new o h is n e a put =
      let list : take (i + 1) ss ≡ take i ss ++ s ∷ [] = take_more ss i s h ∙ ap (λ (x : BoundStep). take i ss ++ x ∷ []) (sym is) in
      put ∙ ap (λ (os : List (Option ℕ)). os ++ o ∷ []) e ∙ ap (λ (x : Option ℕ). blank_nodes logic b (take i ss) ++ x ∷ []) (a ∙ ap (λ (x : Begun). blank_node x s.tree) n)
      ∙ sym (ap (blank_nodes logic b) list ∙ blanks_push b (take i ss) s)

  pub blanks_count : (b : Begun) (ss : List BoundStep) → length (blank_nodes logic b ss) ≡ length ss
  blanks_count b [] = refl
  blanks_count b (s ∷ ss) = let rest = blanks_count (with_step logic b s) ss in omega (arith, rest)

-- ---- formulas

module _ (rows : List Production) (works : List WorkNode) (logic : Typecode) where
  abbrev adders : List (Option ℕ) → List BoundStep → List Adder
  adders = formula_adders rows works logic

  abbrev adder : Option ℕ → BoundStep → Adder
  adder o s = formula_adder rows works logic o s.tree

  adders_more : (os : List (Option ℕ)) (ss : List BoundStep) (k : ℕ) (s : BoundStep) → k < length os → k < length ss
      → adders (take (k + 1) os) (take (k + 1) ss) ≡ adders (take k os) (take k ss) ++ adder (get_or os k None) (get_or ss k s) ∷ []
  adders_more [] ss k s h g = absurd (omega (arith, h))
  adders_more (p ∷ os) [] k s h g = absurd (omega (arith, g))
  adders_more (p ∷ os) (t ∷ ss) zero s h g = refl
  adders_more (p ∷ os) (t ∷ ss) (suc k) s h g =
      let next_is : suc k + 1 ≡ suc (k + 1) = omega arith in
      ap (λ (j : ℕ). adders (take j (p ∷ os)) (take j (t ∷ ss))) next_is ∙ ap (λ (fs : List Adder). adder p t ∷ fs) (adders_more os ss k s (omega (arith, h)) (omega (arith, g)))

  -- one formula more
  pub formula_more : (nodes0 : List Term) (mid new : Store) (os : List (Option ℕ)) (ss : List BoundStep) (k : ℕ) (s : BoundStep) (ids more : List Id) (id : Id) → k < length os → k < length ss
      → AreListed (run (adders (take k os) (take k ss)) nodes0) mid.nodes ids → IsRooted (adder (get_or os k None) (get_or ss k s) mid.nodes) new.nodes id → more ≡ ids ++ id ∷ []
      → AreListed (run (adders (take (k + 1) os) (take (k + 1) ss)) nodes0) new.nodes more
  formula_more nodes0 mid new os ss k s ids more id h g l r e =
      let fs = adders (take k os) (take k ss) in
      let f = adder (get_or os k None) (get_or ss k s) in
      let list : adders (take (k + 1) os) (take (k + 1) ss) ≡ fs ++ f ∷ [] = adders_more os ss k s h g in
      record {
        nodes_are = r.nodes_are ∙ ap (λ (ns : List Term). (f ns).nodes) l.nodes_are ∙ sym (run_nodes fs f nodes0) ∙ ap (λ (xs : List Adder). (run xs nodes0).nodes) (sym list);
        roots = e ∙ ap (λ (is' : List Id). is' ++ id ∷ []) l.roots ∙ ap (λ (j : Id). (run fs nodes0).roots ++ j ∷ []) (ap id_of (r.root ∙ ap (λ (ns : List Term). (f ns).root) l.nodes_are))
            ∙ sym (run_roots fs f nodes0) ∙ ap (λ (xs : List Adder). (run xs nodes0).roots) (sym list);
      }

  pub all_formulas : (nodes0 nodes : List Term) (os : List (Option ℕ)) (ss : List BoundStep) (k : ℕ) (ids : List Id) → length os ≤ k → length ss ≤ k
      → AreListed (run (adders (take k os) (take k ss)) nodes0) nodes ids → AreListed (run (adders os ss) nodes0) nodes ids
  all_formulas nodes0 nodes os ss k ids h g l =
      let list : adders (take k os) (take k ss) ≡ adders os ss = ap (λ (xs : List (Option ℕ)). adders xs (take k ss)) (take_all k os h) ∙ ap (adders os) (take_all k ss g) in
      subst (λ (fs : List Adder). AreListed (run fs nodes0) nodes ids) list l

-- ---- what was begun stands within the store

pub blanks_in_more : (n m : ℕ) (os : List (Option ℕ)) → n ≤ m → AllByRecursion (λ (o : Option ℕ). ForSome o (λ i. i < n)) os → AllByRecursion (λ (o : Option ℕ). ForSome o (λ i. i < m)) os
blanks_in_more n m [] h a = tt
blanks_in_more n m (o ∷ os) h a = (λ i e. omega (arith, h, a.0 i e), blanks_in_more n m os h a.1)

pub blank_at : (n : ℕ) (os : List (Option ℕ)) (k : ℕ) (o : Option ℕ) → o ≡ get_or os k o → k < length os → AllByRecursion (λ (o : Option ℕ). ForSome o (λ i. i < n)) os → ForSome o (λ i. i < n)
blank_at n os k o is h a = subst (λ (x : Option ℕ). ForSome x (λ i. i < n)) (sym is) (at os k h a)
  where
    at : (xs : List (Option ℕ)) (j : ℕ) → j < length xs → AllByRecursion (λ (o : Option ℕ). ForSome o (λ i. i < n)) xs → ForSome (get_or xs j o) (λ i. i < n)
    at [] j h a = absurd (omega (arith, h))
    at (x ∷ xs) zero h a = a.0
    at (x ∷ xs) (suc j) h a = at xs j (omega (arith, h)) a.1

record IsWithin (old new : Begun) : Type 0 where
  longer : length old.nodes ≤ length new.nodes
  works : AreWorksIn (length old.nodes) old.works → AreWorksIn (length new.nodes) new.works

within_more : (a b c : Begun) → IsWithin a b → IsWithin b c → IsWithin a c
within_more a b c h g = record { longer = omega (arith, h.longer, g.longer); works = λ w. g.works (h.works w) }

work_push : (n m : ℕ) (ws : List WorkNode) (w : WorkNode) → n ≤ m → w.node < m → AreWorksIn n ws → AreWorksIn m (ws ++ w ∷ [])
work_push n m [] w h g a = (g, tt)
work_push n m (x ∷ ws) w h g a = (omega (arith, a.0, h), work_push n m ws w h g a.1)

work_within : (b : Begun) (c : Typecode) (n : ℕ) (o : Option ℕ) → IsWithin b (with_work b c n o)
work_within b c n None =
    let long : length (b.nodes ++ Free c ∷ []) ≡ length b.nodes + 1 = length-append b.nodes (Free c ∷ []) in
    record {
      longer = omega (arith, long);
      works = work_push (length b.nodes) (length (b.nodes ++ Free c ∷ [])) b.works (record { code = c; number = n; node = length b.nodes }) (omega
          (arith, long)) (omega (arith, long));
    }
work_within b c n (Some i) = record { longer = omega arith; works = λ w. w }

leaf_within : (b : Begun) (x : Open) → IsWithin b (with_leaf b x)
leaf_within b (work c n) = work_within b c n (work_at b.works c n)
leaf_within b (fresh c n) = record { longer = omega arith; works = λ w. w }

leaves_within : (b : Begun) (xs : List Open) → IsWithin b (with_leaves b xs)
leaves_within b [] = record { longer = omega arith; works = λ w. w }
leaves_within b (x ∷ xs) = within_more b (with_leaf b x) (with_leaves (with_leaf b x) xs) (leaf_within b x) (leaves_within (with_leaf b x) xs)

module _ (logic : Typecode) where
  formula_within : (b : Begun) (t : Option Tree) → IsWithin b (with_formula logic b t)
  formula_within b None =
      let long : length (b.nodes ++ Free logic ∷ []) ≡ length b.nodes + 1 = length-append b.nodes (Free logic ∷ []) in
      record { longer = omega (arith, long); works = works_in_more (length b.nodes) (length (b.nodes ++ Free logic ∷ [])) b.works (omega (arith, long)) }
  formula_within b (Some t) = leaves_within b (open_leaves t)

  steps_within : (b : Begun) (ss : List BoundStep) → IsWithin b (with_steps logic b ss)
  steps_within b [] = record { longer = omega arith; works = λ w. w }
  steps_within b (s ∷ ss) = within_more b (with_step logic b s) (with_steps logic (with_step logic b s) ss) (formula_within b s.tree) (steps_within (with_step logic b s) ss)

  abbrev IsBlankIn : ℕ → Option ℕ → Type 0
  IsBlankIn n o = ForSome o (λ i. i < n)

  blank_in : (b : Begun) (t : Option Tree) (n : ℕ) → length (with_formula logic b t).nodes ≤ n → IsBlankIn n (blank_node b t)
  blank_in b None n h i e =
      let same : length b.nodes ≡ i = cc in
      let long : length (b.nodes ++ Free logic ∷ []) ≡ length b.nodes + 1 = length-append b.nodes (Free logic ∷ []) in
      omega (arith, same, long, h)
  blank_in b (Some t) n h i e = let impossible : ◌≡◌ {A = Option ℕ} None (Some i) = e in absurd (cc)

  blanks_in : (b : Begun) (ss : List BoundStep) (n : ℕ) → length (with_steps logic b ss).nodes ≤ n → AllByRecursion (IsBlankIn n) (blank_nodes logic b ss)
  blanks_in b [] n h = tt
  blanks_in b (s ∷ ss) n h = (blank_in b s.tree n (omega (arith, h, (steps_within (with_step logic b s) ss).longer)), blanks_in (with_step logic b s) ss n h)

  -- of a store with the unknowns of a worksheet
  module _ (old new : Store) (works works' : List WorkNode) (ss : List BoundStep) (empty : old.nodes ≡ []) (none : works ≡ []) (is : begun new works' ≡ with_steps logic (begun old works) ss) where
    start : begun old works ≡ nothing_begun
    start = cc

    pub unknowns_are : begun new works' ≡ unknowns_of logic ss
    unknowns_are = is ∙ ap (λ (b : Begun). with_steps logic b ss) start

    pub works_are_in : AreWorksIn (length new.nodes) works'
    works_are_in = subst (λ (b : Begun). AreWorksIn (length b.nodes) b.works) (sym unknowns_are) ((steps_within nothing_begun ss).works tt)

    pub blanks_are : (os given : List (Option ℕ)) → os ≡ blank_nodes logic (begun old works) ss → given ≡ os → given ≡ blank_nodes logic nothing_begun ss
    blanks_are os given e g = g ∙ e ∙ ap (λ (b : Begun). blank_nodes logic b ss) start

    pub blanks_are_in : (given : List (Option ℕ)) → given ≡ blank_nodes logic nothing_begun ss → AllByRecursion (IsBlankIn (length new.nodes)) given
    blanks_are_in given e = subst (AllByRecursion (IsBlankIn (length new.nodes))) (sym e) (blanks_in nothing_begun ss (length new.nodes) (let same : length new.nodes ≡ length
        (unknowns_of logic ss).nodes = ap (λ (b : Begun). length b.nodes) unknowns_are in omega (arith, same)))

    pub blanks_are_many : (given : List (Option ℕ)) → given ≡ blank_nodes logic nothing_begun ss → length given ≡ length ss
    blanks_are_many given e = ap length e ∙ blanks_count logic nothing_begun ss

    pub formulas_are : (rows : List Production) (given : List (Option ℕ)) (after : List Term) (listed : List WorkNode) (ids : List Id) → given ≡ blank_nodes logic nothing_begun ss → listed ≡ works'
        → AreListed (run (formula_adders rows works' logic given ss) new.nodes) after ids → AreFormulas rows logic ss after listed ids
    formulas_are rows given after listed ids e w l =
        let same : run (formula_adders rows works' logic given ss) new.nodes ≡ formulas_of rows logic ss =
        ap (λ (os : List (Option ℕ)). run (formula_adders rows works' logic os ss) new.nodes) e
        ∙ ap (λ (b : Begun). run (formula_adders rows b.works logic (blank_nodes logic nothing_begun ss) ss) b.nodes) unknowns_are in
        record {
          nodes_are = l.nodes_are ∙ ap (λ (x : Listed). x.nodes) same;
          works_are = w ∙ ap (λ (b : Begun). b.works) unknowns_are;
          formulas_are = l.roots ∙ ap (λ (x : Listed). x.roots) same;
        }

-- the nodes of a list of formulas
pub listed_count : (rows : List Production) (works : List WorkNode) (logic : Typecode) (os : List (Option ℕ)) (ss : List BoundStep) (nodes0 nodes : List Term) (ids : List Id)
    → length os ≡ length ss → AreListed (run (formula_adders rows works logic os ss) nodes0) nodes ids → length ids ≡ length ss
listed_count rows works logic os ss nodes0 nodes ids e h = ap length h.roots ∙ count os ss nodes0 e
  where
    count : (os : List (Option ℕ)) (ss : List BoundStep) (nodes : List Term) → length os ≡ length ss → length (run (formula_adders rows works logic os ss) nodes).roots ≡ length ss
    count [] [] nodes e = refl
    count [] (s ∷ ss) nodes e = absurd (omega (arith, e))
    count (o ∷ os) [] nodes e = absurd (omega (arith, e))
    count (o ∷ os) (s ∷ ss) nodes e = let rest = count os ss (formula_adder rows works logic o s.tree nodes).nodes (omega (arith, e)) in omega (arith, rest)
