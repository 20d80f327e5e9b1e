-- Each production of the store has the number of constants of its label.
use Rattle.std.specs.Prelude.{◌≡◌, ℕ, ◌<◌, List, [], ◌∷◌, ◌++◌, length, map, Option, Some, None, Result, Ok, Err, IfOk, refl}
use Rattle.std.proofs.Common.{sym, subst, arith, inl, inr}
use Rattle.std.proofs.lemmas.Bool.{cases_eq}
use Rattle.std.proofs.lemmas.List.{append_assoc, append-nil, get_or_append_left, get_or_push, length_push}
use Rattle.mm_base.specs.declared.errors.Memory.{Memory}
use Rattle.mm_base.specs.declared.symbols.Typecode.{Typecode}
use Rattle.mm_base.specs.declared.tree.Tree.{Tree}
use Rattle.mm_base.specs.Trees.{Each}
use Rattle.mm_base.proofs.TreeInduction.{tree_ind}
use Rattle.mm_model.specs.declared.frames.Hyp.{Hyp}
use Rattle.mm_model.specs.declared.rows.Production.{Production}
use Rattle.mm_model.specs.Productions.{TypedVariable, typed_variables}
use Rattle.solve_model.specs.declared.bound.BoundStep.{BoundStep}
use Rattle.solve_model.specs.Trees.{Open, work, fresh, open_leaves}
use Rattle.term_model.specs.declared.shape.Id.{Id}
use Rattle.term_model.specs.Terms.{Term, Var, Free, Node}
use Rattle.term_model.specs.Sizes.{HasConstants, HaveConstants}
use Rattle.chain_laws.specs.declared.leaves.WorkNode.{WorkNode}
use Rattle.chain_laws.specs.declared.leaves.VariableNode.{VariableNode}
use Rattle.chain_laws.specs.Adding.{Rooted, Adder, run, there_or, work_at, variable_at, constants_in, added, free_of}
use Rattle.step_chain.specs.declared.formulas.FormulaNodes.{FormulaNodes}
use Rattle.step_chain.specs.Candidate.{table_of, copied, root_of, roots_of}
use Rattle.step_chain.specs.Formulas.{Begun, nothing_begun, with_work, with_leaf, with_leaves, with_formula, with_step, with_steps, unknowns_of}
use Rattle.step_chain.specs.Formulas.{blank_nodes, formula_adder, formula_adders, AreFormulas}
use Rattle.step_chain.proofs.AddingLaws.{added-Var, added-Work, added-Fresh, added-Node}

module _ (rows : List Production) where
  abbrev Have : List Term → Type 0
  Have nodes = HaveConstants (constants_in rows) nodes

  none_have : Have []
  none_have i h = absurd (omega (arith, h))

  push_have : (nodes : List Term) (e : Term) → Have nodes → HasConstants (constants_in rows) e → Have (nodes ++ e ∷ [])
  push_have nodes e h g i below = elim (cases_eq i (length nodes)) [
    | inl at ↦ subst (HasConstants (constants_in rows)) (sym (get_or_push nodes e _ i (sym at))) g
    | inr past ↦ let old : i < length nodes = omega (arith, below, past, length_push nodes e) in subst (HasConstants (constants_in rows)) (sym (get_or_append_left nodes (e ∷ []) _ i old)) (h i old)
  ]

  free_have : (more : List TypedVariable) (nodes : List Term) → Have nodes → Have (nodes ++ map free_of more)
  free_have [] nodes h = subst Have (sym (append-nil nodes)) h
  free_have (v ∷ more) nodes h = subst Have (append_assoc nodes (Free v.code ∷ []) (map free_of more)) (free_have more (nodes ++ Free v.code ∷ []) (push_have nodes (Free v.code) h tt))

  there_have : (o : Option ℕ) (e : Term) (nodes : List Term) → HasConstants (constants_in rows) e → Have nodes → Have (there_or o e nodes).nodes
  there_have None e nodes g h = push_have nodes e h g
  there_have (Some i) e nodes g h = h

  module _ (works : List WorkNode) (vars : List VariableNode) where
    abbrev add : Tree → Adder
    add = added rows works vars

    abbrev Keeps : Tree → Type 0
    Keeps t = (nodes : List Term) → Have nodes → Have (add t nodes).nodes

    run_have : (ts : List Tree) → Each Keeps ts → (nodes : List Term) → Have nodes → Have (run (map add ts) nodes).nodes
    run_have [] k nodes h = h
    run_have (t ∷ ts) k nodes h = run_have ts k.1 (add t nodes).nodes (k.0 nodes h)

    moved : (nodes : List Term) (r q : Rooted) → r ≡ q → Have q.nodes → Have r.nodes
    moved nodes r q e h = subst (λ (x : Rooted). Have x.nodes) (sym e) h

    pub added_have : (t : Tree) → Keeps t
    added_have = tree_ind Keeps
        (λ s c nodes h. moved nodes _ _ (added-Var rows works vars s c nodes) (there_have (variable_at vars s c) (Var s c) nodes tt h))
        (λ c n nodes h. moved nodes _ _ (added-Work rows works vars c n nodes) (there_have (work_at works c n) (Free c) nodes tt h))
        (λ c n nodes h. moved nodes _ _ (added-Fresh rows works vars c n nodes) (push_have nodes (Free c) h tt))
        (λ l c ts k nodes h.
        let kids = run (map add ts) nodes in
        moved nodes _ _ (added-Node rows works vars l c ts nodes) (push_have kids.nodes (Node l c (constants_in rows l) kids.roots) (run_have ts k nodes h) refl))

    pub all_have : (ts : List Tree) (nodes : List Term) → Have nodes → Have (run (map add ts) nodes).nodes
    all_have ts nodes h = run_have ts (each ts) nodes h
      where
        each : (ts : List Tree) → Each Keeps ts
        each [] = tt
        each (t ∷ ts) = (added_have t, each ts)

  -- a candidate's nodes
  pub candidate_have : (nodes : List Term) (hyps : List Hyp) (t : Tree) (ts : List Tree) → Have nodes → Have (roots_of rows nodes hyps t ts).nodes
  candidate_have nodes hyps t ts h =
      all_have [] (table_of nodes hyps) ts (root_of rows nodes hyps t).nodes (added_have [] (table_of nodes hyps) t (copied nodes hyps) (free_have (typed_variables hyps) nodes h))

  -- ---- formulas

  work_have : (b : Begun) (c : Typecode) (n : ℕ) (o : Option ℕ) → Have b.nodes → Have (with_work b c n o).nodes
  work_have b c n None h = push_have b.nodes (Free c) h tt
  work_have b c n (Some i) h = h

  leaves_have : (xs : List Open) (b : Begun) → Have b.nodes → Have (with_leaves b xs).nodes
  leaves_have [] b h = h
  leaves_have (work c n ∷ xs) b h = leaves_have xs (with_leaf b (work c n)) (work_have b c n (work_at b.works c n) h)
  leaves_have (fresh c n ∷ xs) b h = leaves_have xs b h

  module _ (logic : Typecode) where
    formula_have : (t : Option Tree) (b : Begun) → Have b.nodes → Have (with_formula logic b t).nodes
    formula_have None b h = push_have b.nodes (Free logic) h tt
    formula_have (Some t) b h = leaves_have (open_leaves t) b h

    steps_have : (ss : List BoundStep) (b : Begun) → Have b.nodes → Have (with_steps logic b ss).nodes
    steps_have [] b h = h
    steps_have (s ∷ ss) b h = steps_have ss (with_step logic b s) (formula_have s.tree b h)

    adder_have : (works : List WorkNode) (o : Option ℕ) (t : Option Tree) (nodes : List Term) → Have nodes → Have (formula_adder rows works logic o t nodes).nodes
    adder_have works o None nodes h = there_have o (Free logic) nodes tt h
    adder_have works o (Some t) nodes h = added_have works [] t nodes h

    adders_have : (works : List WorkNode) (os : List (Option ℕ)) (ss : List BoundStep) (nodes : List Term) → Have nodes → Have (run (formula_adders rows works logic os ss) nodes).nodes
    adders_have works [] ss nodes h = h
    adders_have works (o ∷ os) [] nodes h = h
    adders_have works (o ∷ os) (s ∷ ss) nodes h = adders_have works os ss (formula_adder rows works logic o s.tree nodes).nodes (adder_have works o s.tree nodes h)

    pub formulas_have : (ss : List BoundStep) (nodes : List Term) (works : List WorkNode) (formulas : List Id) → AreFormulas rows logic ss nodes works formulas → Have nodes
    formulas_have ss nodes works formulas h =
        subst Have (sym h.nodes_are) (adders_have (unknowns_of logic ss).works (blank_nodes logic nothing_begun ss) ss (unknowns_of logic ss).nodes (steps_have ss nothing_begun none_have))

-- of a store that was begun
pub begun_have : (rows rows' : List Production) (logic : Typecode) (ss : List BoundStep) (r : Result FormulaNodes Memory) (nodes : List Term) → rows' ≡ rows
    → IfOk r (λ f. AreFormulas rows' logic ss nodes f.works.items f.formulas.items) → IfOk r (λ f. HaveConstants (constants_in rows) nodes)
begun_have rows rows' logic ss (Err e) nodes same h = tt
begun_have rows rows' logic ss (Ok f) nodes same h = subst (λ (xs : List Production). HaveConstants (constants_in xs) nodes) same (formulas_have rows' logic ss nodes f.works.items f.formulas.items h)
