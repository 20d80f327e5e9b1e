-- The nodes of a worksheet's formulas: free nodes for its unknowns first, and behind them the formulas' trees. This is part of the proof, and not of the claim.
use Rattle.std.specs.Prelude.{◌≡◌, ℕ, ◌≤◌, List, [], ◌∷◌, ◌++◌, fold, length, Option, Some, None}
use Rattle.mm_base.specs.declared.symbols.Typecode.{Typecode}
use Rattle.mm_base.specs.declared.tree.Tree.{Tree}
use Rattle.mm_model.specs.declared.rows.Production.{Production}
use Rattle.solve_model.specs.declared.bound.BoundStep.{BoundStep}
use Rattle.solve_model.specs.Trees.{Open, work, fresh, open_leaves}
use Rattle.term_model.specs.Terms.{Term, Free}
use Rattle.term_model.specs.Store.{Store}
use Rattle.chain_laws.specs.declared.leaves.WorkNode.{WorkNode}
use Rattle.term_model.specs.declared.shape.Id.{Id}
use Rattle.mm_model.specs.Book.{Database}
use Rattle.solve_model.specs.declared.bound.Bound.{Bound}
use Rattle.chain_laws.specs.Layout.{Layout, IsChained, AreFormulaNodes}
use Rattle.step_chain.specs.Ordered.{formula_at}
use Rattle.step_chain.specs.Sizes.{formulas_size}
use Rattle.chain_laws.specs.Adding.{Adder, Listed, added, run, there_or, work_at}

-- the free nodes so far, and those of them that are of work variables
pub record Begun : Type 0 where
  pub nodes : List Term
  pub works : List WorkNode

abbrev pub begun : Store → List WorkNode → Begun
begun s works = record { nodes = s.nodes; works = works }

-- a work variable that has no node gets one
abbrev pub with_work : Begun → Typecode → ℕ → Option ℕ → Begun
with_work b c n None = record { nodes = b.nodes ++ Free c ∷ []; works = b.works ++ record { code = c; number = n; node = length b.nodes } ∷ [] }
with_work b c n (Some i) = b

abbrev pub with_leaf : Begun → Open → Begun
with_leaf b (work c n) = with_work b c n (work_at b.works c n)
with_leaf b (fresh c n) = b

abbrev pub with_leaves : Begun → List Open → Begun
with_leaves b xs = fold with_leaf b xs

-- the unknowns of a formula; of a blank one, itself
abbrev pub with_formula : Typecode → Begun → Option Tree → Begun
with_formula logic b None = record { nodes = b.nodes ++ Free logic ∷ []; works = b.works }
with_formula logic b (Some t) = with_leaves b (open_leaves t)

-- the node of a blank formula
abbrev pub blank_node : Begun → Option Tree → Option ℕ
blank_node b None = Some (length b.nodes)
blank_node b (Some t) = None

abbrev pub with_step : Typecode → Begun → BoundStep → Begun
with_step logic b s = with_formula logic b s.tree

abbrev pub with_steps : Typecode → Begun → List BoundStep → Begun
with_steps logic b ss = fold (with_step logic) b ss

abbrev pub blank_nodes : Typecode → Begun → List BoundStep → List (Option ℕ)
blank_nodes logic b [] = []
blank_nodes logic b (s ∷ ss) = blank_node b s.tree ∷ blank_nodes logic (with_step logic b s) ss

-- a formula's tree, or the node that a blank one has
abbrev pub formula_adder : List Production → List WorkNode → Typecode → Option ℕ → Option Tree → Adder
formula_adder rows works logic there None = there_or there (Free logic)
formula_adder rows works logic there (Some t) = added rows works [] t

abbrev pub formula_adders : List Production → List WorkNode → Typecode → List (Option ℕ) → List BoundStep → List Adder
formula_adders rows works logic [] ss = []
formula_adders rows works logic (o ∷ os) [] = []
formula_adders rows works logic (o ∷ os) (s ∷ ss) = formula_adder rows works logic o s.tree ∷ formula_adders rows works logic os ss

abbrev pub nothing_begun : Begun
nothing_begun = record { nodes = []; works = [] }

-- the unknowns of a worksheet
abbrev pub unknowns_of : Typecode → List BoundStep → Begun
unknowns_of logic ss = with_steps logic nothing_begun ss

-- and its formulas
abbrev pub formulas_of : List Production → Typecode → List BoundStep → Listed
formulas_of rows logic ss = run (formula_adders rows (unknowns_of logic ss).works logic (blank_nodes logic nothing_begun ss) ss) (unknowns_of logic ss).nodes

-- these are the nodes of a worksheet's unknowns and formulas
pub record AreFormulas (rows : List Production) (logic : Typecode) (ss : List BoundStep) (nodes : List Term) (works : List WorkNode) (formulas : List Id) : Type 0 where
  pub nodes_are : nodes ≡ (formulas_of rows logic ss).nodes
  pub works_are : works ≡ (unknowns_of logic ss).works
  pub formulas_are : formulas ≡ (formulas_of rows logic ss).roots

-- the node of a formula
abbrev pub formula_node : List Id → ℕ → ℕ
formula_node formulas i = (formula_at formulas i).0

-- a store of a worksheet of which nothing is accepted yet, with the nodes of its work variables and of its formulas
pub record HasFormulas (db : Database) (bound : Bound) (nodes : List Term) (works : List WorkNode) (formulas : List Id) : Type 0 where
  pub lay : Layout
  pub chained : IsChained db bound [] [] nodes [] lay
  pub works_are : lay.works ≡ works
  pub count : length formulas ≡ length bound.steps
  pub formulas_are : AreFormulaNodes bound nodes lay (formula_node formulas)
  pub few : length nodes ≤ formulas_size bound.steps
