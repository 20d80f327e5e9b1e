-- How the unknowns of a worksheet stand in a store of terms.
use Rattle.std.specs.Prelude.{◌≡◌, ℕ, ◌<◌, List, length, map, Contains, Option, Some, None, [], ◌∷◌}
use Rattle.std.specs.List.{AllByRecursion, AllZip}
use Rattle.mm_base.specs.declared.symbols.Label.{Label}
use Rattle.mm_base.specs.declared.symbols.Typecode.{Typecode}
use Rattle.mm_base.specs.declared.tree.Tree.{Tree}
use Rattle.mm_base.specs.declared.tree.Tree.TheOpen.{Tree-F}
use Rattle.mm_base.specs.declared.tree.Tree.TheFolds.{every-Tree}
use Rattle.mm_model.specs.declared.rows.Production.{Production}
use Rattle.mm_base.specs.Trees.{code_of}
use Rattle.mm_model.specs.Texts.{row_of}
use Rattle.mm_model.specs.Typed.{IsTyped, HasNoFresh}
use Rattle.mm_model.specs.Productions.{TypedVariable}
use Rattle.mm_model.specs.Book.{Database, Assertion, logic_code}
use Rattle.sheet_text.specs.declared.sheet.Given.{Given}
use Rattle.sheet_text.specs.declared.sheet.Given.TheVariants as given
use Rattle.solve_model.specs.declared.bound.BoundStep.{BoundStep}
use Rattle.solve_model.specs.declared.bound.Bound.{Bound}
use Rattle.solve_model.specs.Solutions.{Unknown, named, Valuation, IsUnknown, Asked, Solves, unknown_code, formula, instance}
use Rattle.written_model.specs.Existence.{IsPlaceIn}
use Rattle.term_model.specs.declared.shape.Id.{Id}
use Rattle.term_model.specs.Terms.{Term, Free, Node, term_at, term_code}
use Rattle.term_model.specs.Links.{Link}
use Rattle.term_model.specs.Store.{tree_at, Fits, Solution, IsStore, IsSolved}
use Rattle.chain_laws.specs.declared.leaves.WorkNode.{WorkNode}

-- the node of each unknown, the unknown of each free node, and the nodes of the work variables
pub record Layout : Type 0 where
  pub node_of : Unknown → ℕ
  pub unknown_at : ℕ → Unknown
  pub works : List WorkNode

-- an unknown has a free node of its own, of its typecode
pub record HasNode (db : Database) (nodes : List Term) (lay : Layout) (u : Unknown) : Type 0 where
  pub within : lay.node_of u < length nodes
  pub free : term_at nodes (lay.node_of u) ≡ Free (unknown_code db u)
  pub own : lay.unknown_at (lay.node_of u) ≡ u

-- a free node is that of an unknown
pub record HasUnknown (On : Unknown → Type 0) (lay : Layout) (i : ℕ) : Type 0 where
  pub is_unknown : On (lay.unknown_at i)
  pub node : lay.node_of (lay.unknown_at i) ≡ i

-- a production is one below the place, with children of the typecodes of its slots
pub record IsTypedTerm (rows : List Production) (before : ℕ) (nodes : List Term) (l : Label) (c : Typecode) (children : List Id) : Type 0 where
  pub row : Production
  pub is_row : row_of rows l ≡ Some row
  pub before_place : row.at < before
  pub gives : row.gives ≡ c
  pub slots : map (λ (id : Id). term_code (term_at nodes id.0)) children ≡ row.slots

-- a work variable of these unknowns, with its node
pub record IsWorkNode (On : Unknown → Type 0) (lay : Layout) (w : WorkNode) : Type 0 where
  pub is_unknown : On (named w.code w.number)
  pub node : lay.node_of (named w.code w.number) ≡ w.node

abbrev pub work_node : Layout → Typecode → ℕ → WorkNode
work_node lay c n = record { code = c; number = n; node = lay.node_of (named c n) }

-- the free nodes of the store are those of the unknowns, one each, and its productions are typed
pub record IsLaidOut (db : Database) (place : ℕ) (On : Unknown → Type 0) (nodes : List Term) (lay : Layout) : Type 0 where
  pub unknowns : (u : Unknown) → On u → HasNode db nodes lay u
  pub free : (i : ℕ) (c : Typecode) → i < length nodes → term_at nodes i ≡ Free c → HasUnknown On lay i
  pub typed : (i : ℕ) (l : Label) (c : Typecode) (k : ℕ) (children : List Id) → i < length nodes → term_at nodes i ≡ Node l c k children → IsTypedTerm db.rows place nodes l c children
  pub works : (w : WorkNode) → Contains lay.works w → IsWorkNode On lay w
  pub all_works : (c : Typecode) (n : ℕ) → On (named c n) → Contains lay.works (work_node lay c n)

-- what the trees of a store give to the unknowns
abbrev pub valuation_of : Layout → List Tree → Valuation
valuation_of lay trees u = tree_at trees (lay.node_of u)

-- ---- what is asked

-- a leaf of an assertion's tree is one of its variables
abbrev pub LayerIsOver : List TypedVariable → Tree-F Tree → Type 0
LayerIsOver vars (Tree-F.Var s c) = Contains vars (record { sym = s; code = c })
LayerIsOver vars (Tree-F.Work c n) = ⊥
LayerIsOver vars (Tree-F.Fresh c n) = ⊥
LayerIsOver vars (Tree-F.Node l c ts) = Unit {0}

-- each leaf of the tree is one of these variables
abbrev pub IsOver : List TypedVariable → Tree → Type 0
IsOver vars t = every-Tree (LayerIsOver vars) t

-- a candidate asks of steps of the worksheet, and its assertion's trees have its variables alone
pub record IsSoundAsked (bound : Bound) (x : Asked) : Type 0 where
  pub step : x.step < length bound.steps
  pub places : AllByRecursion (IsPlaceIn (length bound.steps)) x.places
  pub tree : IsOver x.assertion.vars x.assertion.tree
  pub hyps : AllByRecursion (IsOver x.assertion.vars) x.assertion.hyps

-- ---- the store of the accepted candidates

-- the solutions of the store are those of its terms that solve what is accepted
pub record IsExact (bound : Bound) (nodes : List Term) (links : List Link) (lay : Layout) (accepted : List Asked) : Type 0 where
  pub solves : (trees : List Tree) → Solution nodes links trees → AllByRecursion (Solves bound (valuation_of lay trees)) accepted
  pub holds : (trees : List Tree) → Solution nodes [] trees → AllByRecursion (Solves bound (valuation_of lay trees)) accepted → Solution nodes links trees

-- a store that is laid out for the unknowns of a worksheet and of some candidates, and is solved under the accepted ones of them
pub record IsChained (db : Database) (bound : Bound) (asked accepted : List Asked) (nodes : List Term) (links : List Link) (lay : Layout) : Type 0 where
  pub store : IsStore nodes links
  pub solved : IsSolved nodes links
  pub laid_out : IsLaidOut db bound.place (IsUnknown bound asked) nodes lay
  pub exact : IsExact bound nodes links lay accepted
  pub among : (x : Asked) → Contains accepted x → Contains asked x
  pub sound : AllByRecursion (IsSoundAsked bound) accepted

-- ---- nodes of formulas, and of a candidate's trees

-- each term has its tree, made of those of its children
abbrev pub Fit : List Term → List Tree → Type 0
Fit nodes trees = (i : ℕ) → i < length nodes → Fits trees (tree_at trees i) (term_at nodes i)

-- in all trees that fit, the node has the formula of the step of a number, valued
pub record IsFormulaNode (bound : Bound) (nodes : List Term) (lay : Layout) (i j : ℕ) : Type 0 where
  pub within : j < length nodes
  pub is_formula : (trees : List Tree) → Fit nodes trees → tree_at trees j ≡ formula bound (valuation_of lay trees) i

-- in all trees that fit, the node has a candidate's tree, valued
pub record IsInstanceNode (nodes : List Term) (lay : Layout) (i : ℕ) (t : Tree) (j : ℕ) : Type 0 where
  pub within : j < length nodes
  pub is_instance : (trees : List Tree) → Fit nodes trees → tree_at trees j ≡ instance (valuation_of lay trees) i t

-- the node of each step's formula
abbrev pub AreFormulaNodes : Bound → List Term → Layout → (ℕ → ℕ) → Type 0
AreFormulaNodes bound nodes lay formulas = (i : ℕ) → i < length bound.steps → IsFormulaNode bound nodes lay i (formulas i)

-- the nodes of a candidate's conclusion and `$e`
pub record AreCandidateNodes (nodes : List Term) (lay : Layout) (i : ℕ) (a : Assertion) (root : ℕ) (roots : List ℕ) : Type 0 where
  pub conclusion : IsInstanceNode nodes lay i a.tree root
  pub hyps : AllZip (IsInstanceNode nodes lay i) a.hyps roots

-- two nodes that are to have one tree
abbrev pub NodePair : Type 0
NodePair = ℕ × ℕ

-- the nodes that the places of a candidate join: of each place that names a step, the `$e` of its number and the step's formula
abbrev pub place_pairs : (ℕ → ℕ) → List Given → List ℕ → List NodePair
place_pairs formulas [] hyps = []
place_pairs formulas (g ∷ gs) [] = []
place_pairs formulas (given.Gap ∷ gs) (h ∷ hs) = place_pairs formulas gs hs
place_pairs formulas (given.Step k ∷ gs) (h ∷ hs) = (h, formulas k) ∷ place_pairs formulas gs hs

-- and with those its conclusion and its step's formula
abbrev pub candidate_pairs : (ℕ → ℕ) → ℕ → List Given → ℕ → List ℕ → List NodePair
candidate_pairs formulas i places conclusion hyps = (conclusion, formulas i) ∷ place_pairs formulas places hyps

-- there is a `$e` for each place
abbrev pub HasRoom : List Given → List Tree → Type 0
HasRoom [] es = Unit {0}
HasRoom (g ∷ gs) [] = ⊥
HasRoom (g ∷ gs) (e ∷ es) = HasRoom gs es

-- the two nodes of each pair have one tree
abbrev pub AreJoined : List Tree → List NodePair → Type 0
AreJoined trees pairs = AllByRecursion (λ (p : NodePair). tree_at trees p.0 ≡ tree_at trees p.1) pairs

-- the solutions under the new bindings are those under the old ones that join these pairs
pub record Joins (nodes : List Term) (old new : List Link) (pairs : List NodePair) : Type 0 where
  pub there : (trees : List Tree) → Solution nodes new trees → Solution nodes old trees × AreJoined trees pairs
  pub back : (trees : List Tree) → Solution nodes old trees → AreJoined trees pairs → Solution nodes new trees

-- no solution joins these pairs
abbrev pub CannotJoin : List Term → List Link → List NodePair → Type 0
CannotJoin nodes links pairs = (trees : List Tree) → Solution nodes links trees → AreJoined trees pairs → ⊥

-- ---- what a worksheet and its candidates bring

abbrev pub IsReadyFormula : Database → ℕ → Option Tree → Type 0
IsReadyFormula db place None = Unit {0}
IsReadyFormula db place (Some t) = (code_of t ≡ logic_code db) × IsTyped db.rows place t × HasNoFresh t

-- the formulas are typed over the productions before the place, of the logic typecode, and without a fresh leaf
abbrev pub IsReadyBound : Database → Bound → Type 0
IsReadyBound db bound = AllByRecursion (λ (s : BoundStep). IsReadyFormula db bound.place s.tree) bound.steps

-- a candidate's trees are typed over the productions before the place
pub record IsReadyAsked (db : Database) (bound : Bound) (x : Asked) : Type 0 where
  pub sound : IsSoundAsked bound x
  pub tree : IsTyped db.rows bound.place x.assertion.tree
  pub hyps : AllByRecursion (IsTyped db.rows bound.place) x.assertion.hyps
