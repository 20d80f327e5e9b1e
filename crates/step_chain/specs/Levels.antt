-- What the store has after some steps were pushed.
use Rattle.std.specs.Prelude.{◌≡◌, ℕ, ◌<◌, ◌≤◌, List, length, map, take, Contains, slice_get, Some}
use Rattle.std.specs.List.{AllByRecursion, AllZip}
use Rattle.mm_base.specs.declared.kinds.Kinds.{Kinds}
use Rattle.mm_base.specs.declared.symbols.Typecode.{Typecode}
use Rattle.mm_model.specs.Productions.{TypedVariable}
use Rattle.mm_model.specs.Book.{Database, Assertion, logic_code}
use Rattle.sheet_text.specs.declared.sheet.Sheet.{Sheet}
use Rattle.mm_database.specs.Books.{database_of}
use Rattle.mm_database.specs.Opened.{Opened, IsOpened}
use Rattle.solve_model.specs.declared.bound.BoundStep.{BoundStep}
use Rattle.solve_model.specs.declared.bound.Bound.{Bound}
use Rattle.solve_model.specs.Bound.{Binds, standing}
use Rattle.solve_model.specs.Solutions.{copy, Asked}
use Rattle.solve_model.specs.Verdicts.{Judgement, accepted_in, IsJudgement}
use Rattle.term_model.specs.declared.shape.Id.{Id}
use Rattle.term_model.specs.Terms.{Term}
use Rattle.term_model.specs.Links.{Link}
use Rattle.term_model.specs.Store.{IsStore, IsSolved}
use Rattle.chain_laws.specs.declared.leaves.WorkNode.{WorkNode}
use Rattle.chain_laws.specs.declared.leaves.VariableNode.{VariableNode}
use Rattle.term_model.specs.Sizes.{HaveConstants}
use Rattle.chain_laws.specs.Adding.{variable_at, constants_in}
use Rattle.chain_laws.specs.Layout.{Layout, IsChained, AreFormulaNodes, IsInstanceNode}
use Rattle.step_chain.specs.declared.judged.Accepted.{Accepted}
use Rattle.step_chain.specs.declared.judged.Judged.{Judged}
use Rattle.step_chain.specs.declared.judged.Judged.TheVariants.{Stands, Fits}
use Rattle.step_chain.specs.declared.judged.Pushed.{Pushed}
use Rattle.step_chain.specs.Standings.{usable_in}
use Rattle.step_chain.specs.Ordered.{formula_at}
use Rattle.step_chain.specs.Grown.{AreIdsIn, AreVariablesIn, AreWorksIn}
use Rattle.step_chain.specs.Sizes.{size_of_front}
use Rattle.step_chain.specs.Steps.{judgements_from}

-- the nodes that are kept of an accepted step are those of its `$e` and of its copies of variables
pub record AreKeptNodes (nodes : List Term) (lay : Layout) (i : ℕ) (x : Accepted) (a : Assertion) : Type 0 where
  pub hyps : AllZip (IsInstanceNode nodes lay i) a.hyps (map (λ (id : Id). id.0) x.hyps)
  pub copies : (v : TypedVariable) → Contains a.vars v → variable_at x.variables v.sym v.code ≡ Some (lay.node_of (copy i v.sym v.code))
  pub found : (w : VariableNode) → Contains x.variables w → variable_at x.variables w.sym w.code ≡ Some w.node
  pub order : map (λ (w : VariableNode). record { sym = w.sym; code = w.code }) x.variables ≡ a.vars

-- an accepted step has its assertion, and its nodes are kept
pub record IsKeptStep (d : Opened) (nodes : List Term) (lay : Layout) (i : ℕ) (x : Accepted) : Type 0 where
  pub assertion : Assertion
  pub usable : usable_in d x.label ≡ Some assertion
  pub nodes_are : AreKeptNodes nodes lay i x assertion

-- each of the judgements is one by those accepted before it
abbrev pub AreEachJudged : Database → Bound → List Judgement → Type 0
AreEachJudged db bound js = (i : ℕ) (s : BoundStep) (o : Judgement) → slice_get bound.steps i ≡ Some s → slice_get js i ≡ Some o
    → IsJudgement db bound (accepted_in (take i js)) i s (standing db bound.place s) o

-- each accepted step has a number below this one
abbrev pub AreBefore : ℕ → List Asked → Type 0
AreBefore n accepted = AllByRecursion (λ (x : Asked). x.step < n) accepted

-- the steps are judged, and the store is that of those that are accepted
pub record IsLevel (db : Database) (d : Opened) (bound : Bound) (works : List WorkNode) (formulas : List Id) (steps : List Pushed) (nodes : List Term) (links : List Link) : Type 0 where
  pub layout : Layout
  pub chained : IsChained db bound (accepted_in (judgements_from d bound 0 steps)) (accepted_in (judgements_from d bound 0 steps)) nodes links layout
  pub formula_nodes : AreFormulaNodes bound nodes layout (λ k. (formula_at formulas k).0)
  pub works_are : layout.works ≡ works
  pub before : AreBefore (length steps) (accepted_in (judgements_from d bound 0 steps))
  pub each : AreEachJudged db bound (judgements_from d bound 0 steps)
  pub kept : (i : ℕ) (p : Pushed) (x : Accepted) → slice_get steps i ≡ Some p → p.judged ≡ Fits x → IsKeptStep d nodes layout i x
  pub constants : HaveConstants (constants_in d.rows) nodes
  pub few : length nodes ≤ size_of_front db bound (length steps)

-- the nodes that are kept are nodes of the store
abbrev pub IsKeptIn : ℕ → Judged → Type 0
IsKeptIn n (Stands v) = Unit {0}
IsKeptIn n (Fits x) = AreIdsIn n x.hyps × AreVariablesIn n x.variables

-- what is kept of an accepted step is of a usable assertion, with a node for each of its variables
pub record IsUsed (d : Opened) (x : Accepted) : Type 0 where
  pub assertion : Assertion
  pub usable : usable_in d x.label ≡ Some assertion
  pub count : length x.variables ≡ length assertion.vars

abbrev pub IsUsedIf : Opened → Judged → Type 0
IsUsedIf d (Stands v) = Unit {0}
IsUsedIf d (Fits x) = IsUsed d x

-- a fact of the database and the worksheet, whatever text and sheet they are of
abbrev pub ForEachBook : Opened → Bound → (Database → Type 0) → Type 0
ForEachBook d bound P =
    (kinds : Kinds) (text : List ℕ) (sheet : Sheet) → IsOpened kinds text d → Binds (database_of kinds text d.rows d.parsed) sheet bound
    → P (database_of kinds text d.rows d.parsed)

-- the store after these steps, where this is the logic typecode
pub record IsFront (d : Opened) (logic : Typecode) (bound : Bound) (works : List WorkNode) (formulas : List Id) (steps : List Pushed) (nodes : List Term) (links : List Link) : Type 0 where
  pub store : IsStore nodes links
  pub solved : IsSolved nodes links
  pub works_in : AreWorksIn (length nodes) works
  pub formulas_in : AreIdsIn (length nodes) formulas
  pub kept_in : AllByRecursion (λ (p : Pushed). IsKeptIn (length nodes) p.judged) steps
  pub level : ForEachBook d bound (λ db. logic_code db ≡ logic → IsLevel db d bound works formulas steps nodes links)
