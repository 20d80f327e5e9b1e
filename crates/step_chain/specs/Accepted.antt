-- A candidate of which the orders were tried, with what is kept of it. This is part of the proof, and not of the claim.
use Rattle.std.specs.Prelude.{◌≡◌, ℕ, List, [], ◌∷◌, ◌++◌, length, Option, Some, None, option_map}
use Rattle.mm_base.specs.declared.symbols.Label.{Label}
use Rattle.mm_model.specs.declared.rows.Production.{Production}
use Rattle.mm_model.specs.Book.{Assertion}
use Rattle.mm_database.specs.Opened.{Opened}
use Rattle.sheet_text.specs.declared.sheet.Given.{Given}
use Rattle.solve_model.specs.declared.bound.Bound.{Bound}
use Rattle.term_model.specs.declared.shape.Id.{Id}
use Rattle.term_model.specs.Terms.{Term}
use Rattle.term_model.specs.Store.{Store, IsStore, IsSolved}
use Rattle.chain_laws.specs.declared.leaves.WorkNode.{WorkNode}
use Rattle.step_chain.specs.declared.judged.Accepted.{Accepted}
use Rattle.step_chain.specs.declared.judged.Judged.{Judged}
use Rattle.step_chain.specs.declared.judged.Judged.TheVariants.{Fits}
use Rattle.step_chain.specs.declared.judged.Pushed.{Pushed}
use Rattle.step_chain.specs.Candidate.{table_of, roots_of}
use Rattle.step_chain.specs.Tried.{IsTaken, IsExtended}
use Rattle.step_chain.specs.Levels.{ForEachBook, IsLevel, IsKeptIn, IsUsedIf}

-- what is kept is of the candidate's nodes
pub record IsKeptOf (rows : List Production) (a : Assertion) (l : Label) (old : List Term) (x : Accepted) : Type 0 where
  pub label : x.label ≡ l
  pub hyps : x.hyps ≡ (roots_of rows old a.frame.hyps a.tree a.hyps).roots
  pub variables : x.variables ≡ table_of old a.frame.hyps

abbrev pub IsKeptIf : List Production → Assertion → Label → List Term → Option Accepted → Type 0
IsKeptIf rows a l old None = Unit {0}
IsKeptIf rows a l old (Some x) = IsKeptOf rows a l old x

abbrev pub order_of : Accepted → List ℕ
order_of x = x.order

-- the candidate of a usable assertion was taken, and this is kept of it where it fits
pub record IsTakenAs (d : Opened) (formulas : List Id) (formula : Id) (places : List Given) (l : Label) (a : Assertion) (old new : Store) (r : Option Accepted) : Type 0 where
  pub taken : IsTaken d.rows a.frame.hyps a.tree a.hyps formulas formula places old new (option_map order_of r)
  pub kept : IsKeptIf d.rows a l old.nodes r

abbrev pub IsKeptInIf : ℕ → Option Accepted → Type 0
IsKeptInIf n None = Unit {0}
IsKeptInIf n (Some x) = IsKeptIn n (Fits x)

-- the next step is judged, and the store is that of the steps with it
pub record IsNext (d : Opened) (bound : Bound) (formulas : List Id) (i : ℕ) (old new : Store) (j : Judged) : Type 0 where
  pub extended : IsExtended old new
  pub store : IsStore new.nodes new.links
  pub solved : IsSolved new.nodes new.links
  pub kept_in : IsKeptIn (length new.nodes) j
  pub used : IsUsedIf d j
  pub level : ForEachBook d bound (λ db. (works : List WorkNode) (steps : List Pushed) (p : Pushed) → p.judged ≡ j → length steps ≡ i → IsLevel db d bound works formulas steps old.nodes old.links
      → IsLevel db d bound works formulas (steps ++ p ∷ []) new.nodes new.links)

-- the nodes and bindings are as they were
pub record IsSameStore (old new : Store) : Type 0 where
  pub nodes : new.nodes ≡ old.nodes
  pub links : new.links ≡ old.links
