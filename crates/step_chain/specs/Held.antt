-- What a chain of steps holds.
use Rattle.std.specs.Prelude.{◌≡◌, ℕ, ◌<◌, ◌≤◌, ◌^◌, List, [], ◌∷◌, ◌++◌, length, take, slice_get, Some}
use Rattle.std.specs.Option.{option_map_or}
use Rattle.std.specs.List.{AllByRecursion}
use Rattle.mm_base.specs.declared.kinds.Kinds.{Kinds}
use Rattle.mm_base.specs.declared.symbols.Typecode.{Typecode}
use Rattle.mm_model.specs.Names.{typecode}
use Rattle.mm_model.specs.Frames.{symbol_in}
use Rattle.mm_model.specs.Book.{Database, logic_code}
use Rattle.mm_database.specs.Opened.{Opened}
use Rattle.solve_model.specs.declared.bound.BoundStep.{BoundStep}
use Rattle.solve_model.specs.declared.bound.Bound.{Bound}
use Rattle.solve_model.specs.declared.verdict.Verdict.{Verdict}
use Rattle.solve_model.specs.Bound.{standing}
use Rattle.solve_model.specs.Verdicts.{Judgement, accepted_in, verdict_of, IsJudgement}
use Rattle.term_model.specs.declared.shape.Id.{Id}
use Rattle.term_model.specs.Terms.{Term}
use Rattle.term_model.specs.Links.{Link}
use Rattle.chain_laws.specs.declared.leaves.WorkNode.{WorkNode}
use Rattle.step_chain.specs.declared.judged.Pushed.{Pushed}
use Rattle.step_chain.specs.Steps.{judgements_from, ArePlaced}
use Rattle.step_chain.specs.Levels.{ForEachBook, IsFront, IsUsedIf}

-- the opened database, the logic typecode, the worksheet, the store, its work variables, the nodes of the formulas by step, and the steps that were pushed
pub record Held : Type 0 where
  pub book : Opened
  pub logic : Typecode
  pub bound : Bound
  pub nodes : List Term
  pub links : List Link
  pub works : List WorkNode
  pub formulas : List Id
  pub steps : List Pushed

-- what is judged of the steps that were pushed
abbrev pub judgements_of : Held → List Judgement
judgements_of h = judgements_from h.book h.bound 0 h.steps

-- a fact of the database, whatever text and sheet it and the worksheet are of
abbrev pub OfEachBook : Held → (Database → Type 0) → Type 0
OfEachBook h P = ForEachBook h.book h.bound (λ db. logic_code db ≡ h.logic → P db)

-- the nodes and the bindings before the step of a number was pushed; all of them behind the last
abbrev pub nodes_before : List Pushed → List Term → ℕ → ℕ
nodes_before steps nodes k = option_map_or (λ (p : Pushed). p.mark.nodes) (slice_get steps k) (length nodes)

abbrev pub links_before : List Pushed → List Link → ℕ → ℕ
links_before steps links k = option_map_or (λ (p : Pushed). p.mark.trail) (slice_get steps k) (length links)

-- the first steps alone
abbrev pub front_of : Held → ℕ → Held
front_of h k = record h { nodes = take (nodes_before h.steps h.nodes k) h.nodes; links = take (links_before h.steps h.links k) h.links; steps = take k h.steps }

abbrev pub IsSound : Held → Type 0
IsSound h = IsFront h.book h.logic h.bound h.works h.formulas h.steps h.nodes h.links

-- each number of first steps has its store, as a front of the whole
pub record IsHeld (h : Held) : Type 0 where
  pub placed : ArePlaced h.bound
  pub few : length h.bound.steps < 2 ^ 32
  pub count : length h.formulas ≡ length h.bound.steps
  pub pushed : length h.steps ≤ length h.bound.steps
  pub used : AllByRecursion (λ (p : Pushed). IsUsedIf h.book p.judged) h.steps
  pub nodes_rise : (j k : ℕ) → j ≤ k → nodes_before h.steps h.nodes j ≤ nodes_before h.steps h.nodes k
  pub links_rise : (j k : ℕ) → j ≤ k → links_before h.steps h.links j ≤ links_before h.steps h.links k
  pub fronts : (k : ℕ) → IsSound (front_of h k)

-- the worksheet and what was made of it at first stay
pub record IsSameSheet (old new : Held) : Type 0 where
  pub book : new.book ≡ old.book
  pub logic : new.logic ≡ old.logic
  pub bound : new.bound ≡ old.bound
  pub works : new.works ≡ old.works
  pub formulas : new.formulas ≡ old.formulas

-- the next step was judged, by the steps accepted before it
pub record IsPushed (old new : Held) (v : Verdict) : Type 0 where
  pub same : IsSameSheet old new
  pub judgement : Judgement
  pub added : judgements_of new ≡ judgements_of old ++ judgement ∷ []
  pub verdict : verdict_of judgement ≡ v
  pub judged : OfEachBook old (λ db. (s : BoundStep) → slice_get old.bound.steps (length (judgements_of old)) ≡ Some s
      → IsJudgement db old.bound (accepted_in (judgements_of old)) (length (judgements_of old)) s (standing db old.bound.place s) judgement)

-- nothing is pushed yet
pub record IsFirst (kinds : Kinds) (d : Opened) (bound : Bound) (h : Held) : Type 0 where
  pub book : h.book ≡ d
  pub logic : h.logic ≡ typecode (symbol_in d.contents.symbols kinds.logic)
  pub bound_is : h.bound ≡ bound
  pub steps : h.steps ≡ []
