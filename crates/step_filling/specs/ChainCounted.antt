-- A chain counts the tokens of its formulas and of the `$e` of accepted candidates as the definitions do.
use Rattle.std.specs.Prelude.{◌≡◌, ℕ, slice_get, Contains, Some}
use Rattle.std.specs.List.{AllByRecursion}
use Rattle.mm_base.specs.declared.tree.Tree.{Tree}
use Rattle.mm_model.specs.Book.{Database}
use Rattle.solve_model.specs.declared.bound.BoundStep.{BoundStep}
use Rattle.solve_model.specs.Solutions.{Asked, formula, instance}
use Rattle.solve_model.specs.Verdicts.{accepted_in}
use Rattle.solve_model.specs.MostGeneral.{IsTheValuation}
use Rattle.written_model.specs.Existence.{IsCandidate}
use Rattle.step_chain.specs.Held.{Held, judgements_of, OfEachBook}
use Rattle.step_chain.specs.Values.{value_of}
use Rattle.step_chain.specs.Answers.{constants_of}
use Rattle.step_filling.specs.Defined.{IsCounted}

-- the formulas of the steps, and the instances of the `$e` of accepted candidates
pub record IsCountedChain (h : Held) (db : Database) : Type 0 where
  pub formulas : (k : ℕ) (b : BoundStep) → slice_get h.bound.steps k ≡ Some b → IsCounted db (constants_of h) (formula h.bound (value_of h) k)
  pub hyps : (x : Asked) → Contains (accepted_in (judgements_of h)) x → IsCandidate db h.bound x
      → AllByRecursion (λ (e : Tree). IsCounted db (constants_of h) (instance (value_of h) x.step e)) x.assertion.hyps

abbrev pub ChainIsCounted : Type 0
ChainIsCounted = (h : Held) → OfEachBook h (λ db. IsTheValuation db h.bound (accepted_in (judgements_of h)) (value_of h) → IsCountedChain h db)
