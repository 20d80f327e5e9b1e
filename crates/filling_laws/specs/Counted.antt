-- What is counted of the formulas of a chain whose steps are all judged.
use Rattle.std.specs.Prelude.{◌<◌, ◌≤◌, List, length, filter_map}
use Rattle.std.specs.List.{AllByRecursion}
use Rattle.mm_model.specs.Names.{Name}
use Rattle.mm_model.specs.Book.{Database}
use Rattle.sheet_text.specs.declared.sheet.SheetItem.{SheetItem}
use Rattle.sheet_text.specs.Layout.{step_of_item}
use Rattle.solve_model.specs.Solutions.{formula}
use Rattle.solve_model.specs.Verdicts.{AreJudged, accepted_in}
use Rattle.solve_model.specs.MostGeneral.{IsTheValuation}
use Rattle.written_model.specs.Existence.{IsCandidate}
use Rattle.writing_laws.specs.HasLong.{front_trees, next_wanted, next_number}
use Rattle.step_chain.specs.Steps.{ArePlaced}
use Rattle.step_chain.specs.Held.{Held, judgements_of, OfEachBook}
use Rattle.step_chain.specs.Values.{value_of}
use Rattle.step_chain.specs.Answers.{constants_of}
use Rattle.step_filling.specs.Defined.{IsCounted, AreCounted}

-- all steps are judged, and the chain stands for the most general valuation of those that are accepted
pub record IsJudgedChain (h : Held) (db : Database) : Type 0 where
  pub placed : ArePlaced h.bound
  pub judged : AreJudged db h.bound (judgements_of h)
  pub most_general : IsTheValuation db h.bound (accepted_in (judgements_of h)) (value_of h)

abbrev pub AcceptedAreCandidates : Type 0
AcceptedAreCandidates = (h : Held) → OfEachBook h (λ db. IsJudgedChain h db → AllByRecursion (IsCandidate db h.bound) (accepted_in (judgements_of h)))

-- what the front is filled to, what is wanted for the next step, and its formula have as many tokens as the chain counts
pub record IsCountedFront (h : Held) (db : Database) (names : List Name) (front : List SheetItem) : Type 0 where
  pub filled : AreCounted db (constants_of h) (front_trees db names h.bound (value_of h) (judgements_of h) front)
  pub wanted : AreCounted db (constants_of h) (next_wanted db names h.bound (value_of h) (judgements_of h) front)
  pub own : next_number db names h.bound (value_of h) (judgements_of h) front < length h.bound.steps
      → IsCounted db (constants_of h) (formula h.bound (value_of h) (next_number db names h.bound (value_of h) (judgements_of h) front))

abbrev pub FrontsAreCounted : Type 0
FrontsAreCounted = (h : Held) → OfEachBook h (λ db. IsJudgedChain h db
    → (names : List Name) (front : List SheetItem) → length (filter_map step_of_item front) ≤ length h.bound.steps → IsCountedFront h db names front)
