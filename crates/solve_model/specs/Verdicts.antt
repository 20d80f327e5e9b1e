-- Which steps are accepted.
use Rattle.std.specs.Prelude.{◌≡◌, ℕ, List, [], ◌∷◌, ◌++◌, length, take, filter_map, slice_get, Option, Some, None}
use Rattle.std.specs.List.{AllByRecursion}
use Rattle.mm_model.specs.Book.{Database, Assertion}
use Rattle.sheet_text.specs.declared.sheet.Given.{Given}
use Rattle.solve_model.specs.declared.bound.BoundStep.{BoundStep}
use Rattle.solve_model.specs.declared.bound.Bound.{Bound}
use Rattle.solve_model.specs.declared.verdict.Verdict.{Verdict}
use Rattle.solve_model.specs.declared.verdict.Verdict.TheVariants as verdict
use Rattle.solve_model.specs.Bound.{Standing, settled, candidate, standing}
use Rattle.solve_model.specs.Solutions.{Asked, Solvable, orders_of}
use Rattle.solve_model.specs.Firsts.{IsFirstIn}

-- what is judged of a step: it is accepted in an order, or it stands with another verdict
pub data Judgement : Type 0 where
  accepted : Asked → Judgement
  stands : Verdict → Judgement

abbrev pub asked_of : Judgement → Option Asked
asked_of (accepted x) = Some x
asked_of (stands v) = None

-- what is accepted
abbrev pub accepted_in : List Judgement → List Asked
accepted_in judgements = filter_map asked_of judgements

-- the verdict of a judgement
abbrev pub verdict_of : Judgement → Verdict
verdict_of (accepted x) = verdict.Fits
verdict_of (stands v) = v

abbrev pub asked : ℕ → Assertion → List Given → Asked
asked i a places = record { step = i; assertion = a; places = places }

-- the candidate can be solved in an order together with those accepted before it
abbrev pub FitsIn : Database → Bound → List Asked → ℕ → Assertion → List Given → Type 0
FitsIn db bound before i a places = Solvable db bound (before ++ asked i a places ∷ [])

-- a candidate is accepted in the first order in which it can be solved; where there is none it does not fit
pub data IsJudgement (db : Database) (bound : Bound) (before : List Asked) (i : ℕ) (s : BoundStep) : Standing → Judgement → Type 0 where
  other : {v : Verdict} → IsJudgement db bound before i s (settled v) (stands v)
  fits : {a : Assertion} {places : List Given} → IsFirstIn (FitsIn db bound before i a) (orders_of s a) places → IsJudgement db bound before i s (candidate a) (accepted (asked i a places))
  no_fit : {a : Assertion} → AllByRecursion (λ places. FitsIn db bound before i a places → ⊥) (orders_of s a) → IsJudgement db bound before i s (candidate a) (stands verdict.NoFit)

-- each step is judged by those accepted before it
pub record AreJudged (db : Database) (bound : Bound) (judgements : List Judgement) : Type 0 where
  pub count : length judgements ≡ length bound.steps
  pub each : (i : ℕ) (s : BoundStep) (o : Judgement) → slice_get bound.steps i ≡ Some s → slice_get judgements i ≡ Some o
      → IsJudgement db bound (accepted_in (take i judgements)) i s (standing db bound.place s) o
