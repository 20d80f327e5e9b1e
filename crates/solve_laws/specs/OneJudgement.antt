-- The judgements of a worksheet's steps are one.
use Rattle.std.specs.Prelude.{◌≡◌, List}
use Rattle.mm_model.specs.Book.{Database}
use Rattle.solve_model.specs.declared.bound.Bound.{Bound}
use Rattle.solve_model.specs.Verdicts.{Judgement, AreJudged}

-- two lists of judgements are one
abbrev pub JudgementsAreOne : Database → Bound → Type 0
JudgementsAreOne db bound = (one other : List Judgement) → AreJudged db bound one → AreJudged db bound other → one ≡ other
