-- Laws on solutions, each the contract of a function.
use Rattle.std.specs.Prelude.{List}
use Rattle.std.specs.List.{AllByRecursion}
use Rattle.mm_base.specs.declared.kinds.Kinds.{Kinds}
use Rattle.mm_model.specs.Book.{Database}
use Rattle.sheet_text.specs.declared.sheet.Sheet.{Sheet}
use Rattle.solve_model.specs.declared.bound.Bound.{Bound}
use Rattle.solve_model.specs.Bound.{Binds}
use Rattle.solve_model.specs.Solutions.{Valuation, Asked, Solvable}
use Rattle.solve_model.specs.MostGeneral.{IsTheValuation}
use Rattle.written_model.specs.Opened.{IsOpened}
use Rattle.written_model.specs.Existence.{IsCandidate, HasMostGeneral}
use Rattle.chain_laws.specs.Layout.{IsReadyBound, IsReadyAsked}

-- where a valuation solves typed formulas and candidates, there is a most general one
abbrev pub MostGeneralExists : Type 0
MostGeneralExists = (db : Database) (bound : Bound) (accepted : List Asked) → IsReadyBound db bound → AllByRecursion (IsReadyAsked db bound) accepted
    → Solvable db bound accepted → (g : Valuation) × IsTheValuation db bound accepted g

-- what is bound over an opened database, and its candidates, are so
abbrev pub BoundIsReady : Type 0
BoundIsReady = (db : Database) (sheet : Sheet) (bound : Bound) → Binds db sheet bound → IsReadyBound db bound

abbrev pub CandidatesAreReady : Type 0
CandidatesAreReady = (kinds : Kinds) (db : Database) (bound : Bound) (x : Asked) → IsOpened kinds db → IsCandidate db bound x → IsReadyAsked db bound x

abbrev pub EachHasMostGeneral : Type 0
EachHasMostGeneral = (kinds : Kinds) (db : Database) (sheet : Sheet) (bound : Bound) (accepted : List Asked) → HasMostGeneral kinds db sheet bound accepted
