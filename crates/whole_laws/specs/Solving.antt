-- It is decided what can be solved.
use Rattle.std.specs.Prelude.{List}
use Rattle.std.specs.List.{AllByRecursion}
use Rattle.mm_model.specs.Book.{Database}
use Rattle.solve_model.specs.declared.bound.Bound.{Bound}
use Rattle.solve_model.specs.Solutions.{Asked, Solvable}
use Rattle.chain_laws.specs.Layout.{IsReadyBound, IsReadyAsked}
use Rattle.writing_laws.specs.Decisions.{Decided}

-- a valuation solves typed candidates over typed formulas, or none does
abbrev pub ReadySolvingIsDecided : Type 0
ReadySolvingIsDecided = (db : Database) (bound : Bound) (asked : List Asked) → IsReadyBound db bound → AllByRecursion (IsReadyAsked db bound) asked → Decided (Solvable db bound asked)
