-- How many nodes the steps of a worksheet have.
use Rattle.std.specs.Prelude.{ℕ, ◌+◌, List, map, sum, take}
use Rattle.std.specs.Option.{option_map_or}
use Rattle.mm_model.specs.Sizes.{nodes}
use Rattle.mm_model.specs.Book.{Database}
use Rattle.solve_model.specs.declared.bound.BoundStep.{BoundStep}
use Rattle.solve_model.specs.declared.bound.Bound.{Bound}
use Rattle.solve_model.specs.Bound.{standing, standing_size}

-- of a step's formula, 1 where it is blank
abbrev pub formula_size : BoundStep → ℕ
formula_size s = option_map_or nodes s.tree 1

-- of all formulas
abbrev pub formulas_size : List BoundStep → ℕ
formulas_size ss = sum (map formula_size ss)

-- of the assertions of candidates
abbrev pub candidates_size : Database → ℕ → List BoundStep → ℕ
candidates_size db place ss = sum (map (λ (s : BoundStep). standing_size (standing db place s)) ss)

-- of all formulas, and of the candidates of the first steps
abbrev pub size_of_front : Database → Bound → ℕ → ℕ
size_of_front db bound k = formulas_size bound.steps + candidates_size db bound.place (take k bound.steps)
