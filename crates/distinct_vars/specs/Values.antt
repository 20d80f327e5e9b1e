-- The value of a variable, by variables and trees as lists.
use Rattle.std.specs.Prelude.{◌==◌, List, [], ◌∷◌, map, filter, flat_map, fold, if◌then◌else◌, Option, Some, None}
use Rattle.std.specs.Option.{option_map_or}
use Rattle.mm_base.specs.declared.symbols.Sym.{Sym}
use Rattle.mm_base.specs.declared.symbols.Pair.{Pair}
use Rattle.mm_base.specs.declared.tree.Tree.{Tree}
use Rattle.proof_model.specs.Machine.{is_shared}
use Rattle.solve_model.specs.Trees.{variables}
use Rattle.written_model.specs.Pairs.{lesser}

abbrev pub value_at : List Sym → List Tree → Sym → Option Tree
value_at [] ts s = None
value_at (v ∷ vs) [] s = None
value_at (v ∷ vs) (t ∷ ts) s = if v.0 == s.0 then Some t else value_at vs ts s

-- the variables of its value
abbrev pub variables_at : List Sym → List Tree → Sym → List Sym
variables_at vars trees s = option_map_or variables (value_at vars trees s) []

abbrev pub crossed : List Sym → List Sym → List (Sym × Sym)
crossed xs ys = flat_map (λ v. map (λ w. (v, w)) ys) xs

-- the least variable that the values of a pair share
abbrev pub shared_at : List Sym → List Tree → Pair → Option Sym
shared_at vars trees p = fold lesser None (map (λ (q : Sym × Sym). q.0) (filter is_shared (crossed (variables_at vars trees p.a) (variables_at vars trees p.b))))
