use Rattle.std.proofs.Common.{◌≡◌, take}
use Rattle.std.specs.List.{filter_map}
use Rattle.mm_database.specs.Formulas.{leaf_of}
use Rattle.mm_database.proofs.formulas.expression.Given as goal

abbrev pub invariant-loop-sym : goal.invariant-loop-sym
invariant-loop-sym l = l.leaves.items ≡ filter_map (leaf_of l.scope.constants.now l.scope.place l.scope.vars.now) (take l.sym-index l.symbols)
