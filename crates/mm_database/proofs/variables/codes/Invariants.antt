use Rattle.std.proofs.Common.{◌≡◌, map, take}
use Rattle.mm_database.specs.declared.variables.FrameVariable.{FrameVariable}
use Rattle.mm_database.proofs.variables.codes.Given as goal

abbrev pub invariant-loop-variable : goal.invariant-loop-variable
invariant-loop-variable l = l.codes.items ≡ map (λ (v : FrameVariable). v.code) (take l.variable-index l.vars)
