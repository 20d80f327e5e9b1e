use Rattle.std.proofs.Common.{◌≡◌, map, take}
use Rattle.mm_database.specs.declared.variables.FrameVariable.{FrameVariable}
use Rattle.mm_database.proofs.variables.symbols.Given as goal

abbrev pub invariant-loop-variable : goal.invariant-loop-variable
invariant-loop-variable l = l.syms.items ≡ map (λ (v : FrameVariable). v.sym) (take l.variable-index l.vars)
