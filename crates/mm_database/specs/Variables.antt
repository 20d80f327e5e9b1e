-- The variables of a frame, as the code keeps them. This is part of the proof, and not of the claim.
use Rattle.std.specs.Prelude.{◌==◌, List, [], ◌∷◌, find, if◌then◌else◌, Option, Some, None, option_map}
use Rattle.std.specs.List.{filter_map}
use Rattle.mm_base.specs.declared.symbols.Sym.{Sym}
use Rattle.mm_base.specs.declared.symbols.Typecode.{Typecode}
use Rattle.mm_model.specs.declared.frames.Hyp.{Hyp}
use Rattle.mm_model.specs.Names.{typecode}
use Rattle.mm_database.specs.declared.variables.FrameVariable.{FrameVariable}

-- the variable of a symbol string of two symbols or more
abbrev pub second_typed : List Sym → Option FrameVariable
second_typed [] = None
second_typed (c ∷ []) = None
second_typed (c ∷ v ∷ rest) = Some (record { sym = v; code = typecode c })

-- the variable of a `$f`
abbrev pub variable_of : Hyp → Option FrameVariable
variable_of h = if h.floating then second_typed h.formula else None

-- the variables of the `$f` among hypotheses, in order
abbrev pub frame_variables : List Hyp → List FrameVariable
frame_variables hyps = filter_map variable_of hyps

-- the typecode of a variable
abbrev pub code_of : List FrameVariable → Sym → Option Typecode
code_of vars s = option_map (λ (v : FrameVariable). v.code) (find (λ (v : FrameVariable). v.sym.0 == s.0) vars)
