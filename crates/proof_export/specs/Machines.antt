-- The state that a machine stands for. This is part of the proof, and not of the claim.
use Rattle.std.specs.Prelude.{List, ◌∷◌, length, take, drop, reverse}
use Rattle.std.specs.List.{zip}
use Rattle.mm_model.specs.declared.frames.Frame.{Frame}
use Rattle.proof_model.specs.Machine.{Formula, State, substituted}
use Rattle.proof_export.specs.declared.machine.Machine.{Machine}

abbrev pub state : Machine → State
state m = record { stack = reverse m.stack.items; kept = m.kept.items }

-- what an assertion takes from the stack
abbrev pub top_of : List Formula → Frame → List Formula
top_of stack frame = reverse (take (length frame.hyps) stack)

-- the state behind an assertion whose entries have no fault
abbrev pub applied_to : Frame → State → State
applied_to frame st = record { stack = substituted (zip frame.hyps (top_of st.stack frame)) frame.formula ∷ drop (length frame.hyps) st.stack; kept = st.kept }
