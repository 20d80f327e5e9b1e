-- The labels of a normal proof, run one after the other.
use Rattle.std.specs.Prelude.{◌≡◌, ◌↔◌, ℕ, false, List, [], ◌∷◌, codes, Result, Ok}
use Rattle.std.specs.List.{AllByRecursion}
use Rattle.std.specs.Str.{bytes_eq}
use Rattle.proof_model.specs.declared.theorem.Theorem.{Theorem}
use Rattle.proof_model.specs.Codes.{normal_code}
use Rattle.proof_model.specs.Machine.{Formula, Frames, State, MachineFault, and_then, start, use_label, stack_after}

-- the state behind the labels, or the fault of the first that has one
abbrev pub run_labels : Frames → Theorem → List (List ℕ) → State → Result State MachineFault
run_labels frames theorem [] st = Ok st
run_labels frames theorem (l ∷ ls) st = and_then (run_labels frames theorem ls) (use_label frames theorem l st)

-- a label is not the sign of a step that is not proved yet
abbrev pub IsNoGap : List ℕ → Type 0
IsNoGap label = bytes_eq label (codes "?") ≡ false

-- a normal proof ends with the stack that its labels leave
abbrev pub NormalRunsLabels : Frames → Theorem → Type 0
NormalRunsLabels frames theorem = (labels : List (List ℕ)) (stack : List Formula) → AllByRecursion IsNoGap labels
    → (stack_after frames theorem (normal_code theorem.mandatory labels) ≡ Ok stack) ↔ (and_then (λ st. Ok st.stack) (run_labels frames theorem labels start) ≡ Ok stack)
