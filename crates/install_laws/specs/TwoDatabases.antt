-- The stack machine over two databases with the same symbol numbers.
use Rattle.std.specs.Prelude.{◌≡◌, ◌⊎◌, List, [], find, filter_map, nat_lt, slice_index_or, if◌then◌else◌, Option, Some, None, option_and_then, Contains, is_some, true}
use Rattle.std.specs.Str.{bytes_eq}
use Rattle.mm_base.specs.declared.symbols.Pair.{Pair}
use Rattle.mm_model.specs.declared.frames.Hyp.{Hyp}
use Rattle.mm_model.specs.declared.frames.Frame.{Frame}
use Rattle.mm_model.specs.Names.{Name, label}
use Rattle.proof_model.specs.declared.code.What.{What}
use Rattle.proof_model.specs.declared.code.What.TheVariants as what
use Rattle.proof_model.specs.declared.code.Step.{Step}
use Rattle.proof_model.specs.declared.code.Code.{Code}
use Rattle.proof_model.specs.declared.theorem.Theorem.{Theorem}
use Rattle.proof_model.specs.Machine.{Frames, Accepts, proof_fault}

-- the label that a step names
abbrev pub label_named_by : List Name → List Name → What → Option Name
label_named_by mandatory labels (what.Hyp k) = Some (slice_index_or mandatory k [])
label_named_by mandatory labels (what.Listed k) = Some (slice_index_or labels k [])
label_named_by mandatory labels (what.Again k) = None
label_named_by mandatory labels what.Unknown = None

-- the labels that the steps of a proof name
abbrev pub labels_named : Theorem → Code → List Name
labels_named theorem code = filter_map (λ (s : Step). label_named_by theorem.mandatory code.labels s.what) code.steps

-- a frame without its position and its label's number
abbrev pub unplaced : Frame → Frame
unplaced f = record f { label = label 0; at = 0 }

-- the assertion before a theorem that has the label, but for where it stands
abbrev pub assertion_before : Frames → Theorem → Name → Option Frame
assertion_before frames theorem name = option_and_then (λ (f : Frame). if nat_lt f.at theorem.at then Some (unplaced f) else None) (frames name)

-- the label is that of an active hypothesis
abbrev pub NamesHypothesis : Theorem → Name → Type 0
NamesHypothesis theorem name = is_some (find (λ (h : Hyp). bytes_eq h.name name) theorem.hyps) ≡ true

-- a theorem in two databases: it has the same formula and hypotheses, and each label of the proof names the same in both
pub record AreAlike (here there : Frames) (s t : Theorem) (code : Code) : Type 0 where
  pub formula : s.formula ≡ t.formula
  pub hyps : s.hyps ≡ t.hyps
  pub mandatory : s.mandatory ≡ t.mandatory
  pub labels : (name : Name) → Contains (labels_named s code) name → NamesHypothesis s name ⊎ (assertion_before here s name ≡ assertion_before there t name)

-- with the same pairs the machine ends alike
abbrev pub LawOfSamePairs : Type 0
LawOfSamePairs = (here there : Frames) (s t : Theorem) (code : Code) → AreAlike here there s t code → s.pairs ≡ t.pairs → proof_fault here s code ≡ proof_fault there t code

-- with further pairs it accepts what it accepted
abbrev pub LawOfMorePairs : Type 0
LawOfMorePairs = (here there : Frames) (s t : Theorem) (code : Code) → AreAlike here there s t code → ((p : Pair) → Contains s.pairs p → Contains t.pairs p)
    → Accepts here s code → Accepts there t code
