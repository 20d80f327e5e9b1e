-- What labels name, and that it was looked up. This is part of the proof, and not of the claim.
use Rattle.std.specs.Prelude.{◌≡◌, ◌<◌, ℕ, List, [], length, Option, option_and_then, position, slice_get, slice_index_or}
use Rattle.std.specs.Str.{bytes_eq}
use Rattle.mm_model.specs.declared.frames.Hyp.{Hyp}
use Rattle.proof_model.specs.declared.theorem.Theorem.{Theorem}
use Rattle.proof_model.specs.Machine.{Frames, State, use_label}
use Rattle.stack_verify.specs.declared.run.Found.{Found}
use Rattle.stack_verify.specs.declared.run.Found.TheVariants as found
use Rattle.stack_verify.specs.declared.found.HypLabels.{HypLabels}
use Rattle.stack_verify.specs.Founds.{use_found}

-- the number of the first hypothesis with a label
abbrev pub place_of : List Hyp → List ℕ → Option ℕ
place_of hyps label = position (λ (h : Hyp). bytes_eq label h.name) hyps

abbrev pub look : List ℕ → Option ℕ → Option ℕ
look places number = option_and_then (slice_get places) number

-- the labels and places are those of the hypotheses
pub record IsIndexOf (hyps : List Hyp) (index : HypLabels) : Type 0 where
  pub count : length index.places.items ≡ length index.labels
  pub each : (label : List ℕ) → look index.places.items (position (bytes_eq label) index.labels) ≡ place_of hyps label

-- what was found for a label is what the machine uses
pub record IsFound (frames : Frames) (theorem : Theorem) (label : List ℕ) (f : Found) : Type 0 where
  pub same : (st : State) → use_found theorem f st ≡ use_label frames theorem label st

-- and so for each label of a list; past its end it is what the empty label names
pub record AreFound (frames : Frames) (theorem : Theorem) (labels : List (List ℕ)) (table : List Found) : Type 0 where
  pub count : length table ≡ length labels
  pub each : (k : ℕ) → k < length labels → IsFound frames theorem (slice_index_or labels k []) (slice_index_or table k found.Nothing)
