-- The theorem of a frame.
use Rattle.std.specs.Prelude.{ℕ, List, map}
use Rattle.mm_model.specs.declared.frames.Active.{Active}
use Rattle.mm_model.specs.declared.frames.Frame.{Frame}
use Rattle.mm_model.specs.declared.frames.Hyp.{Hyp}
use Rattle.proof_model.specs.declared.theorem.Theorem.{Theorem}

abbrev pub labels_of_hyps : List Hyp → List (List ℕ)
labels_of_hyps hyps = map (λ (h : Hyp). h.name) hyps

abbrev pub theorem_with : Frame → Active → Theorem
theorem_with f active = record { at = f.at; formula = f.formula; hyps = active.hyps; mandatory = labels_of_hyps f.hyps; pairs = active.pairs }
