-- Proofs in which each label has as many subproofs as it takes hypotheses.
use Rattle.std.specs.Prelude.{◌≡◌, ℕ, List, length, if◌then◌else◌, Option, Some, option_map}
use Rattle.std.specs.List.{list_any}
use Rattle.std.specs.Str.{bytes_eq}
use Rattle.mm_model.specs.declared.frames.Hyp.{Hyp}
use Rattle.mm_model.specs.declared.frames.Frame.{Frame}
use Rattle.proof_model.specs.declared.theorem.Theorem.{Theorem}
use Rattle.proof_model.specs.Machine.{Frames}
use Rattle.proof_model.specs.Proofs.{Proof, Proofs, by, none, next, listed}

module _ (frames : Frames) (theorem : Theorem) where
  -- how many hypotheses a label takes: none where it names a hypothesis of the theorem, and else those of its frame
  abbrev pub arity_of : List ℕ → Option ℕ
  arity_of label = if list_any (λ (h : Hyp). bytes_eq h.name label) theorem.hyps then Some 0 else option_map (λ (f : Frame). length f.hyps) (frames label)

  abbrev mutual
    pub HasArities : Proof → Type 0
    HasArities (by label below) = (arity_of label ≡ Some (length (listed below))) × HaveArities below

    pub HaveArities : Proofs → Type 0
    HaveArities none = Unit {0}
    HaveArities (next p ps) = HasArities p × HaveArities ps
