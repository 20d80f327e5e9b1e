-- Part of the proof, and not of the claim: what a step of a walk counts.
use Rattle.std.specs.Prelude.{◌≡◌, ℕ, Option, List, set}
use Rattle.term_arena.specs.declared.walk.Step.{Step}
use Rattle.term_model.specs.Terms.{Term, term_at}
use Rattle.term_model.specs.Marks.{bound_at}
use Rattle.term_model.specs.Sizes.{node_tokens}

-- what is counted after a step: the node, where it was settled
abbrev pub IsCounted : List Term → List (Option ℕ) → ℕ → List ℕ → List ℕ → Step → Type 0
IsCounted nodes bound node old new Step.Opened = new ≡ old
IsCounted nodes bound node old new Step.Settled = new ≡ set old node (node_tokens old (bound_at bound node) (term_at nodes node))
IsCounted nodes bound node old new Step.Cycle = new ≡ old
