use Rattle.std.proofs.Common.{◌≡◌}
use Rattle.std.specs.Prelude.{fold}
use Rattle.std.specs.List.{AllByRecursion}
use Rattle.written_steps.specs.Drafts.{IsSoundItem}
use Rattle.sheet_proof.specs.Steps as spec
use Rattle.sheet_proof.proofs.steps.proof_steps.Given as goal

-- with what is left, they become what proves all
abbrev pub invariant-loop-item : goal.invariant-loop-item
invariant-loop-item l =
    (fold (spec.put_item l.db) l.steps.items l.item-iterator.rest.items ≡ spec.proof_steps l.db l.fn.items) × AllByRecursion (IsSoundItem l.db) l.item-iterator.rest.items
