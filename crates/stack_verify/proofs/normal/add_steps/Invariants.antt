use Rattle.std.proofs.Common.{List, ◌≤◌, length, take}
use Rattle.mm_model.specs.declared.frames.Hyp.{Hyp}
use Rattle.stack_verify.specs.Lookups.{IsIndexOf}
use Rattle.stack_verify.specs.Normals.{StepsSoFar}
use Rattle.stack_verify.specs.Proofs.{names_in}
use Rattle.stack_verify.specs.Theorems.{labels_of_hyps}
use Rattle.stack_verify.proofs.normal.add_steps.Given as goal

abbrev pub invariant-loop-span : goal.invariant-loop-span
invariant-loop-span l =
    record {
      count : length l.others ≤ l.span-index;
      so_far : (hyps : List Hyp) → IsIndexOf hyps l.index
          → StepsSoFar (labels_of_hyps hyps) (names_in l.text (take l.span-index l.spans)) l.others l.steps.items;
    }
