use Rattle.std.proofs.Common.{◌≡◌, ◌≤◌, ◌+◌, drop, vec_len}
use Rattle.stack_verify.specs.Founds.{run_found}
use Rattle.stack_verify.specs.Stacked.{IsSound, state}
use Rattle.stack_verify.proofs.run.run_steps.Given as goal

abbrev pub invariant-loop-number : goal.invariant-loop-number
invariant-loop-number l = record {
  sound : IsSound l.stack;
  grown : vec_len l.stack.entries ≤ vec_len l.initial.stack.entries + l.number;
  runs : run_found l.theorem l.named.absent l.named.mandatory.now l.named.labels.now l.number (drop l.number l.steps) (state l.stack) ≡ run_found l.theorem l.named.absent l.named.mandatory.now l.named.labels.now 0 l.steps (state l.initial.stack);
}
