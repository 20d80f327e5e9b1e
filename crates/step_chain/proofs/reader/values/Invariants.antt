use Rattle.std.proofs.Common.{◌≡◌, take}
use Rattle.step_chain.specs.Answers.{values_at}
use Rattle.step_chain.proofs.ReaderLaws.{AreShort}
use Rattle.step_chain.proofs.reader.values.Given as goal

abbrev pub invariant-loop-variable : goal.invariant-loop-variable
invariant-loop-variable l = record {
  items : l.values.items ≡ values_at l.trees (take l.variable-index l.variables);
  short : AreShort l.trees l.variables l.variable-index;
}
