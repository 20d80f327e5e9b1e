use Rattle.stack_verify.specs.Proofs.{names_in}
use Rattle.stack_verify.specs.Theorems.{labels_of_hyps}
use Rattle.stack_verify.proofs.LabelSteps.{normal_in_range}
use Rattle.stack_verify.proofs.normal.normal.Goals as goal

pub returns-clause-in_range : goal.returns-clause-in_range
returns-clause-in_range c = normal_in_range (labels_of_hyps c.args.hyps.now) (names_in c.args.text.now c.args.spans.now) c.in_ok-code.code c.in_ok-code.ensures
