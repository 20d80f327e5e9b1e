use Rattle.std.proofs.Common.{subst, Err}
use Rattle.step_chain.specs.declared.reading.TreeFault.{TreeFault}
use Rattle.step_chain.specs.Answers.{OfAccepted, AreRead, values_of, constants_of}
use Rattle.step_filling.proofs.WantedLaws.{no_values}
use Rattle.step_filling.proofs.accepted.values.Goals as goal

pub returns-in-Err-TooLong-clause-read : goal.returns-in-Err-TooLong-clause-read
returns-in-Err-TooLong-clause-read c =
    no_values c.args.trees.now c.args.i c.in-Err-TooLong.field-0-0
    (subst
    (λ (f : TreeFault). OfAccepted c.args.trees.now c.args.i
    (λ y. AreRead (constants_of c.args.trees.now) (values_of c.args.trees.now c.args.i y)
    (Err f))) c.in-Err-TooLong.field-0-is c.in-Err-TooLong.ensures.read)
