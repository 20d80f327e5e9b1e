use Rattle.stack_verify.specs.Taken.{taken}
use Rattle.stack_verify.proofs.Rules.{all_distinct, some_not_distinct}
use Rattle.stack_verify.proofs.pairs.check_distinct.Goals as goal

pub returns-in-None-clause-fine : goal.returns-in-None-clause-fine
returns-in-None-clause-fine c =
    all_distinct c.args.theorem.now c.args.known.now
    (taken c.args.entries.now) c.args.pairs.now c.in_ok-first_failing.field-0 c.requires.known c.in_ok-first_failing.ensures c.in-None.is

pub returns-in-Some-clause-fault : goal.returns-in-Some-clause-fault
returns-in-Some-clause-fault c =
    some_not_distinct c.args.theorem.now c.args.known.now
    (taken c.args.entries.now) c.args.pairs.now c.in_ok-first_failing.field-0
    (c.in-Some.field-0-0, (c.in-Some.v, c.in-Some.w)) c.requires.known c.in_ok-first_failing.ensures c.in-Some.is
