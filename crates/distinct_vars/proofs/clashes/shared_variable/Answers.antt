use Rattle.std.proofs.Common.{Some, None}
use Rattle.distinct_vars.proofs.UseLaws.{shared_none, shared_told}
use Rattle.distinct_vars.proofs.clashes.shared_variable.Goals as goal

pub returns-in_default-value : goal.returns-in_default-value
returns-in_default-value c = shared_none c.args.vars.now c.args.trees.now c.args.pair c.in_default-value.ensures

pub returns-in-Some-least_shared : goal.returns-in-Some-least_shared
returns-in-Some-least_shared c =
    shared_told c.args.vars.now c.args.trees.now c.args.pair c.in-Some.one.now c.in-Some-value.other.now (Some c.in-Some-least_shared.number) c.in-Some.ensures c.in-Some-value.ensures
    c.in-Some-least_shared.ensures

pub returns-in-None : goal.returns-in-None
returns-in-None c =
    shared_told c.args.vars.now c.args.trees.now c.args.pair c.in-Some.one.now c.in-Some-value.other.now None c.in-Some.ensures c.in-Some-value.ensures c.in-None.ensures
