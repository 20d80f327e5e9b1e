use Rattle.std.proofs.Common.{get_or}
use Rattle.step_chain.proofs.ReaderLaws.{fault_here, no_node, own_item}
use Rattle.step_chain.proofs.reader.values.Goals as goal

pub returns-in-Err-clause-read : goal.returns-in-Err-clause-read
returns-in-Err-clause-read c =
    let k = c.loop-variable.variable-index in
    fault_here c.args.trees.now c.args.variables.now k (get_or c.args.variables.now k no_node)
    (own_item c.args.variables.now k
    c.loop-variable-test.true) c.loop-variable-test.true c.in-Err.fault c.loop-variable.invariant.short c.in-Err.ensures.read
