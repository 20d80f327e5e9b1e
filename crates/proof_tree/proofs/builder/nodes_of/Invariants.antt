use Rattle.std.proofs.Common.{◌≡◌, ◌++◌}
use Rattle.proof_tree.specs.Keys.{nodes_of_keys}
use Rattle.proof_tree.proofs.builder.nodes_of.Given as goal

abbrev pub invariant-loop-key : goal.invariant-loop-key
invariant-loop-key l = l.nodes.items ++ nodes_of_keys l.key-iterator ≡ nodes_of_keys l.fn.keys.keys
