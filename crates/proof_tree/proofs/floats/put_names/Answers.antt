use Rattle.std.proofs.Common.{nat_eq}
use Rattle.std.specs.HashMap.{get}
use Rattle.proof_tree.proofs.FloatLaws.{puts_one}
use Rattle.proof_tree.proofs.floats.put_names.Goals as goal

pub loop-symbol-preserved : goal.loop-symbol-preserved
loop-symbol-preserved c =
    puts_one c.args.name.now c.args.symbols.now c.loop-symbol.symbol-index (get nat_eq c.args.labels.now) (get nat_eq c.loop-symbol.labels) (get nat_eq c.put_name.new.labels)
    c.loop-symbol-test.true c.loop-symbol.invariant c.in_ok-put_name.ensures
