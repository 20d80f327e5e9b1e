use Rattle.std.proofs.Common.{◌≡◌, sym, false}
use Rattle.proof_model.specs.Machine.{is_shared}
use Rattle.distinct_vars.proofs.crossings.add_crossing.Goals as goal

pub returns : goal.returns
returns c =
    let other : is_shared (c.args.one, c.args.other) ≡ false = sym c.if-eq.ensures in
    rw other c.add.ensures.added
