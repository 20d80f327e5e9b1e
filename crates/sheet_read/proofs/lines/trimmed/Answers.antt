use Rattle.std.proofs.Common.{arith, sym, ◌∙◌}
use Rattle.sheet_read.proofs.Trims.{trims-less, trims-done, trims-none}
use Rattle.sheet_read.proofs.lines.trimmed.Goals as goal
use Rattle.sheet_read.proofs.lines.trimmed.Goals.{then-loop-len-test+else-is_white, else-loop-len-test}

pub loop-len-preserved : goal.loop-len-preserved
loop-len-preserved c = record {
  within = omega arith;
  trims = trims-less c.args.bytes.now c.loop-len.len c.loop-len-test.true c.loop-len.invariant.within (sym c.is_white.ensures ∙ c.if-is_white.true) c.loop-len.invariant.trims;
}

pub returns : goal.returns
returns c =
    elim c.loop-len-test.branch [
      | then-loop-len-test+else-is_white w ↦ trims-done c.args.bytes.now c.loop-len.len w.loop-len-test.true c.loop-len.invariant.within
          (sym w.is_white.ensures ∙ w.if-is_white.false) c.loop-len.invariant.trims
      | else-loop-len-test w ↦ trims-none c.args.bytes.now c.loop-len.len (omega arith) c.loop-len.invariant.trims
    ]
