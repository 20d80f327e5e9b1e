use Rattle.std.proofs.Common.{◌∙◌, sym}
use Rattle.mmp_run.proofs.Blocks.{from_one, found_here, not_here, none_left}
use Rattle.mmp_run.proofs.command.read_blocks.Goals as goal

pub loop-blocks-init : goal.loop-blocks-init
loop-blocks-init c = from_one c.args.word.now

pub returns-then-eq : goal.returns-then-eq
returns-then-eq c = found_here c.loop-blocks.blocks c.args.word.now c.format.result.now _ c.loop-blocks-test.true c.loop-blocks.invariant c.format.ensures.text c.if-eq.ensures

pub loop-blocks-preserved : goal.loop-blocks-preserved
loop-blocks-preserved c = not_here c.loop-blocks.blocks c.args.word.now c.format.result.now _ c.loop-blocks-test.true c.loop-blocks.invariant c.format.ensures.text c.if-eq.ensures

pub returns : goal.returns
returns c = sym (c.loop-blocks.invariant ∙ none_left c.loop-blocks.blocks c.args.word.now c.loop-blocks-test.false)
