use Rattle.std.proofs.Common.{◌≡◌, ◌∙◌, arith}
use Rattle.sheet_gen.proofs.LineLaws.{one_more_block, all_blocks}
use Rattle.sheet_gen.proofs.texts.sheet.Goals as goal

pub loop-before-preserved : goal.loop-before-preserved
loop-before-preserved c =
    one_more_block c.loop-before.text.items c.put_block.new.text.items c.args.blocks c.loop-before.before c.loop-before.invariant c.in_ok-put_block.ensures

pub returns : goal.returns
returns c =
    let all : c.loop-before.before ≡ c.args.blocks = omega arith in
    c.from_vec.ensures ∙ all_blocks c.loop-before.text.items c.put-2.new.text.items c.args.blocks c.loop-before.before all c.loop-before.invariant c.in_ok-put-2.ensures
