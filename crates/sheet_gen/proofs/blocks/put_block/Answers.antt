use Rattle.sheet_gen.proofs.Appends.{make, two}
use Rattle.sheet_gen.proofs.LineLaws.{first_block, later_block}
use Rattle.sheet_gen.proofs.blocks.put_block.Goals as goal

pub returns-then-block-eq1 : goal.returns-then-block-eq1
returns-then-block-eq1 c = make c.put_first_block.result _ _ _ _ c.put_first_block.ensures (first_block c.args.blocks c.args.block c.if-block-eq1.true)

pub returns : goal.returns
returns c =
    make c.put_joining_lines.result _ _ _ _ (two c.put_joining_lines.result _ _ _ _ _ c.in_ok-put_identity_lines.ensures c.put_joining_lines.ensures)
    (later_block c.args.blocks c.args.block c.if-block-eq1.false)
