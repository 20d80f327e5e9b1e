use Rattle.std.proofs.Common.{◌-◌, codes}
use Rattle.sheet_gen.proofs.Appends.{make, four}
use Rattle.sheet_gen.proofs.LineLaws.{identity_is}
use Rattle.trial_texts.specs.TrialTexts.{in_block, trial_formula}
use Rattle.sheet_gen.proofs.blocks.put_identity_lines.Goals as goal

pub returns : goal.returns
returns c =
    make c.put_fifth.result _ _ _ _ (four c.put_fifth.result _ _ _ _ _ _ _ _ _ c.in_ok-put_steps.ensures c.in_ok-put.ensures c.in_ok-put_number.ensures c.put_fifth.ensures)
    (identity_is c.args.block (in_block (codes "f") c.args.block) (trial_formula (c.args.block - 1)))
