use Rattle.sheet_gen.proofs.Appends.{make, three}
use Rattle.sheet_gen.proofs.LineLaws.{identity_is}
use Rattle.trial_texts.specs.TrialTexts.{end_name, trial_formula}
use Rattle.sheet_gen.proofs.blocks.put_first_block.Goals as goal

pub returns : goal.returns
returns c =
    make c.put_fifth.result _ _ _ _ (three c.put_fifth.result _ _ _ _ _ _ _ c.in_ok-put_steps.ensures c.in_ok-put_end.ensures c.put_fifth.ensures)
    (identity_is 1 (end_name c.args.blocks 1) (trial_formula 0))
