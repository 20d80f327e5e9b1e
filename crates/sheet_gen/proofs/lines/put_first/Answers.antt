use Rattle.std.proofs.Common.{◌-◌, sym, codes}
use Rattle.sheet_gen.proofs.Appends.{make, four}
use Rattle.sheet_gen.proofs.LineLaws.{no_places}
use Rattle.trial_texts.specs.TrialTexts.{in_block, implies, provable, trial_formula}
use Rattle.sheet_gen.proofs.lines.put_first.Goals as goal

pub returns : goal.returns
returns c =
    let f = trial_formula (c.args.block - 1) in
    make c.put-2.result _ _ _ _ (four c.put-2.result _ _ _ _ _ _ _ _ _ c.in_ok-put_name.ensures c.in_ok-put.ensures c.in_ok-put_repeated.ensures c.put-2.ensures)
    (sym (no_places (in_block (codes "a") c.args.block) (codes "ax-1") (provable (implies f (implies f f)))))
