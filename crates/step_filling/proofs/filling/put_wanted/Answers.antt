use Rattle.std.proofs.Common.{ap, ◌∙◌}
use Rattle.step_filling.specs.Kept.{Kept}
use Rattle.written_model.specs.Filled.{fill}
use Rattle.step_filling.proofs.StepLaws.{wanted_put}
use Rattle.step_filling.proofs.filling.put_wanted.Goals as goal

pub returns-in_ok-put_filled-in-Ok-clause-put : goal.returns-in_ok-put_filled-in-Ok-clause-put
returns-in_ok-put_filled-in-Ok-clause-put c =
    wanted_put c.args.trees.now c.args.i c.args.step.now c.args.accepted.now c.args.wanted.now c.args.filling.now c.put_filled.new.filling
    c.in_ok-filled.filled c.in-Ok.own c.as_slice-numbers.result.now c.as_slice-places.result.now
    (c.as_slice-numbers.ensures.value ∙ ap (λ (k : Kept). k.numbers) c.filling.view_is) c.as_slice-places.ensures
    (c.in_ok-filled.ensures ∙ ap (λ (k : Kept). fill k.trees c.args.wanted.now) c.filling.view_is)
    c.in-Ok.ensures.ok c.in_ok-put_filled-in-Ok.ensures
