use Rattle.std.proofs.Common.{sym, ap, ◌∙◌, get_or}
use Rattle.std.proofs.lemmas.List.Sums.{fold_more}
use Rattle.frame_lists.specs.Steps.{or_more, float_of}
use Rattle.frame_lists.proofs.hypotheses.labels_of.Goals as goal

pub loop-variable-preserved : goal.loop-variable-preserved
loop-variable-preserved c =
    c.in_ok-push_found.ensures
    ∙ ap (λ o. or_more c.loop-variable.labels.items o) c.float_of.ensures
    ∙ ap (λ l. or_more l (float_of c.args.scope.now (get_or c.args.variables.now c.loop-variable.variable-index 0))) c.loop-variable.invariant
    ∙ sym (fold_more (λ ns v. or_more ns (float_of c.args.scope.now v)) c.args.scope.now.essentials c.args.variables.now c.loop-variable.variable-index 0 c.loop-variable-test.true)
