use Rattle.std.proofs.Common.{◌≡◌, ◌∙◌}
use Rattle.std.proofs.lemmas.Result.{IfOk-weaker}
use Rattle.distinct_vars.proofs.NeededLaws.{needed_is, put_same_all}
use Rattle.distinct_vars.proofs.crossings.needed.Goals as goal

pub returns : goal.returns
returns c =
    IfOk-weaker c.listed.result (λ pairs. pairs ≡ c.in_ok-set.set) _ (λ pairs e u is.
    e ∙ c.in_ok-set.ensures
    ∙ put_same_all c.as_slice-2.result.now c.args.vars.now c.as_slice-3.result.now c.args.trees.now c.as_slice.result.now c.args.pairs.now c.as_slice-2.ensures c.as_slice-3.ensures
    c.as_slice.ensures
    ∙ needed_is c.pair_sets_are_sorted.ensures.in_order u c.args.pairs.now c.args.vars.now c.args.trees.now is) c.listed.ensures
