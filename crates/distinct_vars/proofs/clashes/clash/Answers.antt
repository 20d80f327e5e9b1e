use Rattle.std.proofs.Common.{ap, ◌∙◌, option_map}
use Rattle.distinct_vars.proofs.UseLaws.{first_is, first_same, variable_is}
use Rattle.distinct_vars.proofs.clashes.clash.Goals as goal

pub returns-clause-first : goal.returns-clause-first
returns-clause-first c u is =
    c.first_pair.ensures
    ∙ first_same c.as_slice-2.result.now c.args.vars.now c.as_slice-3.result.now c.args.trees.now c.as_slice.result.now c.args.pairs.now c.as_slice-2.ensures c.as_slice-3.ensures
    c.as_slice.ensures
    ∙ first_is u c.args.pairs.now c.args.vars.now c.args.trees.now is

pub returns-clause-variable : goal.returns-clause-variable
returns-clause-variable c u is =
    ap (option_map (λ c. c.2)) (c.first_pair.ensures
    ∙ first_same c.as_slice-2.result.now c.args.vars.now c.as_slice-3.result.now c.args.trees.now c.as_slice.result.now c.args.pairs.now c.as_slice-2.ensures c.as_slice-3.ensures
    c.as_slice.ensures)
    ∙ variable_is u c.args.pairs.now c.args.vars.now c.args.trees.now is
