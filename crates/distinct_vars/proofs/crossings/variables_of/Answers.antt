use Rattle.std.proofs.Common.{◌≡◌, ◌∙◌, map}
use Rattle.std.proofs.lemmas.Result.{IfOk-weaker}
use Rattle.mm_model.specs.Names.{sym}
use Rattle.distinct_vars.proofs.VariableLaws.{listed_at}
use Rattle.distinct_vars.proofs.crossings.variables_of.Goals as goal

pub returns-in_ok-add_variables-in-Some : goal.returns-in_ok-add_variables-in-Some
returns-in_ok-add_variables-in-Some c =
    IfOk-weaker c.symbols.result (λ found. found.items ≡ map sym c.add_variables.new.numbers.keys) _
    (λ found e. e ∙ listed_at c.args.vars.now c.args.trees.now c.args.symbol c.in-Some.tree.now c.new-numbers.result.keys c.add_variables.new.numbers.keys c.in-Some.ensures
    c.new-numbers.ensures.empty c.in_ok-add_variables-in-Some.ensures) c.symbols.ensures
