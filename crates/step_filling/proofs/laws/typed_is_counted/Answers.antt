use Rattle.step_filling.proofs.OverTyped as over
use Rattle.step_filling.proofs.TypedLaws as laws
use Rattle.step_filling.proofs.laws.typed_is_counted.Goals as goal

pub returns-clause-counted : goal.returns-clause-counted
returns-clause-counted c = laws.typed_is_counted c.has_database_facts.ensures c.constants_are_counted.ensures c.count_is_that_of_a_store.ensures

pub returns-clause-formulas : goal.returns-clause-formulas
returns-clause-formulas c = laws.formula_is_typed

pub returns-clause-instances : goal.returns-clause-instances
returns-clause-instances c = over.instance_is_typed
