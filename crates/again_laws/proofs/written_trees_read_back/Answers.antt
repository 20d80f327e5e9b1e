use Rattle.written_model.specs.WrittenSteps.{WrittenStep}
use Rattle.again_laws.proofs.BindsAgain.{trees_back}
use Rattle.again_laws.proofs.Lists.{contains_get, get_map}
use Rattle.written_model.specs.WrittenSteps.{steps_in}
use Rattle.again_laws.proofs.written_trees_read_back.Goals as goal

pub returns : goal.returns
returns c = λ db text options w opened writes fit e m.
    let at = contains_get (steps_in w.items) e m in
    trees_back c.has_database_facts.ensures c.assertions_are_whole.ensures c.read_is_spellable.ensures c.databases_have_places.ensures c.databases_have_symbols.ensures
    c.frames_have_own_expressions.ensures db text options w opened writes fit at.0 e.tree (get_map (λ (x : WrittenStep). x.tree) (steps_in w.items) at.0 e at.1)
