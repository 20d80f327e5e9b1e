use Rattle.again_laws.proofs.BindsAgain.{binds_again, within}
use Rattle.again_laws.proofs.written_sheet_binds.Goals as goal

pub returns : goal.returns
returns c = record {
  binds = λ db text options w opened writes late.
      binds_again c.has_database_facts.ensures c.assertions_are_whole.ensures c.read_is_spellable.ensures c.databases_have_places.ensures c.databases_have_symbols.ensures
      c.frames_have_own_expressions.ensures db text options w opened writes late;
  within = within;
}
