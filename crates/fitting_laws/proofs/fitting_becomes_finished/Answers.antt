use Rattle.fitting_laws.proofs.Joined.{fitting_finished}
use Rattle.fitting_laws.proofs.fitting_becomes_finished.Goals as goal

pub returns : goal.returns
returns c = fitting_finished (record {
  facts = c.has_database_facts.ensures;
  whole = c.assertions_are_whole.ensures;
  spellable = c.read_is_spellable.ensures;
  words = c.names_are_words.ensures;
  reads = c.laid_out_reads_back.ensures.only;
  lines = c.binds_without_lines.ensures;
  judgements = λ db bound. c.judgements_are_one.ensures db bound;
})
