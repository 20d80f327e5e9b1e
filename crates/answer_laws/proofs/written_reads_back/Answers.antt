use Rattle.answer_laws.proofs.ReadsBack.{written_reads_back}
use Rattle.answer_laws.proofs.written_reads_back.Goals as goal

pub returns : goal.returns
returns c =
    written_reads_back c.has_database_facts.ensures c.mandatory_variables_stand.ensures c.frames_have_own_expressions.ensures c.names_are_words.ensures c.active_names_are_plain.ensures
    c.read_is_spellable.ensures c.laid_out_reads_back.ensures.back c.laid_out_reads_back.ensures.only (λ db bound asked. c.no_new_variable.ensures db bound asked)
