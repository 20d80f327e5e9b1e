use Rattle.auto_laws.proofs.FillsAgain.{filling_again}
use Rattle.auto_laws.proofs.filling_again_changes_nothing.Goals as goal

pub returns : goal.returns
returns c = filling_again
    (record {
      facts = c.has_database_facts.ensures;
      standing = c.mandatory_variables_stand.ensures;
      owned = c.frames_have_own_expressions.ensures;
      words = c.names_are_words.ensures;
      whole = c.assertions_are_whole.ensures;
      spellable = c.read_is_spellable.ensures;
      reads_one = c.sound_text_is_read.ensures.one;
      laid = c.laid_out_reads_back.ensures.back;
      lines = c.binds_without_lines.ensures;
      values = c.values_stay.ensures;
      verdicts = c.verdicts_stay.ensures;
      binds = c.written_sheet_binds.ensures.binds;
      back = c.written_reads_back.ensures;
    })
    c.laid_out_reads_back.ensures.only c.is_written_again.ensures c.answers_are_one.ensures
