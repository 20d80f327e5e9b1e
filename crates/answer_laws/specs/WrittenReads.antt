-- What a written text reads as again.
use Rattle.std.specs.Prelude.{◌≡◌, ℕ, List, None}
use Rattle.mm_model.specs.Book.{Database}
use Rattle.sheet_text.specs.declared.sheet.Sheet.{Sheet}
use Rattle.sheet_text.specs.Reads.{ReadsAs, unnumbered}
use Rattle.sheet_text.specs.Spellable.{IsSpellable}
use Rattle.sheet_text.specs.TextFaults.{text_fault}
use Rattle.solve_model.specs.Bound.{Binds}
use Rattle.written_model.specs.ReadBack.{IsOneLine}
use Rattle.written_model.specs.declared.options.Options.{Options}
use Rattle.written_model.specs.Opened.{IsOpened}
use Rattle.written_model.specs.Written.{Writing, Writes, HasNoLateFault, written_sheet, written_proof, written_bound, written_text}
use Rattle.written_model.specs.ProvesItself.{IsFixed}
use Rattle.written_model.specs.WrittenAgain.{ValuesStay, VerdictsStay, IsWrittenAgain}

module _ (db : Database) (text : List ℕ) (options : Options) (w : Writing) where
  -- the written worksheet can be spelled, its proof is one line, and its text has no fault and reads as the worksheet
  pub record IsReadBack : Type 0 where
    pub spellable : IsSpellable (written_sheet db options w)
    pub one_line : IsOneLine (written_proof db options w)
    pub sound : text_fault (written_text db options w) ≡ None
    pub reads : ReadsAs (written_text db options w) (written_sheet db options w)

  abbrev pub WrittenReadsBack : Type 0
  WrittenReadsBack = IsOpened options.kinds db → Writes db text options w → HasNoLateFault db options w → IsReadBack

  -- it has no fault over the database, and has the written trees, whatever the numbers of its lines
  abbrev pub WrittenBinds : Type 0
  WrittenBinds = IsOpened options.kinds db → Writes db text options w → HasNoLateFault db options w
      → (s : Sheet) → unnumbered s ≡ unnumbered (written_sheet db options w) → Binds db s (written_bound db options w)

  -- with these laws the written text is written as itself
  abbrev pub WrittenByParts : Type 0
  WrittenByParts = ValuesStay db text options w → VerdictsStay db text options w → WrittenBinds → IsWrittenAgain db text options w

  -- what is written again as itself is its own answer
  abbrev pub WrittenIsFixed : Type 0
  WrittenIsFixed = IsWrittenAgain db text options w → IsOpened options.kinds db → Writes db text options w → HasNoLateFault db options w
      → IsFixed db options (written_text db options w) w.finished

  abbrev pub AnswerIsFixed : Type 0
  AnswerIsFixed = IsOpened options.kinds db → Writes db text options w → HasNoLateFault db options w → IsFixed db options (written_text db options w) w.finished
