-- What the proof of a written worksheet rests on.
use Rattle.std.specs.Prelude.{◌≡◌, ℕ, true, List, Some}
use Rattle.mm_base.specs.declared.symbols.Label.{Label}
use Rattle.mm_model.specs.Names.{Name}
use Rattle.mm_model.specs.Book.{Database, label_of, label_name}
use Rattle.mm_database.specs.Books.{database_of}
use Rattle.mm_database.specs.Opened as opened
use Rattle.mm_database.specs.Opened.{Opened}
use Rattle.sheet_proof.specs.Provable.{IsProvable}
use Rattle.writing_laws.specs.HasEnd.{PlacesAreEarlier}
use Rattle.written_model.specs.declared.options.Options.{Options}
use Rattle.written_model.specs.WrittenSteps.{steps_in}
use Rattle.written_model.specs.Opened.{IsOpened}
use Rattle.written_model.specs.Written.{Writing, Writes}

-- each place of what a worksheet becomes names an earlier step
abbrev pub WrittenIsEarlier : Database → List ℕ → Options → Writing → Type 0
WrittenIsEarlier db text options w = IsOpened options.kinds db → Writes db text options w → PlacesAreEarlier (steps_in w.items)

-- and where that is finished, its steps have a proof
abbrev pub FinishedIsProvable : Type 0
FinishedIsProvable = (database text : List ℕ) (d : Opened) (options : Options) (w : Writing) → opened.IsOpened options.kinds database d
    → Writes (database_of options.kinds database d.rows d.parsed) text options w → w.finished ≡ true → IsProvable d (steps_in w.items)

-- a label's name is the one that it is found by
abbrev pub LabelHasName : Type 0
LabelHasName = (db : Database) (name : Name) (l : Label) → label_of db name ≡ Some l → name ≡ label_name db l
