-- A finished worksheet's new theorem can be put into the text of its database.
use Rattle.std.specs.Prelude.{◌≡◌, ℕ, List, true, false, None}
use Rattle.std.specs.List.{AllByRecursion}
use Rattle.std.proofs.Common.{sym, subst}
use Rattle.mm_model.specs.Statements.{statements, database_fault}
use Rattle.mm_model.specs.Book.{Database, IsDatabaseOf}
use Rattle.model_laws.specs.DatabaseLaws.{IsSymbolName}
use Rattle.solve_model.specs.Bound.{Binds}
use Rattle.written_model.specs.declared.options.Options.{Options}
use Rattle.written_model.specs.Opened.{IsOpened}
use Rattle.written_model.specs.Written.{Writing, Writes, Answers, wrote, written, written_sheet, written_bound}
use Rattle.install_model.specs.Installed.{new_theorem}
use Rattle.answer_laws.specs.WrittenReads.{WrittenReadsBack, IsReadBack}
use Rattle.again_laws.specs.Second.{WrittenSheetBinds}
use Rattle.model_laws.proofs.Checked.{no_statement_fault}
use Rattle.installed_laws.specs.CanBePutIn.{CanBePutIn}
use Rattle.installed_laws.proofs.FinishedFormulas.{hyps_are_formulas, qed_is_formula}
use Rattle.installed_laws.proofs.FinishedLabels.{is_not_existing, labels_have_bytes, labels_are_new, labels_are_different}
use Rattle.installed_laws.proofs.FinishedPairs.{pairs_are_pairs}
use Rattle.installed_laws.proofs.FinishedPlain.{theorem_is_plain, proof_is_fine}
use Rattle.installed_laws.proofs.OutsidePlaces.{IsOutsidePlace, place_outside}

module _ (text sheet : List ℕ) (db : Database) (options : Options) (w : Writing) (sound : database_fault text ≡ None) (is : IsDatabaseOf options.kinds text db)
    (words : AllByRecursion IsSymbolName db.symbols) (new : w.bound.existing ≡ false) (finished : w.finished ≡ true) where
  can_be_put_in : Writes db sheet options w → IsReadBack db sheet options w → Binds db (written_sheet db options w) (written_bound db options w)
      → CanBePutIn text w.bound.place (new_theorem db options w)
  can_be_put_in wr back binds =
      let outer = place_outside text (no_statement_fault text sound) options.kinds db is (written_sheet db options w) (is_not_existing text sheet db options w sound is wr new binds) in
      let place = subst (IsOutsidePlace (statements text)) (sym binds.place) outer in
      record {
        within = place.within;
        outside = place.outside;
        plain = theorem_is_plain text sheet db options w sound is wr finished words back.spellable binds;
        label_bytes = labels_have_bytes text sheet db options w sound is wr new binds;
        labels_new = labels_are_new text sheet db options w sound is wr new binds;
        labels_differ = labels_are_different text sheet db options w sound is wr new binds;
        pairs = pairs_are_pairs text db options w is back.spellable binds;
        hyps = hyps_are_formulas text sheet db options w sound is wr finished;
        formula = qed_is_formula text sheet db options w sound is wr finished;
        proof_bytes = (proof_is_fine text sheet db options w sound is wr finished words back.spellable binds).no_bad;
      }

  pub answer_can_be_put_in : Answers db sheet options (wrote w) → WrittenReadsBack db sheet options w → WrittenSheetBinds db sheet options w
      → CanBePutIn text w.bound.place (new_theorem db options w)
  answer_can_be_put_in (written s wr late) back binds =
      let opened : IsOpened options.kinds db = record { text = text; sound = sound; is_database = is } in
      can_be_put_in wr (back opened wr late) (binds opened wr late)
