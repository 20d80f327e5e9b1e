-- Each place of what a worksheet becomes names an earlier step, and what is finished has a proof.
use Rattle.std.specs.Prelude.{◌≡◌, ℕ, List, [], slice_get, slice_index_or, unwrap_or, Some}
use Rattle.std.proofs.Common.{sym, ap, ◌∙◌}
use Rattle.mm_base.specs.declared.symbols.Label.{Label}
use Rattle.mm_model.specs.Book.{Database, label_name}
use Rattle.mm_database.specs.Books.{database_of}
use Rattle.sheet_text.specs.declared.sheet.Given.TheVariants as given
use Rattle.writing_laws.specs.HasEnd.{PlacesAreEarlier}
use Rattle.written_model.specs.declared.options.Options.{Options}
use Rattle.written_model.specs.WrittenSteps.{Use, WrittenStep, steps_in}
use Rattle.written_model.specs.Written.{Writing, Writes}
use Rattle.push_laws.proofs.ActiveHyps.{label_stands_at}
use Rattle.push_laws.proofs.Books.{is_book}
use Rattle.push_laws.proofs.Facts.{IsBook}
use Rattle.push_laws.proofs.Lists.{all_of, index_get}
use Rattle.push_laws.proofs.QedLaw.{qed_is}
use Rattle.push_laws.proofs.StepProofs.{IsBefore}
use Rattle.push_laws.proofs.WrittenSheet.{written_is}
use Rattle.phase_laws.specs.Ends.{WrittenIsEarlier, FinishedIsProvable, LabelHasName}

pub label_has_name : LabelHasName
label_has_name db name l e = sym (index_get db.labels l.0 [] name (label_stands_at db.labels name l e))

module _ (db : Database) (book : IsBook db) (text : List ℕ) (options : Options) (w : Writing) (writes : Writes db text options w) where
  earlier : PlacesAreEarlier (steps_in w.items)
  earlier j e k at c = all_of (IsBefore j) e.places (given.Step k) (written_is db book text options w writes j e at).earlier c

  -- the reference of a step with a use is the name of its assertion's label
  referred : (i : ℕ) (e : WrittenStep) → slice_get (steps_in w.items) i ≡ Some e → (u : Use) → e.by ≡ Some u → unwrap_or e.reference [] ≡ label_name db u.assertion.label
  referred i e at u by' =
      let has = (written_is db book text options w writes i e at).fits u by' in
      let label = (book.facts.usable has.label u.assertion has.usable).label in
      label_has_name db (unwrap_or e.reference []) has.label has.named ∙ ap (λ (l : Label). label_name db l) (sym label)

pub written_is_earlier : (db : Database) (text : List ℕ) (options : Options) (w : Writing) → WrittenIsEarlier db text options w
written_is_earlier db text options w opened writes = earlier db (is_book options.kinds opened.text db opened.is_database opened.sound) text options w writes

pub finished_is_provable : FinishedIsProvable
finished_is_provable database text d options w is writes finished =
    let db : Database = database_of options.kinds database d.rows d.parsed in
    let book : IsBook db = is_book options.kinds database db is.database is.no_fault in
    let q = qed_is db book text options w writes in
    let labels : db.labels ≡ d.contents.labels = ap (λ c. c.labels) (sym is.contents) in
    record {
      mode = options.dv;
      allowed = w.bound.pairs;
      finished = writes.finished.0 finished;
      steps = λ i e at. record {
        earlier = λ k c. earlier db book text options w writes i e k at c;
        no_use = (written_is db book text options w writes i e at).no_use;
        reference = λ u by'. referred db book text options w writes i e at u by' ∙ ap (λ ls. slice_index_or ls u.assertion.label.0 []) labels;
      };
      front = q.pre;
      last = q.last;
      whole = q.whole;
      named = q.named;
    }
