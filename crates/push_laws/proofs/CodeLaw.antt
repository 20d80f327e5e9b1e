-- The compressed code of a finished worksheet can be written, and read.
use Rattle.std.specs.Prelude.{◌≡◌, ℕ, true, List, length, Option, Some, None, option_and_then, refl}
use Rattle.std.specs.List.{AllByRecursion}
use Rattle.std.proofs.Common.{sym, subst}
use Rattle.mm_base.specs.declared.symbols.Label.{Label}
use Rattle.mm_model.specs.declared.frames.Frame.{Frame}
use Rattle.mm_model.specs.Labels.{is_label}
use Rattle.mm_model.specs.Names.{Name}
use Rattle.mm_model.specs.Book.{Database, label_of}
use Rattle.proof_model.specs.declared.code.Code.{Code}
use Rattle.proof_model.specs.declared.theorem.Theorem.{Theorem}
use Rattle.proof_model.specs.Arities.{HasArities}
use Rattle.proof_model.specs.Codes.{code_of_proof}
use Rattle.proof_model.specs.ProofCode.{IsWritable}
use Rattle.proof_model.specs.Proofs.{Proof, postorder}
use Rattle.proof_laws.proofs.WrittenLaw.{written_sound, written_spells}
use Rattle.written_model.specs.declared.options.Options.{Options}
use Rattle.written_model.specs.Written.{Writing, Writes, frames_of, written_theorem}
use Rattle.push_laws.specs.QedProof.{the_proof, CodeIsRead, QedCodeIsRead}
use Rattle.push_laws.proofs.ActiveHyps.{label_stands_at}
use Rattle.push_laws.proofs.Books.{is_book}
use Rattle.push_laws.proofs.Facts.{IsBook}
use Rattle.push_laws.proofs.Lists.{get_contains}
use Rattle.push_laws.proofs.QedLaw.{n, below, proof_is}
use Rattle.push_laws.proofs.StepLaw.{are_named, arities}
use Rattle.push_laws.proofs.WritableLaw.{labels_have, code_writable, lists_no_mandatory}

frame_named : (db : Database) (book : IsBook db) (n : Name) (f : Frame) → frames_of db n ≡ Some f → is_label n ≡ true
frame_named db book n f e = go (label_of db n) refl e
  where
    go : (o : Option Label) → label_of db n ≡ o → option_and_then db.frame o ≡ Some f → is_label n ≡ true
    go None is i = absurd cc
    go (Some l) is i = book.labels_are n (get_contains db.labels l.0 n (label_stands_at db.labels n l is))

module _ (db : Database) (book : IsBook db) (words : List ℕ) (options : Options) (w : Writing) (wr : Writes db words options w) (finished : w.finished ≡ true) where
  abbrev thm : Theorem
  thm = written_theorem db options w

  abbrev p : Proof
  p = the_proof db options w

  abbrev code : Code
  code = code_of_proof thm.mandatory p

  pub labels_named : AllByRecursion (λ l. is_label l ≡ true) (postorder p)
  labels_named =
      labels_have (frames_of db) thm (λ l. is_label l ≡ true) (are_named db book words options w wr finished) (frame_named db book) p
      (subst (HasArities (frames_of db) thm) (sym (proof_is db book words options w wr finished))
      (arities db book words options w wr finished (n db book words options w wr finished) (below db book words options w wr finished)))

  pub code_is_read : CodeIsRead db options w
  code_is_read =
      let writable : IsWritable (length thm.mandatory) code = code_writable thm.mandatory p labels_named in
      record {
        writable = writable;
        sound = written_sound thm.mandatory code writable (lists_no_mandatory thm.mandatory p);
        spells = written_spells thm.mandatory code writable;
      }

pub qed_code_is_read : (db : Database) (text : List ℕ) (options : Options) (w : Writing) → QedCodeIsRead db text options w
qed_code_is_read db text options w opened writes finished =
    let book = is_book options.kinds opened.text db opened.is_database opened.sound in
    code_is_read db book text options w writes finished
