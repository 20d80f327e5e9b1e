-- The names of a finished worksheet's theorem are words without a dollar, and there is no dollar in its proof.
use Rattle.std.specs.Prelude.{◌≡◌, ◌==◌, ℕ, Bool, true, not, List, [], length, map, unwrap_or, Contains, Option, Some, None}
use Rattle.std.specs.List.{AllByRecursion, list_all}
use Rattle.std.proofs.Common.{sym, subst, ◌∙◌, cond}
use Rattle.std.proofs.lemmas.Bool.{and_from, and_parts}
use Rattle.mm_model.specs.Labels.{is_label, is_label_byte}
use Rattle.mm_model.specs.Names.{Name}
use Rattle.mm_model.specs.Words.{is_white}
use Rattle.mm_model.specs.Statements.{Statement, statements, database_fault}
use Rattle.mm_model.specs.Frames.{below}
use Rattle.mm_model.specs.Book.{Database, IsDatabaseOf}
use Rattle.model_laws.specs.DatabaseLaws.{IsSymbolName}
use Rattle.model_laws.proofs.Listed.{all_and, all_with}
use Rattle.proof_model.specs.Arities.{HasArities}
use Rattle.proof_model.specs.declared.theorem.Theorem.{Theorem}
use Rattle.sheet_text.specs.declared.sheet.Sheet.{Sheet}
use Rattle.sheet_text.specs.Spellable.{IsSpellable}
use Rattle.solve_model.specs.Bound.{Binds}
use Rattle.written_model.specs.declared.options.Options.{Options}
use Rattle.written_model.specs.WrittenSteps.{WrittenStep, steps_in}
use Rattle.written_model.specs.Written.{Writing, Writes, frames_of, written_pairs, written_sheet, written_bound, written_theorem, written_proof, proof_text}
use Rattle.install_model.specs.Installed.{named_pair, named_hyp, outer_hyps, own_hyps, new_theorem}
use Rattle.install_laws.specs.InstalledStatements.{IsPlain, IsPlainTheorem}
use Rattle.push_laws.proofs.Books.{is_book}
use Rattle.push_laws.proofs.Facts.{IsBook}
use Rattle.push_laws.proofs.Lists.{contains_get, zip_get}
use Rattle.push_laws.proofs.QedLaw.{n, below as qed_below, proof_is}
use Rattle.push_laws.proofs.ReadHyps.{hyp_steps}
use Rattle.push_laws.proofs.StepLaw.{are_named, arities}
use Rattle.push_laws.proofs.TheoremHyps.{IsRead}
use Rattle.push_laws.proofs.WrittenSheet.{sheet as read_sheet, written_hyps, hyps_zip}
use Rattle.installed_laws.specs.CanBePutIn.{is_formula, is_pair}
use Rattle.installed_laws.proofs.FinishedFormulas.{dropped, all_named, hyps_are_formulas, qed_is_formula}
use Rattle.installed_laws.proofs.FinishedLabels.{theorem_bytes}
use Rattle.installed_laws.proofs.FinishedPairs.{pairs_are_pairs}
use Rattle.installed_laws.proofs.PlainNames.{label_plain, formula_plain, pair_plain}
use Rattle.installed_laws.proofs.ProofBytes.{HasFineBytes, written_bytes}

module _ (text sheet : List ℕ) (db : Database) (options : Options) (w : Writing) (sound : database_fault text ≡ None) (is : IsDatabaseOf options.kinds text db)
    (wr : Writes db sheet options w) (finished : w.finished ≡ true) (words : AllByRecursion IsSymbolName db.symbols)
    (spellable : IsSpellable (written_sheet db options w)) (binds : Binds db (written_sheet db options w) (written_bound db options w)) where
  abbrev book : IsBook db
  book = is_book options.kinds text db is sound

  abbrev ws : Sheet
  ws = written_sheet db options w

  abbrev thm : Theorem
  thm = written_theorem db options w

  abbrev before : List Statement
  before = below (statements text) w.bound.place

  theorem_is_label : is_label w.read.theorem ≡ true
  theorem_is_label = and_from (not (length w.read.theorem == 0)) (list_all is_label_byte w.read.theorem) some (theorem_bytes db ws binds.sound)
    where
      some : not (length w.read.theorem == 0) ≡ true
      some = (and_parts (not (length w.read.theorem == 0)) (list_all (λ b. not (is_white b)) w.read.theorem) spellable.theorem).0

  label_by : (o : Option Name) (l : Name) → o ≡ Some l → is_label l ≡ true → IsPlain (unwrap_or o [])
  label_by o l e h = subst (λ (r : Option Name). IsPlain (unwrap_or r [])) (sym e) (label_plain l h)

  hyp_named : (e : WrittenStep) → Contains (own_hyps db options w) e → IsPlain (unwrap_or e.reference [])
  hyp_named e h =
      let k = contains_get (written_hyps db book sheet options w wr) e (dropped (outer_hyps db options w) (written_hyps db book sheet options w wr) e h) in
      let t = zip_get (IsRead db book (read_sheet db book sheet options w wr) wr.binds.sound) (written_hyps db book sheet options w wr)
      (hyp_steps db book (read_sheet db book sheet options w wr) wr.binds.sound) k.0 e (hyps_zip db book sheet options w wr) k.1 in
      label_by e.reference t.2.label (t.2.reference ∙ t.2.label_is) t.2.spelled

  abbrev HypPlain : Name × List Name → Type 0
  HypPlain h = IsPlain h.0 × AllByRecursion IsPlain h.1

  hyps_plain : AllByRecursion HypPlain (map (named_hyp db options w) (own_hyps db options w))
  hyps_plain =
      all_and (λ (h : Name × List Name). IsPlain h.0) (λ (h : Name × List Name). is_formula before h.1 ≡ true) HypPlain
      (λ h named f. (named, formula_plain options.kinds text db is words w.bound.place h.1 f)) (map (named_hyp db options w) (own_hyps db options w))
      (all_named (λ (h : Name × List Name). IsPlain h.0) (named_hyp db options w) (own_hyps db options w) hyp_named)
      (hyps_are_formulas text sheet db options w sound is wr finished)

  pub proof_is_fine : HasFineBytes (unwrap_or (written_proof db options w) [])
  proof_is_fine =
      let have =
      subst (HasArities (frames_of db) thm) (sym (proof_is db book sheet options w wr finished))
      (arities db book sheet options w wr finished (n db book sheet options w wr finished) (qed_below db book sheet options w wr finished)) in
      let bytes = written_bytes db book options.style thm (steps_in w.items) (are_named db book sheet options w wr finished) have in
      subst (λ (b : Bool). HasFineBytes (unwrap_or (cond b (Some (proof_text db options.style thm (steps_in w.items))) None) [])) (sym finished) bytes

  pub theorem_is_plain : IsPlainTheorem (new_theorem db options w)
  theorem_is_plain = record {
    name = label_plain w.read.theorem theorem_is_label;
    pairs =
        all_with (λ (p : Name × Name). is_pair before p ≡ true) (λ (p : Name × Name). IsPlain p.0 × IsPlain p.1) (pair_plain options.kinds text db is words w.bound.place)
        (map (named_pair db options w) (written_pairs db options w)) (pairs_are_pairs text db options w is spellable binds);
    hyps = hyps_plain;
    formula = formula_plain options.kinds text db is words w.bound.place _ (qed_is_formula text sheet db options w sound is wr finished);
    proof = proof_is_fine.no_dollar;
  }
