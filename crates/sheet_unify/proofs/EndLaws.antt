-- What is told of the end of a worksheet, test by test, is told of what is written.
use Rattle.std.specs.Prelude.{◌≡◌, ◌<◌, ◌≤◌, ◌^◌, ℕ, Bool, true, List, length, Option, Some, None, refl}
use Rattle.std.proofs.Common.{sym, ap, subst, ◌∙◌, arith}
use Rattle.std.proofs.lemmas.Option.{IfSome_then}
use Rattle.mm_base.specs.declared.kinds.Kinds.{Kinds}
use Rattle.mm_base.specs.declared.symbols.Pair.{Pair}
use Rattle.mm_base.specs.Limits.{most_sheet_bytes, most_work_size, most_proof_labels}
use Rattle.mm_model.specs.Book.{Database}
use Rattle.mm_model.specs.Names.{Name}
use Rattle.mm_database.specs.Opened.{Opened, IsOpened}
use Rattle.fault_lines.specs.Refusals.{Refusal, written_two_trees, too_much_written, proof_too_long, too_large, told_number}
use Rattle.proof_model.specs.declared.theorem.Theorem.{Theorem}
use Rattle.proof_model.specs.Proofs.{postorder}
use Rattle.sheet_proof.specs.declared.text.ProofFault.{ProofFault}
use Rattle.sheet_proof.specs.declared.text.ProofFault.TheVariants as told
use Rattle.sheet_proof.specs.Provable.{HasFewLabels, IsToldOf}
use Rattle.sheet_text.specs.declared.sheet.Sheet.{Sheet}
use Rattle.sheet_text.specs.Layout.{layout}
use Rattle.sheet_writing.specs.Ambiguous.{IsNameOfFirst}
use Rattle.solve_model.specs.declared.bound.Bound.{Bound}
use Rattle.solve_model.specs.Binding.{theorem_of}
use Rattle.solve_model.specs.Bound.{work_size}
use Rattle.written_model.specs.declared.options.Options.{Options}
use Rattle.written_model.specs.WrittenSteps.{WrittenStep, WrittenItem, steps_in}
use Rattle.written_model.specs.Pairs.{pairs_of}
use Rattle.written_model.specs.Written.{Writing, Writes, IsAmbiguous, IsLate, written_bound, written_pairs, written_sheet, proof_text, qed_proof}
use Rattle.again_laws.specs.Second.{NumbersFit}
use Rattle.written_steps.specs.declared.draft.DraftItem.{DraftItem}
use Rattle.written_steps.specs.Drafts.{book, items_in, ForEachText}
use Rattle.step_report.specs.PutPairs.{AreOrdered}
use Rattle.step_report.proofs.GivenLaws.{given_ordered}
use Rattle.sheet_unify.specs.declared.faults.UnifyFault.{UnifyFault}
use Rattle.sheet_unify.specs.declared.faults.UnifyFault.TheVariants as faults
use Rattle.sheet_unify.specs.Answered.{refusal_of}
use Rattle.sheet_unify.specs.Ended.{NoAmbiguous, HasSoundSteps, IsText, IsMade, ForMade, IsMadeOf, ForMadeOf, IsSmall, IsStepFault, IsSizeFault}
use Rattle.sheet_unify.specs.declared.printed.Printed.{Printed}
use Rattle.sheet_unify.specs.Ended.{IsProof, ForBooks, IsProofFault, IsLaidOut, IsPrintedWith, IsLargeText, IsLargeFault, IsTextIn, IsPrintedIn, IsPrinted, EndFault, IsEndFault}
use Rattle.sheet_unify.specs.Ended.{IsTextFault, of_proof}
use Rattle.sheet_unify.proofs.AnswerLaws.{ambiguous_late, much_late, proof_late, large_late}

-- ---- numbers that are told

pub is_over : (n told most : ℕ) → told ≡ told_number n → most < told → most < n
is_over n t most e h = omega (arith, e, h)

pub not_over : (n told most : ℕ) → most < 2 ^ 32 → told ≡ told_number n → told ≤ most → most < n → ⊥
not_over n t most few e h l = omega (arith, few, e, h, l)

-- ---- the steps

-- of all that is written of these items, this is the name of the first step with two trees
abbrev pub IsFoundName : Opened → ℕ → List DraftItem → Option Name → Type 0
IsFoundName d place items name =
    (kinds : Kinds) (text read : List ℕ) (options : Options) (w : Writing) → IsOpened kinds text d → options.kinds ≡ kinds
    → Writes (book kinds text d) read options w → NumbersFit w.names → w.bound.place ≡ place → w.items ≡ items_in d items
    → IsNameOfFirst (IsAmbiguous (book kinds text d) options w) (steps_in w.items) name

-- this is what is told of the work size
abbrev pub IsToldSize : Opened → ℕ → List DraftItem → ℕ → Type 0
IsToldSize d place items size =
    (kinds : Kinds) (text : List ℕ) (options : Options) (w : Writing) → IsOpened kinds text d → w.bound.place ≡ place → w.items ≡ items_in d items
    → size ≡ told_number (work_size (book kinds text d) (written_bound (book kinds text d) options w))

-- this is the sheet that is written of these items with these pairs
abbrev pub IsSheetOf : Opened → Name → Sheet → List DraftItem → List Pair → Sheet → Type 0
IsSheetOf d provable sheet items pairs s =
    (kinds : Kinds) (text : List ℕ) (options : Options) (w : Writing) → IsOpened kinds text d → kinds.provable ≡ provable → w.read.theorem ≡ sheet.theorem → w.read.loc ≡ sheet.loc
    → w.items ≡ items_in d items → written_pairs (book kinds text d) options w ≡ pairs → s ≡ written_sheet (book kinds text d) options w

module _ (d : Opened) (place : ℕ) (items : List DraftItem) where
  abbrev IsNameFound : (options : Options) → List ℕ → Writing → Option Name → Type 0
  IsNameFound options database w name = IsNameOfFirst (IsAmbiguous (book options.kinds database d) options w) (steps_in w.items) name

  name_of : (name : Option Name) → IsFoundName d place items name → (options : Options) (database text : List ℕ) (w : Writing)
      → IsMade d options place items database text w → IsNameFound options database w name
  name_of name found options database text w made = found options.kinds database text options w made.opened refl made.writes made.fit made.place_is made.items_are

  pub name_faulty : (name : Name) → IsFoundName d place items (Some name) → IsStepFault d place items (faults.WrittenTwoTrees name)
  name_faulty name found options database text w made =
      let db : Database = book options.kinds database d in
      let f = name_of (Some name) found options database text w made in
      subst (λ n. IsLate db options w (written_two_trees n)) f.2 (ambiguous_late db options w made.short f.0 f.1)

  pub none_ambiguous : IsFoundName d place items None → ForMade d place items (λ db options w. NoAmbiguous db options w)
  none_ambiguous found options database text w made = name_of None found options database text w made

  size_of : (size : ℕ) → IsToldSize d place items size → (options : Options) (database text : List ℕ) (w : Writing) → IsMade d options place items database text w
      → size ≡ told_number (work_size (book options.kinds database d) (written_bound (book options.kinds database d) options w))
  size_of size is options database text w made = is options.kinds database options w made.opened made.place_is made.items_are

  pub small_is : (size : ℕ) → IsToldSize d place items size → size ≤ most_work_size → IsSmall d place items
  small_is size is low options database text w made much =
      not_over (work_size (book options.kinds database d) (written_bound (book options.kinds database d) options w)) size most_work_size (omega arith)
      (size_of size is options database text w made) low much

  pub size_faulty : (size : ℕ) → IsToldSize d place items size → most_work_size < size → IsSizeFault d place items (faults.TooMuchWritten size)
  size_faulty size is over options database text w made none =
      let db : Database = book options.kinds database d in
      let n = work_size db (written_bound db options w) in
      let e = size_of size is options database text w made in
      subst (λ k. IsLate db options w (too_much_written k)) (sym e) (much_late db options w made.short none (is_over n size most_work_size e over))

  pub step_faulty : IsFoundName d place items None → (f : UnifyFault) → IsSizeFault d place items f → IsStepFault d place items f
  step_faulty found f h =
      IfSome_then (refusal_of f) h (λ r k options database text w made. k options database text w made (none_ambiguous found options database text w made))

-- ---- the proof

module _ (d : Opened) (options : Options) (sheet : Sheet) (es : List WrittenStep) (theorem : Theorem) (theorem_is : ForBooks d options (λ db. theorem ≡ theorem_of db sheet)) where
  pub proof_fits : (proof : List ℕ) → ((kinds : Kinds) (text : List ℕ) → IsOpened kinds text d → proof ≡ proof_text (book kinds text d) options.style theorem es)
      → HasFewLabels d options.style theorem es → ForBooks d options (λ db. IsProof db options sheet es true (Some proof))
  proof_fits proof is few database opened =
      let db : Database = book options.kinds database d in
      record {
        proof_is = ap (λ p. Some p) (is options.kinds database opened ∙ ap (λ t. proof_text db options.style t es) (theorem_is database opened));
        no_long_proof = λ h.
            few h.1 options.kinds database opened (subst (λ t. most_proof_labels < length (postorder (qed_proof db t es))) (sym (theorem_is database opened)) h.2);
      }

  pub proof_faulty : (f : ProofFault) → IsToldOf d options.style theorem es f → IsProofFault d options sheet es true (of_proof f)
  proof_faulty (told.TooLong n) h = λ database opened.
      let db : Database = book options.kinds database d in
      record {
        is_long = (refl, h.style_is, subst (λ t. most_proof_labels < length (postorder (qed_proof db t es))) (theorem_is database opened) (h.over options.kinds database opened));
        told = ap (λ k. proof_too_long k) (h.count options.kinds database opened ∙ ap (λ t. told_number (length (postorder (qed_proof db t es)))) (theorem_is database opened));
      }
  proof_faulty told.Memory h = tt

-- ---- the text

pub large_text : (sheet : Sheet) (proof : Option (List ℕ)) (n : ℕ) → n ≡ told_number (length (layout sheet proof)) → most_sheet_bytes < n → IsLargeFault sheet proof (faults.TooLarge n)
large_text sheet proof n e over = record { is_large = is_over (length (layout sheet proof)) n most_sheet_bytes e over; told = ap (λ k. too_large k) e }

pub fits_out : (sheet : Sheet) (proof : Option (List ℕ)) (n : ℕ) (t : List ℕ) → n ≡ told_number (length (layout sheet proof)) → n ≤ most_sheet_bytes → t ≡ layout sheet proof → IsLaidOut sheet proof t
fits_out sheet proof n t e low is = record { text = is; not_large = λ h. not_over (length (layout sheet proof)) n most_sheet_bytes (omega arith) e low h }

module _ (d : Opened) (options : Options) (sheet : Sheet) (es : List WrittenStep) (finished : Bool) where
  text_fits : (db : Database) (proof : Option (List ℕ)) (t : List ℕ) → IsProof db options sheet es finished proof → IsLaidOut sheet proof t → IsTextIn db options sheet es finished t
  text_fits db proof t is out = record {
    text = out.text ∙ ap (λ o. layout sheet o) is.proof_is;
    no_long_proof = is.no_long_proof;
    not_large = subst (λ o. most_sheet_bytes < length (layout sheet o) → ⊥) is.proof_is out.not_large;
  }

  pub printed_fits : (proof : Option (List ℕ)) (p : Printed) → ForBooks d options (λ db. IsProof db options sheet es finished proof) → IsPrintedWith sheet proof p
      → ForBooks d options (λ db. IsPrintedIn db options sheet es finished p)
  printed_fits proof p is out database opened =
      let q = is database opened in
      record {
        sheet_is = out.sheet_is;
        proof_is = out.proof_is ∙ q.proof_is;
        text_in = text_fits (book options.kinds database d) proof p.text q out.laid_out;
      }

  large_one : (db : Database) (proof : Option (List ℕ)) (r : Refusal) → IsProof db options sheet es finished proof → IsLargeText sheet proof r → EndFault db options sheet es finished r
  large_one db proof r p h =
      subst (EndFault db options sheet es finished) (sym (h.told ∙ ap (λ o. too_large (told_number (length (layout sheet o)))) p.proof_is))
      (EndFault.large p.no_long_proof (subst (λ o. most_sheet_bytes < length (layout sheet o)) p.proof_is h.is_large))

  pub large_faulty : (proof : Option (List ℕ)) (f : UnifyFault) → ForBooks d options (λ db. IsProof db options sheet es finished proof) → IsLargeFault sheet proof f
      → IsEndFault d options sheet es finished f
  large_faulty proof f is h =
      IfSome_then (refusal_of f) h (λ r k database opened. large_one (book options.kinds database d) proof r (is database opened) k)

  pub end_faulty : (f : UnifyFault) → IsProofFault d options sheet es finished f → IsEndFault d options sheet es finished f
  end_faulty f h =
      IfSome_then (refusal_of f) h
      (λ r k database opened.
      let p = k database opened in
      subst (EndFault (book options.kinds database d) options sheet es finished) (sym p.told) (EndFault.proof p.is_long))

-- ---- the text of what is written

module _ (db : Database) (options : Options) (w : Writing) where
  -- a fact of its sheet, its steps and its end
  own : (P : Sheet → List WrittenStep → Bool → Type 0) (sheet : Sheet) (es : List WrittenStep) (finished : Bool) → sheet ≡ written_sheet db options w → es ≡ steps_in w.items → finished ≡ w.finished
      → P sheet es finished → P (written_sheet db options w) (steps_in w.items) w.finished
  own P sheet es finished s i f h =
      subst (λ x. P (written_sheet db options w) (steps_in w.items) x) f (subst (λ x. P (written_sheet db options w) x finished) i (subst (λ x. P x es finished) s h))

  own_text : (t : List ℕ) → IsTextIn db options (written_sheet db options w) (steps_in w.items) w.finished t → IsText db options w t
  own_text t h = record { text = h.text; no_long_proof = h.no_long_proof; not_large = h.not_large }

  own_printed : (p : Printed) → IsPrintedIn db options (written_sheet db options w) (steps_in w.items) w.finished p → IsPrinted db options w p
  own_printed p h = record { sheet = h.sheet_is; proof = h.proof_is; text_is = own_text p.text h.text_in }

  own_fault : (r : Refusal) → EndFault db options (written_sheet db options w) (steps_in w.items) w.finished r → HasSoundSteps db options w → IsLate db options w r
  own_fault r (EndFault.proof h) s = proof_late db options w s.no_long s.no_ambiguous s.not_much h
  own_fault r (EndFault.large n h) s = large_late db options w s.no_long s.no_ambiguous s.not_much n h

module _ (d : Opened) (options : Options) (sheet : Sheet) (bound : Bound) (items : List DraftItem) (finished : Bool) (written : Sheet)
    (is : ForMadeOf d options sheet bound items (λ db w. written ≡ written_sheet db options w)) where
  abbrev es : List WrittenStep
  es = steps_in (items_in d items)

  pub printed_made : (p : Printed) → ForBooks d options (λ db. IsPrintedIn db options written es finished p)
      → ForMadeOf d options sheet bound items (λ db w. w.finished ≡ finished → IsPrinted db options w p)
  printed_made p h database text w of e =
      let db : Database = book options.kinds database d in
      own_printed db options w p
      (own db options w (λ s xs f. IsPrintedIn db options s xs f p) written es finished (is database text w of) (ap steps_in (sym of.made.items_are)) (sym e) (h database of.made.opened))

  fault_made : (r : Refusal) → ForBooks d options (λ db. EndFault db options written es finished r)
      → ForMadeOf d options sheet bound items (λ db w. w.finished ≡ finished → HasSoundSteps db options w → IsLate db options w r)
  fault_made r h database text w of e sound =
      let db : Database = book options.kinds database d in
      own_fault db options w r
      (own db options w (λ s xs f. EndFault db options s xs f r) written es finished (is database text w of) (ap steps_in (sym of.made.items_are)) (sym e) (h database of.made.opened)) sound

  pub text_faulty : (f : UnifyFault) → IsEndFault d options written es finished f → IsTextFault d options sheet bound items finished f
  text_faulty f h =
      IfSome_then (refusal_of f) h fault_made

-- ---- the sheet

module _ (d : Opened) (options : Options) (sheet : Sheet) (bound : Bound) (items : List DraftItem) (provable : Name) (pairs : List Pair) (provable_is : options.kinds.provable ≡ provable)
    (pairs_are : ForEachText d (AreOrdered bound.pairs → pairs ≡ pairs_of options.dv bound.pairs (steps_in (items_in d items)))) where
  ordered : (database text : List ℕ) (w : Writing) → IsMadeOf d options sheet bound items database text w → AreOrdered bound.pairs
  ordered database text w of =
      let binds = of.made.writes.binds in
      subst AreOrdered (sym binds.pairs ∙ ap (λ (b : Bound). b.pairs) of.bound_is) (given_ordered (book options.kinds database d) of.made.writes.reads.read)

  own_pairs : (database text : List ℕ) (w : Writing) → IsMadeOf d options sheet bound items database text w → written_pairs (book options.kinds database d) options w ≡ pairs
  own_pairs database text w of =
      ap (λ (b : Bound). pairs_of options.dv b.pairs (steps_in w.items)) of.bound_is ∙ ap (λ (is : List WrittenItem). pairs_of options.dv bound.pairs (steps_in is)) of.made.items_are
      ∙ sym (pairs_are options.kinds database of.made.opened (ordered database text w of))

  pub sheet_made : (s : Sheet) → IsSheetOf d provable sheet items pairs s → ForMadeOf d options sheet bound items (λ db w. s ≡ written_sheet db options w)
  sheet_made s is database text w of =
      is options.kinds database options w of.made.opened provable_is (ap (λ (r : Sheet). r.theorem) of.read_is) (ap (λ (r : Sheet). r.loc) of.read_is) of.made.items_are
      (own_pairs database text w of)
