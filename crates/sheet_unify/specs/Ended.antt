-- What is told at the end of a worksheet: the first fault of what is to be written, its text and its report. This is part of the proof, and not of the claim.
use Rattle.std.specs.Prelude.{◌≡◌, ◌<◌, ◌↔◌, ℕ, Bool, true, IsTrue, List, length, map, Contains, Option, Some, None, IfSome, if◌then◌else◌}
use Rattle.mm_base.specs.Limits.{most_sheet_bytes, most_work_size, most_proof_labels}
use Rattle.mm_model.specs.Book.{Database}
use Rattle.mm_database.specs.Opened.{Opened, IsOpened}
use Rattle.fault_lines.specs.Refusals.{Refusal, proof_too_long, too_large, told_number}
use Rattle.proof_model.specs.Proofs.{postorder}
use Rattle.sheet_proof.specs.declared.text.ProofFault.{ProofFault}
use Rattle.sheet_proof.specs.declared.text.ProofFault.TheVariants as told
use Rattle.sheet_text.specs.declared.sheet.Sheet.{Sheet}
use Rattle.sheet_text.specs.Layout.{layout}
use Rattle.solve_model.specs.declared.bound.Bound.{Bound}
use Rattle.solve_model.specs.Binding.{theorem_of}
use Rattle.solve_model.specs.Bound.{work_size}
use Rattle.written_model.specs.declared.options.Options.{Options}
use Rattle.written_model.specs.declared.options.ProofStyle.TheVariants as style
use Rattle.written_model.specs.declared.report.ReportLine.{ReportLine}
use Rattle.written_model.specs.WrittenSteps.{WrittenStep, steps_in}
use Rattle.written_model.specs.ProofTrees.{Finished}
use Rattle.written_model.specs.Report.{report_of}
use Rattle.written_model.specs.Written.{Writing, Writes, IsTooLong, IsAmbiguous, IsLate, written_bound, written_sheet, written_proof, written_text, label_count, proof_text, qed_proof}
use Rattle.writing_laws.specs.HasEnd.{PlacesAreEarlier}
use Rattle.again_laws.specs.Second.{NumbersFit}
use Rattle.written_steps.specs.declared.draft.DraftItem.{DraftItem}
use Rattle.written_steps.specs.declared.draft.DraftStep.{DraftStep}
use Rattle.written_steps.specs.Drafts.{book, drafts_in, items_in}
use Rattle.sheet_unify.specs.declared.faults.UnifyFault.{UnifyFault}
use Rattle.sheet_unify.specs.declared.faults.UnifyFault.TheVariants as faults
use Rattle.sheet_unify.specs.declared.kept.Kept.{Kept}
use Rattle.sheet_unify.specs.declared.outcome.Outcome.{Outcome}
use Rattle.sheet_unify.specs.declared.printed.Printed.{Printed}
use Rattle.sheet_unify.specs.Answered.{refusal_of}

-- ---- the faults, each by its test

module _ (db : Database) (options : Options) (w : Writing) where
  abbrev pub NoStep : (WrittenStep → Type 0) → Type 0
  NoStep P = (e : WrittenStep) → Contains (steps_in w.items) e → P e → ⊥

  abbrev pub NoLong : Type 0
  NoLong = NoStep (IsTooLong db options w)

  abbrev pub NoAmbiguous : Type 0
  NoAmbiguous = NoStep (IsAmbiguous db options w)

  abbrev pub IsMuch : Type 0
  IsMuch = most_work_size < work_size db (written_bound db options w)

  abbrev pub HasLongProof : Type 0
  HasLongProof = (w.finished ≡ true) × (options.style ≡ style.Normal) × (most_proof_labels < label_count db options w)

  abbrev pub IsLarge : Type 0
  IsLarge = most_sheet_bytes < length (written_text db options w)

  -- no formula has a fault, and the work size is within the limit
  pub record HasSoundSteps : Type 0 where
    pub no_long : NoLong
    pub no_ambiguous : NoAmbiguous
    pub not_much : IsMuch → ⊥

  -- this is the text, within the limits
  pub record IsText (t : List ℕ) : Type 0 where
    pub text : t ≡ written_text db options w
    pub no_long_proof : HasLongProof → ⊥
    pub not_large : IsLarge → ⊥

  -- this is the sheet, its proof and its text, within the limits
  pub record IsPrinted (p : Printed) : Type 0 where
    pub sheet : p.sheet ≡ written_sheet db options w
    pub proof : p.proof ≡ written_proof db options w
    pub text_is : IsText p.text

-- ---- what is written of a draft

-- of these items this is written over the database of some text, and no formula is too long
pub record IsMade (d : Opened) (options : Options) (place : ℕ) (items : List DraftItem) (database text : List ℕ) (w : Writing) : Type 0 where
  pub opened : IsOpened options.kinds database d
  pub writes : Writes (book options.kinds database d) text options w
  pub fit : NumbersFit w.names
  pub place_is : w.bound.place ≡ place
  pub items_are : w.items ≡ items_in d items
  pub short : NoLong (book options.kinds database d) options w

-- a fact of all that is written of these items
abbrev pub ForMade : Opened → ℕ → List DraftItem → (Database → Options → Writing → Type 0) → Type 0
ForMade d place items P = (options : Options) (database text : List ℕ) (w : Writing) → IsMade d options place items database text w → P (book options.kinds database d) options w

-- this is written of this worksheet and these items
pub record IsMadeOf (d : Opened) (options : Options) (sheet : Sheet) (bound : Bound) (items : List DraftItem) (database text : List ℕ) (w : Writing) : Type 0 where
  pub made : IsMade d options bound.place items database text w
  pub read_is : w.read ≡ sheet
  pub bound_is : w.bound ≡ bound

-- a fact of all that is written of this worksheet and these items
abbrev pub ForMadeOf : Opened → Options → Sheet → Bound → List DraftItem → (Database → Writing → Type 0) → Type 0
ForMadeOf d options sheet bound items P = (database text : List ℕ) (w : Writing) → IsMadeOf d options sheet bound items database text w → P (book options.kinds database d) w

-- ---- the steps

abbrev pub IsSmall : Opened → ℕ → List DraftItem → Type 0
IsSmall d place items = ForMade d place items (λ db options w. IsMuch db options w → ⊥)

-- no step has two trees, and the work size is within the limit
pub record AreChecked (d : Opened) (place : ℕ) (items : List DraftItem) : Type 0 where
  pub no_ambiguous : ForMade d place items (λ db options w. NoAmbiguous db options w)
  pub small : IsSmall d place items

-- the first fault of all that is written of these items
abbrev pub IsStepFault : Opened → ℕ → List DraftItem → UnifyFault → Type 0
IsStepFault d place items f = IfSome (refusal_of f) (λ r. ForMade d place items (λ db options w. IsLate db options w r))

-- so it is where no formula has two trees
abbrev pub IsSizeFault : Opened → ℕ → List DraftItem → UnifyFault → Type 0
IsSizeFault d place items f = IfSome (refusal_of f) (λ r. ForMade d place items (λ db options w. NoAmbiguous db options w → IsLate db options w r))

-- ---- the proof

module _ (db : Database) (options : Options) (sheet : Sheet) (es : List WrittenStep) where
  -- the proof of a finished worksheet with these steps; none of another
  abbrev pub proof_in : Bool → Option (List ℕ)
  proof_in finished = if finished then Some (proof_text db options.style (theorem_of db sheet) es) else None

  abbrev pub count_in : ℕ
  count_in = length (postorder (qed_proof db (theorem_of db sheet) es))

  abbrev pub HasLongProofIn : Bool → Type 0
  HasLongProofIn finished = (finished ≡ true) × (options.style ≡ style.Normal) × (most_proof_labels < count_in)

  -- this is the proof, within the limit
  pub record IsProof (finished : Bool) (proof : Option (List ℕ)) : Type 0 where
    pub proof_is : proof ≡ proof_in finished
    pub no_long_proof : HasLongProofIn finished → ⊥

  -- the proof is too long
  pub record IsLongProof (finished : Bool) (r : Refusal) : Type 0 where
    pub is_long : HasLongProofIn finished
    pub told : r ≡ proof_too_long (told_number count_in)

-- a fact of the database of each text
abbrev pub ForBooks : Opened → Options → (Database → Type 0) → Type 0
ForBooks d options P = (database : List ℕ) → IsOpened options.kinds database d → P (book options.kinds database d)

abbrev pub IsProofFault : Opened → Options → Sheet → List WrittenStep → Bool → UnifyFault → Type 0
IsProofFault d options sheet es finished f = IfSome (refusal_of f) (λ r. ForBooks d options (λ db. IsLongProof db options sheet es finished r))

-- ---- the text

-- this is the text of a worksheet with its proof, within the limit
pub record IsLaidOut (sheet : Sheet) (proof : Option (List ℕ)) (t : List ℕ) : Type 0 where
  pub text : t ≡ layout sheet proof
  pub not_large : most_sheet_bytes < length (layout sheet proof) → ⊥

-- this is the worksheet with its proof as it is printed
pub record IsPrintedWith (sheet : Sheet) (proof : Option (List ℕ)) (p : Printed) : Type 0 where
  pub sheet_is : p.sheet ≡ sheet
  pub proof_is : p.proof ≡ proof
  pub laid_out : IsLaidOut sheet proof p.text

-- the text is too large
pub record IsLargeText (sheet : Sheet) (proof : Option (List ℕ)) (r : Refusal) : Type 0 where
  pub is_large : most_sheet_bytes < length (layout sheet proof)
  pub told : r ≡ too_large (told_number (length (layout sheet proof)))

abbrev pub IsLargeFault : Sheet → Option (List ℕ) → UnifyFault → Type 0
IsLargeFault sheet proof f = IfSome (refusal_of f) (IsLargeText sheet proof)

-- ---- a worksheet and its proof

module _ (db : Database) (options : Options) (sheet : Sheet) (es : List WrittenStep) (finished : Bool) where
  abbrev pub whole_text : List ℕ
  whole_text = layout sheet (proof_in db options sheet es finished)

  -- this is the text of the worksheet with its proof, within the limits
  pub record IsTextIn (t : List ℕ) : Type 0 where
    pub text : t ≡ whole_text
    pub no_long_proof : HasLongProofIn db options sheet es finished → ⊥
    pub not_large : most_sheet_bytes < length whole_text → ⊥

  -- this is the worksheet with its proof as it is printed, within the limits
  pub record IsPrintedIn (p : Printed) : Type 0 where
    pub sheet_is : p.sheet ≡ sheet
    pub proof_is : p.proof ≡ proof_in db options sheet es finished
    pub text_in : IsTextIn p.text

  -- its proof is too long; or else its text is
  pub data EndFault : Refusal → Type 0 where
    proof : HasLongProofIn db options sheet es finished → EndFault (proof_too_long (told_number (count_in db options sheet es)))
    large : (HasLongProofIn db options sheet es finished → ⊥) → most_sheet_bytes < length whole_text → EndFault (too_large (told_number (length whole_text)))

abbrev pub IsEndFault : Opened → Options → Sheet → List WrittenStep → Bool → UnifyFault → Type 0
IsEndFault d options sheet es finished f = IfSome (refusal_of f) (λ r. ForBooks d options (λ db. EndFault db options sheet es finished r))

-- this is the first fault, where the steps have none
abbrev pub IsTextFault : Opened → Options → Sheet → Bound → List DraftItem → Bool → UnifyFault → Type 0
IsTextFault d options sheet bound items finished f =
    IfSome (refusal_of f) (λ r. ForMadeOf d options sheet bound items (λ db w. w.finished ≡ finished → HasSoundSteps db options w → IsLate db options w r))

-- ---- the report

-- this is the report on the steps, and whether they are finished
pub record IsReported (d : Opened) (options : Options) (bound : Bound) (items : List DraftItem) (report : List ReportLine) (finished : Bool) : Type 0 where
  pub report_is : ForBooks d options (λ _. report ≡ map (report_of options.dv bound.pairs) (steps_in (items_in d items)))
  pub ends : ForBooks d options (λ _. PlacesAreEarlier (steps_in (items_in d items)) → (IsTrue finished ↔ Finished options.dv bound.pairs (steps_in (items_in d items))))

-- ---- what came of the worksheet

-- the given pairs and the trees of the steps
pub record IsKept (bound : Bound) (items : List DraftItem) (k : Kept) : Type 0 where
  pub given : k.given ≡ bound.pairs
  pub trees_are : k.trees ≡ map (λ (s : DraftStep). s.tree) (drafts_in items)

abbrev pub outcome_from : Bound → Printed → Kept → List ReportLine → Bool → Outcome
outcome_from bound p k report finished = record {
  place = bound.place;
  existing = bound.existing;
  sheet = p.sheet;
  proof = p.proof;
  text = p.text;
  report = report;
  given = k.given;
  trees = k.trees;
  finished = finished;
}

-- ---- what is told of the fault of a proof

abbrev pub of_proof : ProofFault → UnifyFault
of_proof (told.TooLong n) = faults.ProofTooLong n
of_proof told.Memory = faults.Memory
