-- The steps of a finished worksheet, of which the last has a proof.
use Rattle.std.specs.Prelude.{◌≡◌, ◌<◌, ℕ, true, List, [], ◌∷◌, ◌++◌, length, slice_get, slice_index_or, unwrap_or, Contains, Some, None, codes}
use Rattle.mm_base.specs.declared.kinds.Kinds.{Kinds}
use Rattle.mm_base.specs.declared.symbols.Pair.{Pair}
use Rattle.mm_base.specs.Limits.{most_proof_labels}
use Rattle.mm_database.specs.Opened.{Opened, IsOpened}
use Rattle.fault_lines.specs.Refusals.{told_number}
use Rattle.proof_model.specs.declared.theorem.Theorem.{Theorem}
use Rattle.proof_model.specs.Proofs.{postorder}
use Rattle.sheet_text.specs.declared.sheet.Given.TheVariants as given
use Rattle.written_model.specs.declared.options.DvMode.{DvMode}
use Rattle.written_model.specs.declared.options.ProofStyle.{ProofStyle}
use Rattle.written_model.specs.declared.options.ProofStyle.TheVariants as style
use Rattle.written_model.specs.WrittenSteps.{Use, WrittenStep}
use Rattle.written_model.specs.ProofTrees.{Finished}
use Rattle.written_model.specs.Written.{qed_proof}
use Rattle.written_steps.specs.Drafts.{book}
use Rattle.sheet_proof.specs.declared.text.ProofFault.{ProofFault}
use Rattle.sheet_proof.specs.declared.text.ProofFault.TheVariants.{TooLong, Memory}

-- a step names earlier ones; a hypothesis has no use; and a use is of the assertion that the step refers to
pub record IsProvableStep (d : Opened) (i : ℕ) (e : WrittenStep) : Type 0 where
  pub earlier : (k : ℕ) → Contains e.places (given.Step k) → k < i
  pub no_use : e.hyp ≡ true → e.by ≡ None
  pub reference : (u : Use) → e.by ≡ Some u → unwrap_or e.reference [] ≡ slice_index_or d.contents.labels u.assertion.label.0 []

-- they are finished, and the last is `qed`
pub record IsProvable (d : Opened) (es : List WrittenStep) : Type 0 where
  pub mode : DvMode
  pub allowed : List Pair
  pub finished : Finished mode allowed es
  pub steps : (i : ℕ) (e : WrittenStep) → slice_get es i ≡ Some e → IsProvableStep d i e
  pub front : List WrittenStep
  pub last : WrittenStep
  pub whole : es ≡ front ++ last ∷ []
  pub named : last.name ≡ codes "qed"

-- a normal proof has so many labels, over the limit; nothing is said of want of memory
pub record IsTooLong (d : Opened) (s : ProofStyle) (theorem : Theorem) (es : List WrittenStep) (n : ℕ) : Type 0 where
  pub style_is : s ≡ style.Normal
  pub count : (kinds : Kinds) (text : List ℕ) → IsOpened kinds text d → n ≡ told_number (length (postorder (qed_proof (book kinds text d) theorem es)))
  pub over : (kinds : Kinds) (text : List ℕ) → IsOpened kinds text d → most_proof_labels < length (postorder (qed_proof (book kinds text d) theorem es))

abbrev pub IsToldOf : Opened → ProofStyle → Theorem → List WrittenStep → ProofFault → Type 0
IsToldOf d s theorem es (TooLong n) = IsTooLong d s theorem es n
IsToldOf d s theorem es Memory = Unit {0}

-- a normal proof has no more labels than the limit
abbrev pub HasFewLabels : Opened → ProofStyle → Theorem → List WrittenStep → Type 0
HasFewLabels d s theorem es = s ≡ style.Normal → (kinds : Kinds) (text : List ℕ) → IsOpened kinds text d → (most_proof_labels < length (postorder (qed_proof (book kinds text d) theorem es)) → ⊥)
