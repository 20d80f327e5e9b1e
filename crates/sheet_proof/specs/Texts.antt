-- The text of a proof in a style. This is part of the proof, and not of the claim.
use Rattle.std.specs.Prelude.{◌≡◌, ◌<◌, ℕ, List, length, flat_map}
use Rattle.std.specs.Prelude.{◌∷◌}
use Rattle.mm_base.specs.declared.kinds.Kinds.{Kinds}
use Rattle.mm_base.specs.Limits.{most_proof_labels}
use Rattle.mm_database.specs.Opened.{Opened, IsOpened}
use Rattle.mm_model.specs.Names.{Name}
use Rattle.proof_model.specs.declared.theorem.Theorem.{Theorem}
use Rattle.proof_model.specs.Codes.{code_of_proof}
use Rattle.proof_model.specs.ProofCode.{spelled}
use Rattle.proof_model.specs.Proofs.{Proof, postorder}
use Rattle.proof_tree.specs.declared.graph.ProofNode.{ProofNode}
use Rattle.proof_tree.specs.Graphs.{label_count, root_proof}
use Rattle.sheet_text.specs.Layout.{spaced}
use Rattle.written_model.specs.declared.options.ProofStyle.{ProofStyle}
use Rattle.written_model.specs.declared.options.ProofStyle.TheVariants as style
use Rattle.written_model.specs.WrittenSteps.{WrittenStep}
use Rattle.written_model.specs.Written.{qed_proof}
use Rattle.written_steps.specs.Drafts.{book}
use Rattle.sheet_proof.specs.declared.text.ProofFault.{ProofFault}
use Rattle.sheet_proof.specs.declared.text.ProofFault.TheVariants.{TooLong, Memory}

-- texts, each behind a space
abbrev pub behind : List Name → List ℕ
behind words = flat_map (λ (w : Name). 32 ∷ w) words

abbrev pub text_in : ProofStyle → List Name → Proof → List ℕ
text_in style.Normal mandatory p = spaced (postorder p)
text_in style.Compressed mandatory p = spelled (length mandatory) (code_of_proof mandatory p)

-- the number of the labels of a normal proof that is too long
abbrev pub IsToldAs : Proof → ProofFault → Type 0
IsToldAs p (TooLong n) = (n ≡ label_count p) × (most_proof_labels < n)
IsToldAs p Memory = Unit {0}

abbrev pub IsToldIn : ProofStyle → Proof → ProofFault → Type 0
IsToldIn s p (TooLong n) = (s ≡ style.Normal) × (n ≡ label_count p) × (most_proof_labels < n)
IsToldIn s p Memory = Unit {0}

-- the graph is that of the proof of `qed`
abbrev pub IsGraphOf : Opened → Theorem → List WrittenStep → List ProofNode → Type 0
IsGraphOf d theorem es nodes = (kinds : Kinds) (text : List ℕ) → IsOpened kinds text d → root_proof nodes ≡ qed_proof (book kinds text d) theorem es
