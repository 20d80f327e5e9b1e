-- A worksheet from its written steps to the bytes, and once more, computed.
use Rattle.std.specs.Prelude.{◌≡◌, ℕ, zero, suc, true, List, [], ◌∷◌, ◌++◌, flat_map, Some, slice_get, codes, refl}
use Rattle.std.proofs.Common.{subst}
use Rattle.mm_model.proofs.TextLaws.{texts}
use Rattle.proof_model.specs.declared.theorem.Theorem.{Theorem}
use Rattle.proof_model.specs.Codes.{normal_code, code_of_proof}
use Rattle.proof_model.specs.Machine.{Accepts}
use Rattle.proof_model.specs.ProofCode.{spelled}
use Rattle.proof_model.specs.Proofs.{Proof, by, none, proofs, postorder}
use Rattle.sheet_text.specs.declared.sheet.Sheet.{Sheet}
use Rattle.sheet_text.specs.Layout.{ended, layout, spaced}
use Rattle.sheet_text.specs.Reads.{unnumbered}
use Rattle.sheet_text.specs.ReadsExamples.{text}
use Rattle.mm_model.proofs.SizeLaws.{node_counts}
use Rattle.solve_model.specs.Bound.{work_size}
use Rattle.solve_model.specs.Binding.{theorem_of}
use Rattle.solve_model.specs.Example.{P}
use Rattle.solve_model.specs.ExampleSheets.{sheet, sheet_text}
use Rattle.solve_model.proofs.TreeLaws.{replaces, leaves}
use Rattle.written_model.specs.declared.options.DvMode.TheVariants as dv
use Rattle.written_model.specs.WrittenSteps.{WrittenStep}
use Rattle.written_model.specs.ProofTrees.{Finished, is_complete}
use Rattle.written_model.specs.Found.{is_ground}
use Rattle.written_model.specs.Written.{written_sheet, written_log, qed_proof, frames_of, after_naming, label_count, written_bound}
use Rattle.written_model.specs.ProvesItself.{proof_tokens}
use Rattle.written_model.specs.Again.{again}
use Rattle.written_model.specs.WrittenExample.{compressed, writing, first, found, last}
use Rattle.written_model.proofs.SyntaxProofs.{syntax_proofs}

-- what is written, without its proof
abbrev sheet_lines : List (List ℕ)
sheet_lines = codes "h1::u.1 |- ph" ∷ codes "d1::ax-1 |- ( ph -> ( ps -> ph ) )" ∷ codes "qed:1,d1:ax-mp |- ( ps -> ph )" ∷ []

abbrev said : Sheet
said = unnumbered (sheet (codes "u") sheet_lines)

pub as_sheet : written_sheet P compressed writing ≡ said
as_sheet = simp texts refl

abbrev theorem : Theorem
theorem = theorem_of P said

pub mandatory : theorem.mandatory ≡ codes "wph" ∷ codes "wps" ∷ codes "u.1" ∷ []
mandatory = refl

abbrev label : List ℕ → Proof
label name = by name none

abbrev proof : Proof
proof = by (codes "ax-mp") (proofs (label (codes "wph") ∷ by (codes "wi") (proofs (label (codes "wps") ∷ label (codes "wph") ∷ [])) ∷ label (codes "u.1")
    ∷ by (codes "ax-1") (proofs (label (codes "wph") ∷ label (codes "wps") ∷ [])) ∷ []))

pub proof_of_qed : qed_proof P theorem (first ∷ found ∷ last ∷ []) ≡ proof
proof_of_qed = simp syntax_proofs refl

-- ---- with a compressed proof

abbrev compressed_text : List ℕ
compressed_text = sheet_text (codes "u") (codes "?") (sheet_lines ++ codes "$= ( wi ax-1 ax-mp ) ABADCABEF $." ∷ [])

pub laid : layout said (Some (spelled 3 (code_of_proof theorem.mandatory proof))) ≡ compressed_text
laid = refl

pub accepted : Accepts (frames_of P) theorem (code_of_proof theorem.mandatory proof)
accepted = refl

pub tokens : proof_tokens compressed_text ≡ Some (codes "(" ∷ codes "wi" ∷ codes "ax-1" ∷ codes "ax-mp" ∷ codes ")" ∷ codes "ABADCABEF" ∷ [])
tokens = refl

-- ---- with a normal one

abbrev normal_text : List ℕ
normal_text = sheet_text (codes "u") (codes "?") (sheet_lines ++ codes "$= wph wps wph wi u.1 wph wps ax-1 ax-mp $." ∷ [])

pub laid_normal : layout said (Some (spaced (postorder proof))) ≡ normal_text
laid_normal = refl

pub accepted_normal : Accepts (frames_of P) theorem (normal_code theorem.mandatory (postorder proof))
accepted_normal = refl

-- ---- the report

pub log : flat_map ended (written_log P compressed writing) ≡ text (codes "1 hyp" ∷ codes "d1 found ax-1" ∷ codes "qed fits ax-mp" ∷ codes "finished" ∷ [])
log = refl

-- ---- it is finished

abbrev steps : List WrittenStep
steps = first ∷ found ∷ last ∷ []

abbrev IsReady : WrittenStep → Type 0
IsReady e = (is_ground e.tree ≡ true) × (is_complete dv.Add [] e ≡ true)

ready : (i : ℕ) (e : WrittenStep) → slice_get steps i ≡ Some e → IsReady e
ready zero e h = let same : first ≡ e = cc in subst IsReady same (simp leaves refl, refl)
ready (suc zero) e h = let same : found ≡ e = cc in subst IsReady same (simp leaves refl, refl)
ready (suc (suc zero)) e h = let same : last ≡ e = cc in subst IsReady same (simp leaves refl, refl)
ready (suc (suc (suc i))) e h = absurd (cc)

pub finished : Finished dv.Add [] steps
finished = record { hyps = λ i e h is. (ready i e h).0; no_work = λ i e h b. (ready i e h).0; complete = λ i e h b. (ready i e h).1 }

-- ---- once more nothing is filled and nothing named

pub nothing_made : after_naming P compressed (again P compressed writing) ≡ (again P compressed writing).items
nothing_made = simp replaces refl

-- ---- the numbers that are looked at before it is written: labels, work size, bytes

pub labels : label_count P compressed writing ≡ 9
labels = simp (texts, syntax_proofs) refl

-- 1, the 5 of the derived step and the 5 of ax-1, the 3 of the last step and the 5 of ax-mp
pub size : work_size P (written_bound P compressed writing) ≡ 19
size = simp node_counts refl
