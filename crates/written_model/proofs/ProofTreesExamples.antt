-- Proofs of trees and steps, and the report of a clash and of a lack, computed.
use Rattle.std.specs.Prelude.{◌≡◌, ℕ, false, List, [], ◌∷◌, map, Some, None, codes, refl}
use Rattle.mm_base.specs.declared.symbols.Pair.{Pair}
use Rattle.mm_base.specs.declared.tree.Tree.{Tree}
use Rattle.mm_model.specs.Names.{Name}
use Rattle.mm_model.proofs.TextLaws.{texts}
use Rattle.proof_model.specs.declared.theorem.Theorem.{Theorem}
use Rattle.proof_model.specs.Codes.{code_of_proof}
use Rattle.proof_model.specs.Machine.{Accepts}
use Rattle.proof_model.specs.ProofCode.{spelled}
use Rattle.proof_model.specs.Proofs.{Proof, by, none, proofs}
use Rattle.sheet_text.specs.declared.sheet.Given.TheVariants as given
use Rattle.solve_model.specs.Binding.{theorem_of}
use Rattle.solve_model.specs.Example.{Q, ph, x, wi, wal, cab, wceq, ax_5, eqid, drop, ph_x}
use Rattle.solve_model.specs.ExampleSheets.{sheet}
use Rattle.solve_model.proofs.TreeLaws.{leaves}
use Rattle.written_model.specs.declared.options.DvMode.{DvMode}
use Rattle.written_model.specs.declared.options.DvMode.TheVariants as dv
use Rattle.written_model.specs.declared.report.ReportVerdict.TheVariants as report
use Rattle.written_model.specs.WrittenSteps.{WrittenStep}
use Rattle.written_model.specs.Pairs.{pairs_of}
use Rattle.written_model.specs.ProofTrees.{is_complete}
use Rattle.written_model.specs.Report.{report_of, report_line}
use Rattle.written_model.specs.Written.{qed_proof, frames_of, formula_tokens}
use Rattle.written_model.specs.WrittenExample.{written, used}
use Rattle.written_model.proofs.SyntaxProofs.{syntax_proofs}

abbrev label : Name → Proof
label name = by name none

abbrev on : Name → List Proof → Proof
on name ps = by name (proofs ps)

-- ---- the children of a production stand in the order of its frame, and not of its text: `{ x | ph } = { x | ph }`

abbrev abstraction : Tree
abstraction = cab ph x

abbrev by_eqid : WrittenStep
by_eqid = written false (codes "qed") [] (Some (codes "eqid")) (wceq abstraction abstraction) report.Fits (used eqid (abstraction ∷ []))

abbrev equality : Theorem
equality = theorem_of Q (sheet (codes "abid") (codes "qed::eqid |- { x | ph } = { x | ph }" ∷ []))

abbrev equality_proof : Proof
equality_proof = on (codes "eqid") (on (codes "cab") (label (codes "wph") ∷ label (codes "vx") ∷ []) ∷ [])

pub tokens : formula_tokens Q by_eqid.tree ≡ codes "|-" ∷ codes "{" ∷ codes "x" ∷ codes "|" ∷ codes "ph" ∷ codes "}" ∷ codes "=" ∷ codes "{" ∷ codes "x" ∷ codes "|" ∷ codes "ph" ∷ codes "}" ∷ []
tokens = simp texts refl

pub proof_by_eqid : qed_proof Q equality (by_eqid ∷ []) ≡ equality_proof
proof_by_eqid = simp syntax_proofs refl

pub code_by_eqid : spelled 2 (code_of_proof equality.mandatory equality_proof) ≡ codes "( cab eqid ) ABCD"
code_by_eqid = refl

pub accepted_by_eqid : Accepts (frames_of Q) equality (code_of_proof equality.mandatory equality_proof)
accepted_by_eqid = refl

-- ---- a variable that stands in no formula of the theorem: `( ph -> ph )` by way of `( ph -> A. x ph )`

abbrev by_ax_5 : WrittenStep
by_ax_5 = written false (codes "1") [] (Some (codes "ax-5")) (wi ph (wal ph x)) report.Fits (used ax_5 (ph ∷ x ∷ []))

abbrev by_drop : WrittenStep
by_drop = written false (codes "qed") (given.Step 0 ∷ []) (Some (codes "drop")) (wi ph ph) report.Fits (used drop (ph ∷ x ∷ []))

abbrev dummy : List WrittenStep
dummy = by_ax_5 ∷ by_drop ∷ []

pub needed_pairs : pairs_of dv.Add [] dummy ≡ ph_x ∷ []
needed_pairs = simp leaves refl

pub given_pairs : pairs_of dv.Given [] dummy ≡ []
given_pairs = refl

abbrev identity : Theorem
identity = theorem_of Q (sheet (codes "dm") (codes "1::ax-5 |- ( ph -> A. x ph )" ∷ codes "qed:1:drop |- ( ph -> ph )" ∷ codes "$d ph x" ∷ []))

pub read_pairs : identity.pairs ≡ ph_x ∷ []
read_pairs = refl

abbrev dummy_proof : Proof
dummy_proof = on (codes "drop") (label (codes "wph") ∷ label (codes "vx") ∷ on (codes "ax-5") (label (codes "wph") ∷ label (codes "vx") ∷ []) ∷ [])

pub proof_by_drop : qed_proof Q identity dummy ≡ dummy_proof
proof_by_drop = simp syntax_proofs refl

pub code_by_drop : spelled 1 (code_of_proof identity.mandatory dummy_proof) ≡ codes "( vx ax-5 drop ) ABABCD"
code_by_drop = refl

pub accepted_by_drop : Accepts (frames_of Q) identity (code_of_proof identity.mandatory dummy_proof)
accepted_by_drop = refl

-- ---- lines of the report

abbrev line : DvMode → List Pair → WrittenStep → List ℕ
line mode allowed e = report_line Q (report_of mode allowed e)

-- where only the given pairs are allowed, a step that needs another one is not complete
pub needs : line dv.Given [] by_ax_5 ≡ codes "1 fits ax-5 needs ph x"
needs = simp leaves refl

pub needs_nothing : line dv.Given (ph_x ∷ []) by_ax_5 ≡ codes "1 fits ax-5"
needs_nothing = simp leaves refl

pub not_complete : is_complete dv.Given [] by_ax_5 ≡ false
not_complete = simp leaves refl

-- `( A. x ph -> A. x A. x ph )` by ax-5
abbrev clashing : WrittenStep
clashing = written false (codes "qed") [] (Some (codes "ax-5")) (wi (wal ph x) (wal (wal ph x) x)) report.Fits (used ax_5 (wal ph x ∷ x ∷ []))

pub clash : line dv.Add [] clashing ≡ codes "qed fits ax-5 clash x"
clash = simp leaves refl

pub clash_alone : line dv.Given [] clashing ≡ codes "qed fits ax-5 clash x"
clash_alone = simp leaves refl

pub clash_not_complete : is_complete dv.Add [] clashing ≡ false
clash_not_complete = simp leaves refl

pub verdicts : map (λ v. line dv.Add [] (record clashing { verdict = v; by = None }))
    (report.Found ∷ report.NoFit ∷ report.UnknownRef ∷ report.NotUsable ∷ report.TooManyHyps ∷ report.NoRef ∷ report.Hyp ∷ [])
    ≡ codes "qed found ax-5" ∷ codes "qed no fit ax-5" ∷ codes "qed unknown ax-5" ∷ codes "qed not usable ax-5" ∷ codes "qed too many hypotheses ax-5"
    ∷ codes "qed no reference" ∷ codes "qed hyp" ∷ []
verdicts = refl
