-- The theorem of the smallest finished worksheet put into the database with one assertion.
use Rattle.std.specs.Prelude.{◌≡◌, ◌≤◌, ◌^◌, ℕ, List, [], ◌∷◌, ◌++◌, length, codes, refl}
use Rattle.std.proofs.Common.{sym, ap, subst, arith}
use Rattle.mm_model.proofs.TextLaws.{texts}
use Rattle.proof_model.specs.Proofs.{by, none, proofs, postorder}
use Rattle.sheet_text.specs.declared.sheet.Sheet.{Sheet}
use Rattle.sheet_text.specs.Layout.{spaced}
use Rattle.sheet_text.specs.Reads.{unnumbered}
use Rattle.sheet_text.specs.ReadsExamples.{text}
use Rattle.solve_model.specs.Binding.{theorem_of}
use Rattle.written_model.specs.declared.options.ProofStyle.TheVariants as style
use Rattle.written_model.specs.WholeExample.{database_text, db, options, read_text, numbered, ps, fitting, writing}
use Rattle.written_model.specs.Written.{written_sheet, proof_text, qed_proof, formula_tokens}
use Rattle.written_model.proofs.SyntaxProofs.{syntax_proofs}
use Rattle.written_model.proofs.WholeExample.{answers}
use Rattle.install_model.specs.declared.install.NewTheorem.{NewTheorem}
use Rattle.install_model.specs.Installed.{new_theorem, installed, installed_text}
use Rattle.install_model.specs.InstallAnswers.{Installs, is_put_in, put_in}

-- ---- what is put in

abbrev theorem_with : List (List ℕ) → List ℕ → NewTheorem
theorem_with formula proof = record { name = codes "t"; pairs = []; hyps = []; formula = formula; proof = proof }

abbrev t : NewTheorem
t = theorem_with (codes "|-" ∷ codes "ps" ∷ []) (codes "wps any")

written_sheet_is : written_sheet db options writing ≡ unnumbered numbered
written_sheet_is = simp texts refl

proof_is : qed_proof db (theorem_of db (unnumbered numbered)) (fitting ∷ []) ≡ by (codes "any") (proofs (by (codes "wps") none ∷ []))
proof_is = simp syntax_proofs refl

proof_of : (s : Sheet) → s ≡ unnumbered numbered → proof_text db style.Normal (theorem_of db s) (fitting ∷ []) ≡ codes "wps any"
proof_of s e = rw e (subst (λ p. spaced (postorder p) ≡ codes "wps any") (sym proof_is) refl)

formula_is : formula_tokens db ps ≡ codes "|-" ∷ codes "ps" ∷ []
formula_is = simp texts refl

theorem_is : new_theorem db options writing ≡ t
theorem_is =
    join (formula_tokens db ps) (proof_text db style.Normal (theorem_of db (written_sheet db options writing)) (fitting ∷ [])) formula_is
    (proof_of (written_sheet db options writing) written_sheet_is)
  where
    join : (f : List (List ℕ)) (p : List ℕ) → f ≡ codes "|-" ∷ codes "ps" ∷ [] → p ≡ codes "wps any" → theorem_with f p ≡ t
    join f p e h = rw (e, h) refl

-- ---- the text

abbrev text_with_theorem : List ℕ
text_with_theorem = database_text ++ 10 ∷ text (codes "${" ∷ codes "t $p |- ps $= wps any $." ∷ codes "$}" ∷ [])

text_is : installed_text db options writing database_text ≡ text_with_theorem
text_is = subst (λ u. installed database_text 5 u ≡ text_with_theorem) (sym theorem_is) refl

length_is : length text_with_theorem ≡ 106
length_is = refl

short : length (installed_text db options writing database_text) ≤ 2 ^ 28
short = let is = ap (λ bytes. length bytes) text_is in let number = length_is in omega (arith, is, number)

pub installs : Installs db options database_text read_text (put_in writing text_with_theorem)
installs = subst (λ whole. Installs db options database_text read_text (put_in writing whole)) text_is (is_put_in answers refl refl short)
