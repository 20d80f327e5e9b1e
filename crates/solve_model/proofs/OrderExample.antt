-- Hypotheses in another order: from `h1::r.1 |- ph` and `h2::r.2 |- ( ph -> ps )` the step `qed:2,1:ax-mp |- ps` is accepted as `qed:1,2`.
use Rattle.std.specs.Prelude.{◌≡◌, ◌==◌, ℕ, if◌then◌else◌, List, [], ◌∷◌, Some, codes, refl}
use Rattle.std.proofs.Common.{sym, inl, inr}
use Rattle.mm_base.specs.declared.tree.Tree.TheVariants.{Var}
use Rattle.mm_base.proofs.TreeFacts.{var_is_no_node}
use Rattle.mm_model.specs.Names.{sym as symbol}
use Rattle.mm_model.proofs.TypedLaws.{code-Var, typed-Var}
use Rattle.sheet_text.specs.declared.sheet.Given.{Given}
use Rattle.sheet_text.specs.declared.sheet.Given.TheVariants as given
use Rattle.solve_model.specs.declared.bound.Bound.{Bound}
use Rattle.solve_model.specs.declared.bound.BoundStep.{BoundStep}
use Rattle.solve_model.specs.Bound.{candidate}
use Rattle.solve_model.specs.Solutions.{Unknown, named, blank, copy, Valuation, unknown_code}
use Rattle.solve_model.specs.Verdicts.{accepted, asked, FitsIn, IsJudgement}
use Rattle.solve_model.specs.BoundExamples.{hypothesis, step, bound}
use Rattle.solve_model.specs.Example.{P, wff, ph, ps, wi, ax_mp}
use Rattle.solve_model.proofs.TreeLaws.{replaces}
use Rattle.solve_model.proofs.ExampleTrees.{IsFormula, IsOf, either, guarded, guarded_is}

abbrev listed : List Given
listed = given.Step 1 ∷ given.Step 0 ∷ []

abbrev chosen : List Given
chosen = given.Step 0 ∷ given.Step 1 ∷ []

abbrev qed : BoundStep
qed = step (codes "qed") listed (Some (codes "ax-mp")) (Some ps)

abbrev sheet : Bound
sheet = bound (hypothesis (codes "1") (codes "r.1") ph ∷ hypothesis (codes "2") (codes "r.2") (wi ph ps) ∷ qed ∷ [])

-- in the listed order ph would be an implication
listed_fits_not : FitsIn P sheet [] 2 ax_mp listed → ⊥
listed_fits_not s =
    let places = (s.solves.0).places in
    let maj : wi (s.value (copy 2 (symbol 6) wff)) (s.value (copy 2 (symbol 7) wff)) ≡ ph = simp replaces at places.1.0 in
    var_is_no_node _ _ _ _ _ (sym maj)

-- in the other one each variable is itself
abbrev value : Valuation
value (named c n) = guarded c ph
value (blank i) = ph
value (copy i s c) = guarded c (if s.0 == 6 then ph else ps)

variable : (n : ℕ) → IsFormula (Var (symbol n) wff)
variable n = record { code = code-Var (symbol n) wff; typed = typed-Var P.rows 14 (symbol n) wff }

value_is : (u : Unknown) → IsOf (unknown_code P u) (value u)
value_is (named c n) = guarded_is c ph (variable 6)
value_is (blank i) = let p = variable 6 in record { code = p.code; typed = p.typed }
value_is (copy i s c) = guarded_is c _ (either (s.0 == 6) _ _ (variable 6) (variable 7))

chosen_fits : FitsIn P sheet [] 2 ax_mp chosen
chosen_fits = record {
  value = value;
  is_valuation = record { code = λ u on. (value_is u).code; typed = λ u on. (value_is u).typed };
  solves = (record { conclusion = simp replaces refl; places = (simp replaces refl, (simp replaces refl, tt)) }, tt);
}

pub in_other_order : IsJudgement P sheet [] 2 qed (candidate ax_mp) (accepted (asked 2 ax_mp chosen))
in_other_order = IsJudgement.fits {a = ax_mp} (inr (listed_fits_not, inl (refl, chosen_fits)))
