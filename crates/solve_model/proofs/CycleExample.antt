-- A cycle: a step from `&W1` and `&W1` by modus ponens. No valuation solves it, in either order of its places, and so it is set aside.
use Rattle.std.specs.Prelude.{◌≡◌, ◌+◌, [], ◌∷◌, sum, Some, codes}
use Rattle.std.proofs.Common.{sym, ap, ◌∙◌, arith}
use Rattle.mm_base.specs.declared.tree.Tree.{Tree}
use Rattle.mm_base.specs.declared.tree.Tree.TheVariants.{Work}
use Rattle.mm_model.specs.Names.{label, sym as symbol}
use Rattle.mm_model.specs.Sizes.{nodes}
use Rattle.mm_model.proofs.SizeLaws.{nodes-Node}
use Rattle.sheet_text.specs.declared.sheet.Given.TheVariants as given
use Rattle.solve_model.specs.declared.bound.Bound.{Bound}
use Rattle.solve_model.specs.declared.bound.BoundStep.{BoundStep}
use Rattle.solve_model.specs.declared.verdict.Verdict.TheVariants as verdict
use Rattle.solve_model.specs.Bound.{candidate}
use Rattle.solve_model.specs.Solutions.{named, copy}
use Rattle.solve_model.specs.Verdicts.{FitsIn, IsJudgement, stands}
use Rattle.solve_model.specs.BoundExamples.{hypothesis, step, bound}
use Rattle.solve_model.specs.Example.{P, wff, ps, wi, ax_mp}
use Rattle.solve_model.proofs.TreeLaws.{replaces}

abbrev qed : BoundStep
qed = step (codes "qed") (given.Step 0 ∷ given.Step 0 ∷ []) (Some (codes "ax-mp")) (Some ps)

abbrev cycle : Bound
cycle = bound (hypothesis (codes "1") (codes "c.1") (Work wff 1) ∷ qed ∷ [])

-- no tree is an implication from itself
no_cycle : (t u : Tree) → t ≡ wi t u → ⊥
no_cycle t u e =
    let size : nodes t ≡ sum (nodes t ∷ nodes u ∷ []) + 1 = ap nodes e ∙ nodes-Node (label 4) wff (t ∷ u ∷ []) in
    omega (arith, size)

fits_not : FitsIn P cycle [] 1 ax_mp (given.Step 0 ∷ given.Step 0 ∷ []) → ⊥
fits_not s =
    let v = s.value in
    let places = (s.solves.0).places in
    let min : v (copy 1 (symbol 6) wff) ≡ v (named wff 1) = simp replaces at places.0 in
    let maj : wi (v (copy 1 (symbol 6) wff)) (v (copy 1 (symbol 7) wff)) ≡ v (named wff 1) = simp replaces at places.1.0 in
    no_cycle (v (copy 1 (symbol 6) wff)) (v (copy 1 (symbol 7) wff)) (min ∙ sym maj)

pub set_aside : IsJudgement P cycle [] 1 qed (candidate ax_mp) (stands verdict.NoFit)
set_aside = IsJudgement.no_fit {a = ax_mp} (fits_not, (fits_not, tt))
