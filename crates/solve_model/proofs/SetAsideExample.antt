-- A step that is set aside between two that are accepted:
-- `1::ax-1 |- ( ph -> &W1 )`, `2:1,1:ax-mp |- &W2`, `3::ax-1 |- ( &W2 -> ( ps -> &W2 ) )`, `qed:: |- ( ph -> ps )`.
use Rattle.std.specs.Prelude.{◌≡◌, ◌==◌, ℕ, zero, suc, if◌then◌else◌, List, [], ◌∷◌, take, map, Some, None, slice_get, codes, refl}
use Rattle.std.proofs.Common.{sym, subst, ◌∙◌, inl}
use Rattle.mm_base.specs.declared.tree.Tree.TheVariants.{Var, Work}
use Rattle.mm_base.proofs.TreeFacts.{same_node, var_is_no_node}
use Rattle.mm_model.specs.Names.{sym as symbol}
use Rattle.mm_model.proofs.TypedLaws.{code-Var, code-Work, typed-Var, typed-Work}
use Rattle.sheet_text.specs.declared.sheet.Given.TheVariants as given
use Rattle.solve_model.specs.declared.bound.Bound.{Bound}
use Rattle.solve_model.specs.declared.bound.BoundStep.{BoundStep}
use Rattle.solve_model.specs.declared.verdict.Verdict.TheVariants as verdict
use Rattle.solve_model.specs.Bound.{standing}
use Rattle.solve_model.specs.Solutions.{Unknown, named, blank, copy, Valuation, Asked, IsUnknown, IsValuation, Solves, unknown_code}
use Rattle.solve_model.specs.Verdicts.{Judgement, accepted, stands, asked, accepted_in, verdict_of, FitsIn, IsJudgement, AreJudged}
use Rattle.solve_model.specs.BoundExamples.{step, bound}
use Rattle.solve_model.specs.Example.{P, wff, ph, ps, ch, wi, ax_mp, ax_1}
use Rattle.solve_model.proofs.TreeLaws.{replaces}
use Rattle.solve_model.proofs.ExampleTrees.{IsFormula, IsOf, implication, either, guarded, guarded_is}

abbrev first : BoundStep
first = step (codes "1") [] (Some (codes "ax-1")) (Some (wi ph (Work wff 1)))

abbrev second : BoundStep
second = step (codes "2") (given.Step 0 ∷ given.Step 0 ∷ []) (Some (codes "ax-mp")) (Some (Work wff 2))

abbrev third : BoundStep
third = step (codes "3") [] (Some (codes "ax-1")) (Some (wi (Work wff 2) (wi ps (Work wff 2))))

abbrev last : BoundStep
last = step (codes "qed") [] None (Some (wi ph ps))

abbrev sheet : Bound
sheet = bound (first ∷ second ∷ third ∷ last ∷ [])

abbrev one : Asked
one = asked 0 ax_1 []

abbrev other : Asked
other = asked 2 ax_1 []

abbrev judgements : List Judgement
judgements = accepted one ∷ stands verdict.NoFit ∷ accepted other ∷ stands verdict.NoRef ∷ []

-- ---- the first and the third are solved by `&W1` as ( ch -> ph ) and `&W2` as itself

abbrev value : Valuation
value (named c n) = guarded c (if n == 1 then wi ch ph else Work wff n)
value (blank i) = ph
value (copy i s c) = guarded c (if i == 0 then (if s.0 == 6 then ph else ch) else (if s.0 == 6 then Work wff 2 else ps))

variable : (n : ℕ) → IsFormula (Var (symbol n) wff)
variable n = record { code = code-Var (symbol n) wff; typed = typed-Var P.rows 14 (symbol n) wff }

work_variable : (n : ℕ) → IsFormula (Work wff n)
work_variable n = record { code = code-Work wff n; typed = typed-Work P.rows 14 wff n }

value_is : (u : Unknown) → IsOf (unknown_code P u) (value u)
value_is (named c n) = guarded_is c _ (either (n == 1) _ _ (implication ch ph (variable 8) (variable 6)) (work_variable n))
value_is (blank i) = let p = variable 6 in record { code = p.code; typed = p.typed }
value_is (copy i s c) = guarded_is c _ (either (i == 0) _ _ (either (s.0 == 6) _ _ (variable 6) (variable 8)) (either (s.0 == 6) _ _ (work_variable 2) (variable 7)))

is_valuation : (On : Unknown → Type 0) → IsValuation P 14 On value
is_valuation On = record { code = λ u on. (value_is u).code; typed = λ u on. (value_is u).typed }

one_solved : Solves sheet value one
one_solved = record { conclusion = simp replaces refl; places = tt }

other_solved : Solves sheet value other
other_solved = record { conclusion = simp replaces refl; places = tt }

one_fits : FitsIn P sheet [] 0 ax_1 []
one_fits = record { value = value; is_valuation = is_valuation (IsUnknown sheet (one ∷ [])); solves = (one_solved, tt) }

other_fits : FitsIn P sheet (one ∷ []) 2 ax_1 []
other_fits = record { value = value; is_valuation = is_valuation (IsUnknown sheet (one ∷ other ∷ [])); solves = (one_solved, (other_solved, tt)) }

-- ---- the second is not: ph would be an implication

second_fits_not : FitsIn P sheet (one ∷ []) 1 ax_mp (given.Step 0 ∷ given.Step 0 ∷ []) → ⊥
second_fits_not s =
    let v = s.value in
    let places = (s.solves.1.0).places in
    let min : v (copy 1 (symbol 6) wff) ≡ wi ph (v (named wff 1)) = simp replaces at places.0 in
    let maj : wi (v (copy 1 (symbol 6) wff)) (v (copy 1 (symbol 7) wff)) ≡ wi ph (v (named wff 1)) = simp replaces at places.1.0 in
    let both = (same_node _ _ _ _ _ _ maj).children in
    let left : v (copy 1 (symbol 6) wff) ≡ ph = cc in
    var_is_no_node _ _ _ _ _ (sym left ∙ min)

-- ---- the four judgements

each : (i : ℕ) (s : BoundStep) (o : Judgement) → slice_get sheet.steps i ≡ Some s → slice_get judgements i ≡ Some o
    → IsJudgement P sheet (accepted_in (take i judgements)) i s (standing P 14 s) o
each zero s o e f = let a : first ≡ s = cc in let b : accepted one ≡ o = cc in
    subst (λ t. IsJudgement P sheet [] 0 t (standing P 14 t) o) a (subst (λ q. IsJudgement P sheet [] 0 first (standing P 14 first) q) b (IsJudgement.fits {a = ax_1} (inl (refl, one_fits))))
each (suc zero) s o e f = let a : second ≡ s = cc in let b : stands verdict.NoFit ≡ o = cc in
    subst (λ t. IsJudgement P sheet (one ∷ []) 1 t (standing P 14 t) o) a
    (subst (λ q. IsJudgement P sheet (one ∷ []) 1 second (standing P 14 second) q) b
    (IsJudgement.no_fit {a = ax_mp} (second_fits_not, (second_fits_not, tt))))
each (suc (suc zero)) s o e f = let a : third ≡ s = cc in let b : accepted other ≡ o = cc in
    subst (λ t. IsJudgement P sheet (one ∷ []) 2 t (standing P 14 t) o) a
    (subst (λ q. IsJudgement P sheet (one ∷ []) 2 third (standing P 14 third) q) b (IsJudgement.fits {a = ax_1} (inl (refl, other_fits))))
each (suc (suc (suc zero))) s o e f = let a : last ≡ s = cc in let b : stands verdict.NoRef ≡ o = cc in
    subst (λ t. IsJudgement P sheet (one ∷ other ∷ []) 3 t (standing P 14 t) o) a (subst (λ q. IsJudgement P sheet (one ∷ other ∷ []) 3 last (standing P 14 last) q) b IsJudgement.other)
each (suc (suc (suc (suc i)))) s o e f = absurd (cc)

pub are_judged : AreJudged P sheet judgements
are_judged = record { count = refl; each = each }

pub verdicts : map verdict_of judgements ≡ verdict.Fits ∷ verdict.NoFit ∷ verdict.Fits ∷ verdict.NoRef ∷ []
verdicts = refl
