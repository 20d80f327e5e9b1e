-- A worksheet is finished though a step on which `qed` does not rest has a work variable: `1:: |- &W1` before `qed::ax-1`.
use Rattle.std.specs.Prelude.{◌≡◌, ℕ, zero, suc, true, false, List, [], ◌∷◌, length, Contains, Some, None, slice_get, codes, refl}
use Rattle.std.proofs.Common.{sym, ap, subst, arith, ◌∙◌}
use Rattle.mm_base.specs.declared.tree.Tree.TheVariants.{Work}
use Rattle.sheet_text.specs.declared.sheet.Given.{Given}
use Rattle.sheet_text.specs.declared.sheet.Given.TheVariants as given
use Rattle.solve_model.specs.Example.{wff, ph, ps, wi, ax_1}
use Rattle.solve_model.proofs.TreeLaws.{leaves}
use Rattle.written_model.specs.declared.options.DvMode.TheVariants as dv
use Rattle.written_model.specs.declared.report.ReportVerdict.TheVariants as report
use Rattle.written_model.specs.WrittenSteps.{WrittenStep}
use Rattle.written_model.specs.Found.{is_ground}
use Rattle.written_model.specs.ProofTrees.{Below, at_qed, listed, Finished, is_complete}
use Rattle.written_model.specs.WrittenExample.{written, used, first, found, last}

-- ---- a step that `qed` lists is below it

pub second_is_below : Below (first ∷ found ∷ last ∷ []) 1
second_is_below = listed 2 (at_qed 2 refl refl) refl (1, omega arith, refl)

-- ---- a step that it does not list is not

abbrev outside : WrittenStep
outside = written false (codes "1") [] None (Work wff 1) report.NoRef None

abbrev qed : WrittenStep
qed = written false (codes "qed") [] (Some (codes "ax-1")) (wi ph (wi ps ph)) report.Fits (used ax_1 (ph ∷ ps ∷ []))

abbrev steps : List WrittenStep
steps = outside ∷ qed ∷ []

named_qed : (i : ℕ) (e : WrittenStep) → slice_get steps i ≡ Some e → e.name ≡ codes "qed" → i ≡ 1
named_qed zero e h n = let same : outside ≡ e = cc in let lengths : 1 ≡ 3 = ap (λ (f : WrittenStep). length f.name) same ∙ ap length n in absurd (omega (arith, lengths))
named_qed (suc zero) e h n = refl
named_qed (suc (suc i)) e h n = absurd (cc)

lists_none : (i : ℕ) (e : WrittenStep) (g : Given) → i ≡ 1 → slice_get steps i ≡ Some e → Contains e.places g → ⊥
lists_none i e g is h c =
    let at : Some qed ≡ Some e = subst (λ n. slice_get steps n ≡ Some e) is h in
    let same : qed ≡ e = cc in
    let none : Contains [] g = subst (λ (f : WrittenStep). Contains f.places g) (sym same) c in
    omega (arith, none.1)

only_qed : (i : ℕ) → Below steps i → i ≡ 1
only_qed i (at_qed j h n) = named_qed j _ h n
only_qed k (listed i b h c) = absurd (lists_none i _ (given.Step k) (only_qed i b) h c)

-- ---- and it is finished

no_hyp : (i : ℕ) (e : WrittenStep) → slice_get steps i ≡ Some e → e.hyp ≡ true → ⊥
no_hyp zero e h is = let same : outside ≡ e = cc in let no : false ≡ true = ap (λ (f : WrittenStep). f.hyp) same ∙ is in cc
no_hyp (suc zero) e h is = let same : qed ≡ e = cc in let no : false ≡ true = ap (λ (f : WrittenStep). f.hyp) same ∙ is in cc
no_hyp (suc (suc i)) e h is = cc

abbrev IsReady : WrittenStep → Type 0
IsReady e = (is_ground e.tree ≡ true) × (is_complete dv.Add [] e ≡ true)

ready : (i : ℕ) (e : WrittenStep) → i ≡ 1 → slice_get steps i ≡ Some e → IsReady e
ready i e is h =
    let at : Some qed ≡ Some e = subst (λ n. slice_get steps n ≡ Some e) is h in
    let same : qed ≡ e = cc in
    subst IsReady same (simp leaves refl, refl)

pub finished : Finished dv.Add [] steps
finished = record {
  hyps = λ i e h is. absurd (no_hyp i e h is);
  no_work = λ i e h b. (ready i e (only_qed i b) h).0;
  complete = λ i e h b. (ready i e (only_qed i b) h).1;
}
