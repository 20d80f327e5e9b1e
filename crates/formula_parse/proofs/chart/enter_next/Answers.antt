use Rattle.std.proofs.Common.{◌≡◌, ℕ, Some, slice_get, sym, ◌∙◌, subst}
use Rattle.std.proofs.lemmas.Option.{none-some}
use Rattle.std.proofs.lemmas.Result.{on_ok_weaker}
use Rattle.syntax_grammar.specs.Selections.{next_const}
use Rattle.formula_parse.specs.Charts.{IsStart, Enters}
use Rattle.formula_parse.proofs.Leading.{next_entered}
use Rattle.formula_parse.proofs.chart.enter_next.Goals as goal

pub returns-in-None-clause-entered : goal.returns-in-None-clause-entered
returns-in-None-clause-entered c = λ s lead. absurd (none-some s (sym c.in-None.is ∙ c.const_at.ensures s lead))

pub returns-in-Some-clause-entered : goal.returns-in-Some-clause-entered
returns-in-Some-clause-entered c =
    let leaves = c.args.leaves.now in
    let chart = c.args.chart.now in
    let rows = c.args.g.now in
    let ys = c.enter_all.new.entries in
    on_ok_weaker c.enter_all.result
    (λ (h : (j i : ℕ) → slice_get c.rows_by_next.result.now j ≡ Some i → IsStart rows c.args.before c.args.first i → Enters leaves chart rows i c.args.place ys).
    λ s lead i r stands below is next.
    let same : s ≡ c.in-Some.sym = (let a = c.const_at.ensures s lead in let b = c.in-Some.is in cc) in
    next_entered leaves chart rows c.args.before c.args.first c.args.place c.in-Some.sym ys
    (λ j i at. h j i (subst (λ ns. slice_get ns j ≡ Some i) (sym c.rows_by_next.ensures) at))
    i r stands below is (subst (λ t. next_const r.items ≡ Some t) same next)) c.enter_all.ensures.entered
