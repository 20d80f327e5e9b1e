use Rattle.std.proofs.Common.{◌≡◌, ◌∷◌, [], ◌+◌, Some, ap, sym, ◌∙◌, subst, length, List}
use Rattle.std.proofs.lemmas.Bool.{eqb-true}
use Rattle.std.proofs.lemmas.Result.{IfOk-weaker}
use Rattle.formula_parse.specs.declared.reach.Entry.{Entry}
use Rattle.formula_parse.specs.Charts.{IsBegun, IsOnce, entry_of}
use Rattle.formula_parse.proofs.Begun.{once_none, begun_var, begun_work, begun_by, begun_const}
use Rattle.formula_parse.proofs.Leading.{begins_none}
use Rattle.formula_parse.proofs.chart.begin_entries.Goals as goal

pub returns-in-Var : goal.returns-in-Var
returns-in-Var c =
    let here = c.leaf_at.ensures ∙ ap (λ x. Some x) c.in-Var.is in
    let begun = begun_var c.args.leaves.now c.args.chart.now c.args.g.now c.args.before c.args.begin c.in-Var.field-0 c.in-Var.code (length c.as_slice.result.now) here in
    IfOk-weaker c.variable_entry.result (λ v. v ≡ entry_of (c.args.begin + 1) c.in-Var.code (length c.as_slice.result.now) ∷ [])
    (λ v. IsBegun c.args.leaves.now c.args.chart.now c.args.g.now c.args.before c.args.begin v)
    (λ v is. subst (λ (xs : List Entry). IsBegun c.args.leaves.now c.args.chart.now c.args.g.now c.args.before c.args.begin xs) (sym is) begun) c.variable_entry.ensures

pub returns-in-Work : goal.returns-in-Work
returns-in-Work c =
    let here = c.leaf_at.ensures ∙ ap (λ x. Some x) c.in-Work.is in
    let begun = begun_work c.args.leaves.now c.args.chart.now c.args.g.now c.args.before c.args.begin c.in-Work.code c.in-Work.field-1 (length c.as_slice-in-Work.result.now) here in
    IfOk-weaker c.variable_entry-in-Work.result (λ v. v ≡ entry_of (c.args.begin + 1) c.in-Work.code (length c.as_slice-in-Work.result.now) ∷ [])
    (λ v. IsBegun c.args.leaves.now c.args.chart.now c.args.g.now c.args.before c.args.begin v)
    (λ v is. subst (λ (xs : List Entry). IsBegun c.args.leaves.now c.args.chart.now c.args.g.now c.args.before c.args.begin xs) (sym is) begun) c.variable_entry-in-Work.ensures

pub returns-in_ok-enter_first-in-Const : goal.returns-in_ok-enter_first-in-Const
returns-in_ok-enter_first-in-Const c =
    let here = c.leaf_at.ensures ∙ ap (λ x. Some x) c.in-Const.is in
    let e = c.in_ok-enter_first-in-Const.ensures in
    begun_const c.args.leaves.now c.args.chart.now c.args.g.now c.args.before c.args.begin c.in-Const.sym c.enter_first.new.entries here
    e.entered (e.once (subst IsOnce (sym c.new-entries.ensures) once_none))

pub returns-then-is_empty : goal.returns-then-is_empty
returns-then-is_empty c =
    let here = c.leaf_at.ensures ∙ ap (λ x. Some x) c.in-Const.is in
    let none = eqb-true (length c.rows_by_const.result.now) 0 (sym c.is_empty.ensures ∙ c.if-is_empty.true) in
    begun_by c.args.leaves.now c.args.chart.now c.args.g.now c.args.before c.args.begin c.in-Const.sym c.new-entries.result here
    (begins_none c.args.leaves.now c.args.chart.now c.args.g.now c.args.before c.in-Const.sym c.args.begin c.new-entries.result c.rows_by_const.result.now c.rows_by_const.ensures none)
    (subst IsOnce (sym c.new-entries.ensures) once_none)
