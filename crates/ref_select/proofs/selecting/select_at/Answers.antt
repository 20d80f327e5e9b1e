use Rattle.std.proofs.Common.{sym, ap, ◌∙◌}
use Rattle.std.proofs.lemmas.Result.{IfOk-weaker}
use Rattle.std.specs.Option.{option_copied}
use Rattle.ref_select.specs.Asked.{refs}
use Rattle.ref_select.proofs.AnswerLaws.{no_step, no_tree, step_there}
use Rattle.ref_select.proofs.selecting.select_at.Goals as goal

pub returns-in-None : goal.returns-in-None
returns-in-None c = no_step c.args.db.now c.args.written.now (refs c.args.steps.now) c.args.number (sym c.step_at.ensures ∙ ap option_copied c.in-None.is)

pub returns-in-None-tree_of : goal.returns-in-None-tree_of
returns-in-None-tree_of c = no_tree c.args.db.now c.args.written.now (refs c.args.steps.now) c.args.number (sym c.tree_of.ensures ∙ ap option_copied c.in-None-tree_of.is)

pub returns-in-Some-tree_of : goal.returns-in-Some-tree_of
returns-in-Some-tree_of c =
    IfOk-weaker c.select.result _ _
    (λ sel h. step_there c.args.db.now c.args.written.now (refs c.args.steps.now) c.args.number _ _ sel (sym c.step_at.ensures ∙ ap option_copied c.in-Some.is)
    (sym c.tree_of.ensures ∙ ap option_copied c.in-Some-tree_of.is) h) c.select.ensures
