use Rattle.std.proofs.Common.{◌≡◌, true, sym, subst, ◌∙◌}
use Rattle.std.specs.Option.{option_copied}
use Rattle.ref_search.specs.Fitting.{AreAnswer}
use Rattle.ref_search.specs.Placing.{IsClosed}
use Rattle.ref_select.specs.Asked.{is_closed_by}
use Rattle.ref_select.proofs.ChosenLaws.{fitting_step, open_step}
use Rattle.ref_select.proofs.ClosedLaws.{wanted_closed}
use Rattle.ref_select.proofs.selecting.select.Goals as goal

pub returns-then-not-is_closed : goal.returns-then-not-is_closed
returns-then-not-is_closed c = open_step c.args.db.now c.args.written.now c.args.step.now c.args.tree.now (sym c.is_closed.ensures ∙ c.if-not-is_closed.true)

pub all-requires : goal.all-requires
all-requires c =
    subst IsClosed (sym c.in_ok-wanted.ensures)
    (wanted_closed c.args.written.now.trees.now c.args.step.now c.args.tree.now (sym c.is_closed.ensures ∙ c.if-not-is_closed.false))

pub returns : goal.returns
returns c =
    let closed : is_closed_by c.args.written.now.trees.now c.args.step.now c.args.tree.now ≡ true = sym c.is_closed.ensures ∙ c.if-not-is_closed.false in
    let allowed = option_copied c.allowed_pairs-allowed.result in
    fitting_step c.args.db.now c.args.written.now c.args.step.now c.args.tree.now allowed c.in_ok-labels.labels closed c.allowed_pairs-allowed.ensures
    (subst (λ wanted. AreAnswer c.args.db.now c.args.written.now.place wanted allowed c.in_ok-labels.labels) c.in_ok-wanted.ensures c.in_ok-labels.ensures)
