use Rattle.std.proofs.Common.{sym, ap, ◌∙◌}
use Rattle.mm_model.specs.Statements.{is_empty}
use Rattle.mm_model.specs.Productions.{begins_with}
use Rattle.mm_database.specs.Productions.{all_floating}
use Rattle.mm_database.proofs.Syntax.{has_essential, by_pairs}
use Rattle.mm_database.proofs.productions.is_syntax.Goals as goal

pub returns-then-not-all_floating : goal.returns-then-not-all_floating
returns-then-not-all_floating c =
    has_essential c.args.provable c.args.frame.now (ap all_floating (sym c.as_slice-2.ensures) ∙ sym c.all_floating.ensures ∙ c.if-not-all_floating.true)

pub returns : goal.returns
returns c =
    c.has_none.ensures ∙ ap is_empty c.as_slice-3.ensures
    ∙ by_pairs c.args.provable c.args.frame.now c.if-not-frame.false (ap (begins_with c.args.provable) (sym c.as_slice.ensures) ∙ sym c.begins_with.ensures ∙ c.if-begins_with.false)
    (ap all_floating (sym c.as_slice-2.ensures) ∙ sym c.all_floating.ensures ∙ c.if-not-all_floating.false)
