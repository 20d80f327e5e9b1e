use Rattle.std.proofs.Common.{subst, sym, ap, ◌∙◌}
use Rattle.sheet_text.specs.declared.sheet.SheetItem.{SheetItem}
use Rattle.step_filling.specs.Kept.{with_comment}
use Rattle.step_filling.specs.Filled.{IsPut}
use Rattle.step_filling.proofs.ItemLaws.{comment_put}
use Rattle.step_filling.proofs.filling.fill_item.Goals as goal

pub returns-in_ok-fill_comment-in-Comment-clause-put : goal.returns-in_ok-fill_comment-in-Comment-clause-put
returns-in_ok-fill_comment-in-Comment-clause-put c =
    let old = c.args.filling.now in
    subst (λ (i : SheetItem). IsPut c.args.trees.now old c.fill_comment.new.filling i) (sym c.in-Comment.is)
    (comment_put c.args.trees.now old c.in-Comment.lines c.fill_comment.new.filling (c.in_ok-fill_comment-in-Comment.ensures ∙ ap (λ ls. with_comment old ls) c.as_slice.ensures))
