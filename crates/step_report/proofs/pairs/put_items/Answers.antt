use Rattle.std.proofs.Common.{◌∙◌, sym, ap, fold, take}
use Rattle.std.proofs.lemmas.List.{take_all}
use Rattle.std.proofs.lemmas.List.Sums.{fold_more}
use Rattle.step_report.specs.PutPairs.{put_draft}
use Rattle.step_report.proofs.pairs.put_items.Goals as goal

pub loop-item-preserved : goal.loop-item-preserved
loop-item-preserved c = λ kinds text opened.
    c.in_ok-put_item.ensures kinds text opened ∙ ap (λ ps. put_draft c.args.db.now ps c.item-item.result) (c.loop-item.invariant kinds text opened)
    ∙ ap (put_draft c.args.db.now (fold (put_draft c.args.db.now) c.args.set.now (take c.loop-item.item-index c.args.items.now))) c.item-item.is
    ∙ sym (fold_more (put_draft c.args.db.now) c.args.set.now c.args.items.now c.loop-item.item-index c.item-item.result c.loop-item-test.true)

pub returns : goal.returns
returns c = λ kinds text opened.
    c.loop-item.invariant kinds text opened ∙ ap (fold (put_draft c.args.db.now) c.args.set.now) (take_all c.loop-item.item-index c.args.items.now c.loop-item-test.false)
