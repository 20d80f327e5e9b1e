use Rattle.std.proofs.Common.{◌≡◌, take, fold}
use Rattle.written_steps.specs.Drafts.{ForEachText}
use Rattle.step_report.specs.PutPairs.{put_draft}
use Rattle.step_report.proofs.pairs.put_items.Given as goal

abbrev pub invariant-loop-item : goal.invariant-loop-item
invariant-loop-item l = ForEachText l.db (l.set ≡ fold (put_draft l.db) l.initial.set (take l.item-index l.items))
