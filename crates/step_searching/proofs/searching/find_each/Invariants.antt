use Rattle.std.proofs.Common.{take, map}
use Rattle.written_steps.specs.Drafts.{refs, step_in}
use Rattle.step_searching.proofs.FindLaws.{FoundTo}
use Rattle.step_searching.proofs.searching.find_each.Given as goal

abbrev pub invariant-loop-item : goal.invariant-loop-item
invariant-loop-item l = FoundTo l.db l.place l.mode l.given (map (step_in l.db) (refs l.steps)) (take l.item-index l.items) l.found.items
