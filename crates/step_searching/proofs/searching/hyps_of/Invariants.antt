use Rattle.std.proofs.Common.{◌≡◌, take, filter_map}
use Rattle.written_steps.specs.Drafts.{refs}
use Rattle.step_searching.specs.Searched.{draft_tree}
use Rattle.step_searching.proofs.searching.hyps_of.Given as goal

abbrev pub invariant-loop-place : goal.invariant-loop-place
invariant-loop-place l = l.hyps.items ≡ filter_map (draft_tree (refs l.steps)) (take l.place-index l.places)
