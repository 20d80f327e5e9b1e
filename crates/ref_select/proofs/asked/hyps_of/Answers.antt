use Rattle.std.proofs.Common.{◌∙◌, ap, sym}
use Rattle.std.specs.Option.{option_copied}
use Rattle.ref_select.proofs.StepLists.{hyp_more, hyp_same, copied_none}
use Rattle.ref_select.proofs.asked.hyps_of.Goals as goal
use Rattle.ref_select.proofs.asked.hyps_of.Goals.{in-Some+in_ok-copy+in_ok-push, in_default}

pub loop-place-preserved : goal.loop-place-preserved
loop-place-preserved c = elim c.match-tree_at.branch [
  | in-Some+in_ok-copy+in_ok-push w ↦ rw w.hyps-is (
      hyp_more c.args.trees.now c.args.places.now c.loop-place.place-index _ c.loop-place.hyps.items w.push.new.self.items w.in-Some.tree.now _ c.loop-place-test.true
      (sym c.tree_at.ensures ∙ ap option_copied w.in-Some.is) w.in_ok-copy.ensures c.loop-place.invariant w.in_ok-push.ensures.items)
  | in_default w ↦ rw w.hyps-is (
      hyp_same c.args.trees.now c.args.places.now c.loop-place.place-index _ c.loop-place.hyps.items c.loop-place-test.true
      (sym c.tree_at.ensures ∙ copied_none c.tree_at.result w.in_default.not-Some) c.loop-place.invariant)
]
