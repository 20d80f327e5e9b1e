use Rattle.std.proofs.Common.{ap, ◌∙◌}
use Rattle.std.specs.Global.{Vec}
use Rattle.sheet_text.specs.declared.sheet.Given.{Given}
use Rattle.proof_export.proofs.Rounds.{places_more, places_same}
use Rattle.proof_export.proofs.steps.Steps.places.Goals as goal
use Rattle.proof_export.proofs.steps.Steps.places.Goals.{then-not-hyp+in_ok-place+in_ok-push, else-not-hyp}

pub loop-place-preserved : goal.loop-place-preserved
loop-place-preserved c =
    let hs = c.args.hyps.now in
    let es = c.args.entries.now in
    let i = c.loop-place.place in
    let h = c.index-hyps-place.result in
    let old = c.loop-place.places.items in
    let new = c.if-not-hyp.places.items in
    elim c.if-not-hyp.branch [
      | then-not-hyp+in_ok-place+in_ok-push w ↦
          λ fs has.
          places_more fs hs es i h old new c.requires c.loop-place-test.true c.index-hyps-place.is (c.loop-place.invariant fs has) w.index-entries-place.result w.as_slice.result.now
          w.in_ok-place.field-0 w.index-entries-place.is w.if-not-hyp.true w.as_slice.ensures (w.in_ok-place.ensures fs has)
          (ap (λ (v : Vec Given). v.items) w.places-is ∙ w.in_ok-push.ensures.items)
      | else-not-hyp w ↦
          λ fs has.
          places_same fs hs es i h old new c.requires c.loop-place-test.true c.index-hyps-place.is (c.loop-place.invariant fs has) w.if-not-hyp.false
          (ap (λ (v : Vec Given). v.items) w.places-is)
    ]
