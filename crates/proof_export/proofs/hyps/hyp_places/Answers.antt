use Rattle.std.proofs.Common.{arith, take, subst, sym, List}
use Rattle.std.proofs.lemmas.List.{length-take-le}
use Rattle.mm_model.specs.declared.frames.Hyp.{Hyp}
use Rattle.proof_export.specs.Places.{AreHyps}
use Rattle.proof_export.proofs.Looping.{take_more}
use Rattle.proof_export.proofs.hyps.hyp_places.Goals as goal

pub loop-place-preserved : goal.loop-place-preserved
loop-place-preserved c =
    subst (λ (l : List Hyp). AreHyps l c.put_hyp.new.places.entries)
    (sym (take_more c.args.hyps.now c.loop-place.place c.index-hyps-place.result c.loop-place-test.true c.index-hyps-place.is))
    (c.in_ok-put_hyp.ensures (take c.loop-place.place c.args.hyps.now) (length-take-le c.loop-place.place c.args.hyps.now (omega arith)) c.loop-place.invariant)
