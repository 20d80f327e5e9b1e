use Rattle.std.proofs.Common.{◌≡◌, ℕ, ◌+◌, get_or, slice_get, Some, arith}
use Rattle.std.proofs.lemmas.Option.{slice_get-get_or, slice_get_within}
use Rattle.mm_model.specs.declared.rows.Leaf.TheVariants.{Const}
use Rattle.formula_parse.specs.Charts.{IsIn}
use Rattle.formula_parse.proofs.Lists.{stays_in, at_turn}
use Rattle.formula_parse.proofs.reach.after_const.Goals as goal

pub loop-place-preserved : goal.loop-place-preserved
loop-place-preserved c =
    let places = c.args.places.now in
    let n = c.loop-place.place-index in
    let xs = c.loop-place.next.items in
    let ys = c.add_behind.new.next.items in
    let s = c.in_ok-add_behind.ensures in
    at_turn (λ (q : ℕ). slice_get c.args.leaves.now q ≡ Some (Const c.args.sym) → IsIn ys (q + 1)) places n (get_or places n 0) (slice_get-get_or places n 0 c.loop-place-test.true)
    (λ j q i is k. stays_in xs ys s.stays (q + 1) (c.loop-place.invariant j q i is k)) s.stands

pub returns : goal.returns
returns c = λ q i k. c.loop-place.invariant i.0 q (omega (arith, slice_get_within c.args.places.now i.0 q i.1, c.loop-place-test.false)) i.1 k
