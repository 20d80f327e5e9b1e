use Rattle.std.proofs.Common.{◌∙◌, inl, inr}
use Rattle.std.specs.Vec.Iter.{into_iter_items, into_iter_len}
use Rattle.step_searching.proofs.ApplyLaws.{part_ends}
use Rattle.step_searching.proofs.applying.with_found.Goals as goal

pub returns : goal.returns
returns c =
    c.from_vec.ensures
    ∙ part_ends c.args.frames.now c.args.items.items c.args.found.items c.loop-item.searched.items (into_iter_items c.loop-item.item-iterator.a) (into_iter_items c.loop-item.item-iterator.b)
    (into_iter_len c.loop-item.item-iterator.a) (into_iter_len c.loop-item.item-iterator.b)
    c.loop-item.invariant (elim c.in-None.ensures.steps [ inl x ↦ inl x.1.0 | inr x ↦ inr x.1.0 ])
