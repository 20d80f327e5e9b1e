use Rattle.std.proofs.Common.{◌+◌, arith, take}
use Rattle.step_filling.proofs.ItemLaws.{put_item, fault_item, split_at, room_left, take_next}
use Rattle.step_filling.proofs.filling.fill_each.Goals as goal

pub fill_item-requires-clause-room : goal.fill_item-requires-clause-room
fill_item-requires-clause-room c =
    let left = room_left c.args.trees.now c.args.items.now c.loop-item.item-index c.item-item.result c.item-item.is c.loop-item-test.true in
    let count = c.loop-item.invariant.count in
    let room = c.requires.room in
    omega (arith, left, count, room)

pub loop-item-preserved : goal.loop-item-preserved
loop-item-preserved c =
    let k = c.loop-item.item-index in
    let items = c.args.items.now in
    put_item c.args.trees.now c.args.filling.now c.loop-item.filling c.fill_item.new.filling (take k items) (take (k + 1) items) c.item-item.result c.loop-item.invariant c.in-Ok.ensures.put
    (take_next items k c.item-item.result c.item-item.is c.loop-item-test.true)

pub returns-in-Err-clause-fault : goal.returns-in-Err-clause-fault
returns-in-Err-clause-fault c =
    let k = c.loop-item.item-index in
    let items = c.args.items.now in
    let parts = split_at items k c.item-item.result c.item-item.is c.loop-item-test.true in
    fault_item c.args.trees.now c.args.filling.now c.loop-item.filling (take k items) parts.0 items c.item-item.result c.loop-item.invariant parts.1 c.in-Err.fault c.in-Err.ensures.fault
