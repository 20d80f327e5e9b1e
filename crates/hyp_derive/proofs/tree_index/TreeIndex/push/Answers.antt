use Rattle.std.proofs.Common.{arith}
use Rattle.hyp_derive.proofs.IndexLaws.{index_more}
use Rattle.hyp_derive.proofs.tree_index.TreeIndex.push.Goals as goal

pub invariant_of-self-in-Ok : goal.invariant_of-self-in-Ok
invariant_of-self-in-Ok c =
    index_more c.self.inside.places c.add.new.self c.self.inside.trees.items c.push.new.self.items c.args.tree c.tree_hash-hash.result c.len-place.result c.self.invariant c.in_ok-push.ensures.items
    c.tree_hash-hash.ensures (omega (arith, c.len-place.ensures, c.self.inside.trees.ok)) (omega (arith, c.if-place.false)) c.in-Ok.ensures.added
