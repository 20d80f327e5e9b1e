use Rattle.std.proofs.Common.{◌<◌, length, sym, subst, arith}
use Rattle.std.specs.List.{AllByRecursion}
use Rattle.proof_tree.specs.Keys.{nodes_of_keys}
use Rattle.proof_tree.specs.Adding.{Adds, proof_over}
use Rattle.proof_tree.proofs.KeyLaws.{put_adds, put_earlier, put_few}
use Rattle.proof_tree.proofs.builder.GraphBuilder.add.Goals as goal

pub invariant_of-self-2 : goal.invariant_of-self-2
invariant_of-self-2 c =
    let inside = subst (λ ns. AllByRecursion (λ k. k < length ns) c.args.below.items) (sym c.self.view_is) c.requires in
    let few = put_few c.self.inside.keys.keys c.insert_full.new.self.keys (record { label = c.in_ok-label.label; below = c.args.below }) c.in_ok-number.number 4294967295
    (omega (arith, c.len.ensures.len)) (record { put = c.in_ok-number.ensures.keys; stored = c.in_ok-number.ensures.stored }) in (
      put_earlier c.self.inside.keys.keys c.insert_full.new.self.keys (record { label = c.in_ok-label.label; below = c.args.below }) c.in_ok-number.number
          c.self.invariant.0 inside (record { put = c.in_ok-number.ensures.keys; stored = c.in_ok-number.ensures.stored }),
      omega (arith, few),
    )

pub returns : goal.returns
returns c =
    let old = c.args.self.now in
    let inside = subst (λ ns. AllByRecursion (λ k. k < length ns) c.args.below.items) (sym c.self.view_is) c.requires in
    let adds = put_adds c.self.inside.keys.keys c.insert_full.new.self.keys (record { label = c.in_ok-label.label; below = c.args.below }) c.in_ok-number.number
    c.self.invariant.0 inside (record { put = c.in_ok-number.ensures.keys; stored = c.in_ok-number.ensures.stored }) in
    subst (λ ns. Adds ns (nodes_of_keys c.insert_full.new.self.keys) (proof_over ns c.args.label.now c.args.below.items) c.in_ok-number.number) c.self.view_is
    (subst
    (λ l. Adds (nodes_of_keys c.self.inside.keys.keys) (nodes_of_keys c.insert_full.new.self.keys)
    (proof_over (nodes_of_keys c.self.inside.keys.keys) l c.args.below.items) c.in_ok-number.number) c.in_ok-label.ensures.items adds)
