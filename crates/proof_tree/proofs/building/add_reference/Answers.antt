use Rattle.std.proofs.Common.{nat_eq, map, ap, ◌∙◌}
use Rattle.std.specs.HashMap.{get}
use Rattle.std.proofs.lemmas.Result.{IfOk-weaker}
use Rattle.mm_frames.specs.Contents.{frame_at}
use Rattle.proof_tree.specs.Adding.{Adds, proof_over, table_proofs}
use Rattle.proof_tree.specs.Given.{tree_proof, hyps_of, name_in, reference_proof, weave, item_at}
use Rattle.std.proofs.Common.{filter_map}
use Rattle.proof_tree.proofs.BuildLaws.{adds_arguments, adds_over}
use Rattle.proof_tree.proofs.building.add_reference.Goals as goal

pub add_label-requires : goal.add_label-requires
add_label-requires c =
    (adds_arguments c.args.graph.now c.add_trees.new.graph (hyps_of (frame_at c.args.frames.now c.args.label))
    (map (tree_proof c.args.frames.now.labels (get nat_eq c.args.floats.now)) c.args.values.now) c.in_ok-values.values.items
    c.args.proofs.now c.args.places.now c.in_ok-places.places.items c.in_ok-below.below.items c.requires c.in_ok-values.ensures c.in_ok-places.ensures
    (c.in_ok-below.ensures ∙ ap (λ l. weave (hyps_of (frame_at c.args.frames.now c.args.label)) l c.deref-2.result.now) c.deref.ensures.value
    ∙ ap (weave (hyps_of (frame_at c.args.frames.now c.args.label)) c.in_ok-values.values.items) c.deref-2.ensures.value)).inside

pub returns : goal.returns
returns c =
    let hyps = hyps_of (frame_at c.args.frames.now c.args.label) in
    let values = map (tree_proof c.args.frames.now.labels (get nat_eq c.args.floats.now)) c.args.values.now in
    let table = table_proofs c.args.graph.now c.args.proofs.now in
    let all = adds_arguments c.args.graph.now c.add_trees.new.graph hyps values c.in_ok-values.values.items
    c.args.proofs.now c.args.places.now c.in_ok-places.places.items c.in_ok-below.below.items c.requires c.in_ok-values.ensures c.in_ok-places.ensures
    (c.in_ok-below.ensures ∙ ap (λ l. weave hyps l c.deref-2.result.now) c.deref.ensures.value ∙ ap (weave hyps c.in_ok-values.values.items) c.deref-2.ensures.value) in
    IfOk-weaker c.add_label.result (Adds c.add_trees.new.graph c.add_label.new.graph (proof_over c.add_trees.new.graph (name_in c.args.frames.now.labels c.args.label) c.in_ok-below.below.items))
    (Adds c.args.graph.now c.add_label.new.graph (reference_proof c.args.frames.now (get nat_eq c.args.floats.now) table c.args.label c.args.values.now c.args.places.now))
    (λ n a. adds_over c.args.graph.now c.add_trees.new.graph c.add_label.new.graph (name_in c.args.frames.now.labels c.args.label)
    (weave hyps values (filter_map (item_at table) c.args.places.now)) c.in_ok-below.below.items n all a)
    c.add_label.ensures
