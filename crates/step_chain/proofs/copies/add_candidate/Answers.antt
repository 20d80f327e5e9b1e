use Rattle.std.proofs.Common.{refl}
use Rattle.step_chain.proofs.AddingLaws.{variables_in_more, grown_longer, grown_more}
use Rattle.step_chain.proofs.CopyLaws.{table_is, copied_is, table_in, root_is, roots_are, without_works, all_without_works}
use Rattle.step_chain.proofs.copies.add_candidate.Goals as goal

pub add_tree-requires-clause-variables : goal.add_tree-requires-clause-variables
add_tree-requires-clause-variables c =
    let rows = c.args.grammar.now in
    let nodes = c.args.arena.now.nodes in
    let hyps = c.args.frame_hyps.now in
    let items = c.in_ok-variables.variables.items in
    let one = table_is rows nodes hyps c.args.tree.now c.args.trees.now c.count.result items c.deref.result.now c.count.ensures.count c.in_ok-variables.ensures c.deref.ensures.value in
    let two = table_is rows nodes hyps c.args.tree.now c.args.trees.now c.count.result items c.deref-2.result.now c.count.ensures.count c.in_ok-variables.ensures c.deref-2.ensures.value in
    table_in rows nodes hyps c.args.tree.now c.args.trees.now c.deref-2.result.now c.add_copies.new.arena.nodes two
    (copied_is rows nodes hyps c.args.tree.now c.args.trees.now c.deref.result.now c.add_copies.new.arena.nodes one c.in_ok-add_copies.ensures.nodes)

pub add_trees-requires-clause-variables : goal.add_trees-requires-clause-variables
add_trees-requires-clause-variables c =
    let rows = c.args.grammar.now in
    let nodes = c.args.arena.now.nodes in
    let hyps = c.args.frame_hyps.now in
    let items = c.in_ok-variables.variables.items in
    let one = table_is rows nodes hyps c.args.tree.now c.args.trees.now c.count.result items c.deref.result.now c.count.ensures.count c.in_ok-variables.ensures c.deref.ensures.value in
    let three = table_is rows nodes hyps c.args.tree.now c.args.trees.now c.count.result items c.deref-3.result.now c.count.ensures.count c.in_ok-variables.ensures c.deref-3.ensures.value in
    variables_in_more _ _ c.deref-3.result.now (grown_longer c.add_copies.new.arena c.add_tree.new.arena c.add_tree.ensures.grows)
    (table_in rows nodes hyps c.args.tree.now c.args.trees.now c.deref-3.result.now c.add_copies.new.arena.nodes three
    (copied_is rows nodes hyps c.args.tree.now c.args.trees.now c.deref.result.now c.add_copies.new.arena.nodes one c.in_ok-add_copies.ensures.nodes))

pub returns-clause-root : goal.returns-clause-root
returns-clause-root c =
    let rows = c.args.grammar.now in
    let nodes = c.args.arena.now.nodes in
    let hyps = c.args.frame_hyps.now in
    let items = c.in_ok-variables.variables.items in
    let one = table_is rows nodes hyps c.args.tree.now c.args.trees.now c.count.result items c.deref.result.now c.count.ensures.count c.in_ok-variables.ensures c.deref.ensures.value in
    let two = table_is rows nodes hyps c.args.tree.now c.args.trees.now c.count.result items c.deref-2.result.now c.count.ensures.count c.in_ok-variables.ensures c.deref-2.ensures.value in
    root_is rows nodes hyps c.args.tree.now c.args.trees.now c.deref-2.result.now c.add_copies.new.arena.nodes c.add_tree.new.arena.nodes c.in_ok-root.root two
    (copied_is rows nodes hyps c.args.tree.now c.args.trees.now c.deref.result.now c.add_copies.new.arena.nodes one c.in_ok-add_copies.ensures.nodes)
    (without_works rows c.new-works.result c.deref-2.result.now c.args.tree.now c.add_copies.new.arena.nodes c.add_tree.new.arena.nodes
    c.in_ok-root.root c.new-works.ensures c.in_ok-root.ensures.added)

pub returns-clause-hyps : goal.returns-clause-hyps
returns-clause-hyps c =
    let rows = c.args.grammar.now in
    let nodes = c.args.arena.now.nodes in
    let hyps = c.args.frame_hyps.now in
    let items = c.in_ok-variables.variables.items in
    let one = table_is rows nodes hyps c.args.tree.now c.args.trees.now c.count.result items c.deref.result.now c.count.ensures.count c.in_ok-variables.ensures c.deref.ensures.value in
    let two = table_is rows nodes hyps c.args.tree.now c.args.trees.now c.count.result items c.deref-2.result.now c.count.ensures.count c.in_ok-variables.ensures c.deref-2.ensures.value in
    let three = table_is rows nodes hyps c.args.tree.now c.args.trees.now c.count.result items c.deref-3.result.now c.count.ensures.count c.in_ok-variables.ensures c.deref-3.ensures.value in
    roots_are rows nodes hyps c.args.tree.now c.args.trees.now c.deref-2.result.now c.deref-3.result.now c.add_copies.new.arena.nodes
    c.add_tree.new.arena.nodes c.add_trees.new.arena.nodes c.in_ok-root.root c.in_ok-hyps.hyps.items two three
    (copied_is rows nodes hyps c.args.tree.now c.args.trees.now c.deref.result.now c.add_copies.new.arena.nodes one c.in_ok-add_copies.ensures.nodes)
    (without_works rows c.new-works.result c.deref-2.result.now c.args.tree.now c.add_copies.new.arena.nodes c.add_tree.new.arena.nodes
    c.in_ok-root.root c.new-works.ensures c.in_ok-root.ensures.added)
    (all_without_works rows c.new-works.result c.deref-3.result.now c.args.trees.now c.add_tree.new.arena.nodes c.add_trees.new.arena.nodes
    c.in_ok-hyps.hyps.items c.new-works.ensures c.in_ok-hyps.ensures.listed)

pub returns-clause-grows : goal.returns-clause-grows
returns-clause-grows c =
    grown_more c.args.arena.now c.add_tree.new.arena c.add_trees.new.arena
    (grown_more c.args.arena.now c.add_copies.new.arena c.add_tree.new.arena c.in_ok-add_copies.ensures.grows c.in_ok-root.ensures.grows) c.in_ok-hyps.ensures.grows

pub returns-clause-variables_in : goal.returns-clause-variables_in
returns-clause-variables_in c =
    let rows = c.args.grammar.now in
    let nodes = c.args.arena.now.nodes in
    let hyps = c.args.frame_hyps.now in
    let items = c.in_ok-variables.variables.items in
    let one = table_is rows nodes hyps c.args.tree.now c.args.trees.now c.count.result items c.deref.result.now c.count.ensures.count c.in_ok-variables.ensures c.deref.ensures.value in
    let own = table_is rows nodes hyps c.args.tree.now c.args.trees.now c.count.result items items c.count.ensures.count c.in_ok-variables.ensures refl in
    variables_in_more _ _ items (grown_longer c.add_tree.new.arena c.add_trees.new.arena c.add_trees.ensures.grows)
    (variables_in_more _ _ items (grown_longer c.add_copies.new.arena c.add_tree.new.arena c.add_tree.ensures.grows)
    (table_in rows nodes hyps c.args.tree.now c.args.trees.now items c.add_copies.new.arena.nodes own
    (copied_is rows nodes hyps c.args.tree.now c.args.trees.now c.deref.result.now c.add_copies.new.arena.nodes one c.in_ok-add_copies.ensures.nodes)))
