use Rattle.std.proofs.Common.{length, sym, subst}
use Rattle.step_chain.specs.Grown.{AreIdsIn}
use Rattle.step_chain.proofs.AddingLaws.{listed_more, works_in_more, variables_in_more, ids_in_more, ids_in_push, grown_more, grown_longer}
use Rattle.step_chain.proofs.copies.add_trees.Goals as goal

pub loop-tree-preserved : goal.loop-tree-preserved
loop-tree-preserved c =
    let longer = grown_longer c.loop-tree.arena c.add_tree.new.arena c.in_ok-id.ensures.grows in
    record {
      listed =
          listed_more c.args.grammar.now c.args.works.now c.args.variables.now c.args.arena.now.nodes c.loop-tree.arena c.add_tree.new.arena
          c.args.trees.now c.loop-tree.tree-index c.tree-item.result c.loop-tree.ids.items c.push.new.self.items c.in_ok-id.id
          c.loop-tree.invariant.listed c.in_ok-id.ensures.added c.tree-item.is c.loop-tree-test.true c.in_ok-push.ensures.items;
      grown = grown_more c.args.arena.now c.loop-tree.arena c.add_tree.new.arena c.loop-tree.invariant.grown c.in_ok-id.ensures.grows;
      works_in = works_in_more _ _ _ longer c.loop-tree.invariant.works_in;
      variables_in = variables_in_more _ _ _ longer c.loop-tree.invariant.variables_in;
      inside = subst (AreIdsIn (length c.add_tree.new.arena.nodes)) (sym c.in_ok-push.ensures.items)
          (ids_in_push _ c.loop-tree.ids.items c.in_ok-id.id (ids_in_more _ _ c.loop-tree.ids.items longer c.loop-tree.invariant.inside) c.in_ok-id.ensures.within);
    }
