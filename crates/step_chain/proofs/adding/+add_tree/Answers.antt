use Rattle.std.proofs.Common.{◌<◌, length, ap, sym, subst, ◌∙◌}
use Rattle.chain_laws.specs.Adding.{added, there_or, is_variable, is_work}
use Rattle.std.specs.Option.{ForSome}
use Rattle.term_model.specs.Terms.{Var, Free}
use Rattle.step_chain.specs.Grown.{AreIdsIn}
use Rattle.step_chain.proofs.AddingLaws.{added-Var, added-Work, added-Fresh, rooted_by, fresh_rooted, listed_more, production_rooted, found_work}
use Rattle.step_chain.proofs.AddingLaws.{found_variable, works_in_more, variables_in_more, ids_in_more, ids_in_push, grown_more, grown_longer}
use Rattle.step_chain.proofs.adding.+add_tree.Goals as goal

pub there_or_variable-requires : goal.there_or_variable-requires
there_or_variable-requires t c =
    subst (λ o. ForSome o (λ i. i < length c.args.arena.now.nodes)) (sym c.variable_at-there.ensures)
    (found_variable (length c.args.arena.now.nodes) (is_variable c.in-Var.sym c.in-Var.code) c.args.variables.now c.requires.variables)

pub there_or_free-requires : goal.there_or_free-requires
there_or_free-requires t c =
    subst (λ o. ForSome o (λ i. i < length c.args.arena.now.nodes)) (sym c.node-there.ensures)
    (found_work (length c.args.arena.now.nodes) (is_work c.in-Work.code c.in-Work.number) c.args.works.now c.requires.works)

pub loop-child-preserved : goal.loop-child-preserved
loop-child-preserved t c =
    let longer = grown_longer c.loop-child.arena c.add_tree.new.arena c.in_ok-id-in-Node.ensures.grows in
    record {
      listed =
          listed_more c.args.grammar.now c.args.works.now c.args.variables.now c.args.arena.now.nodes c.loop-child.arena c.add_tree.new.arena
          c.as_slice-child-items.result.now c.loop-child.child-index c.child-item.result c.loop-child.ids.items c.push.new.self.items
          c.in_ok-id-in-Node.id
          c.loop-child.invariant.listed c.in_ok-id-in-Node.ensures.added c.child-item.is c.loop-child-test.true c.in_ok-push-in-Node.ensures.items;
      grown = grown_more c.args.arena.now c.loop-child.arena c.add_tree.new.arena c.loop-child.invariant.grown c.in_ok-id-in-Node.ensures.grows;
      works_in = works_in_more _ _ _ longer c.loop-child.invariant.works_in;
      variables_in = variables_in_more _ _ _ longer c.loop-child.invariant.variables_in;
      inside = subst (AreIdsIn (length c.add_tree.new.arena.nodes)) (sym c.in_ok-push-in-Node.ensures.items)
          (ids_in_push _ c.loop-child.ids.items c.in_ok-id-in-Node.id (ids_in_more _ _ c.loop-child.ids.items longer c.loop-child.invariant.inside) c.in_ok-id-in-Node.ensures.within);
    }

pub add_node-requires : goal.add_node-requires
add_node-requires t c = subst (AreIdsIn (length c.loop-child.arena.nodes)) (sym c.deref.ensures.value) c.loop-child.invariant.inside

pub returns-in-Var-clause-added : goal.returns-in-Var-clause-added
returns-in-Var-clause-added t c =
    let nodes = c.args.arena.now.nodes in
    rooted_by c.there_or_variable.result c.there_or_variable.new.arena.nodes _ _
    (ap (λ o. there_or o (Var c.in-Var.sym c.in-Var.code) nodes) c.variable_at-there.ensures
    ∙ sym
    (ap (λ u. added c.args.grammar.now c.args.works.now c.args.variables.now u nodes) c.in-Var.is
    ∙ added-Var c.args.grammar.now c.args.works.now c.args.variables.now c.in-Var.sym c.in-Var.code nodes))
    c.there_or_variable.ensures.added

pub returns-in-Work-clause-added : goal.returns-in-Work-clause-added
returns-in-Work-clause-added t c =
    let nodes = c.args.arena.now.nodes in
    rooted_by c.there_or_free.result c.there_or_free.new.arena.nodes _ _
    (ap (λ o. there_or o (Free c.in-Work.code) nodes) c.node-there.ensures
    ∙ sym
    (ap (λ u. added c.args.grammar.now c.args.works.now c.args.variables.now u nodes) c.in-Work.is
    ∙ added-Work c.args.grammar.now c.args.works.now c.args.variables.now c.in-Work.code c.in-Work.number nodes))
    c.there_or_free.ensures.added

pub returns-in-Fresh-clause-added : goal.returns-in-Fresh-clause-added
returns-in-Fresh-clause-added t c =
    let nodes = c.args.arena.now.nodes in
    rooted_by c.add_free.result c.add_free.new.self.nodes _ _
    (sym
    (ap (λ u. added c.args.grammar.now c.args.works.now c.args.variables.now u nodes) c.in-Fresh.is
    ∙ added-Fresh c.args.grammar.now c.args.works.now c.args.variables.now c.in-Fresh.code c.in-Fresh.field-1 nodes))
    (fresh_rooted c.add_free.result c.args.arena.now c.add_free.new.self (Free c.in-Fresh.code) c.add_free.ensures.id c.add_free.ensures.ok)

pub returns-after-loop-child-clause-added : goal.returns-after-loop-child-clause-added
returns-after-loop-child-clause-added t c =
    production_rooted c.args.grammar.now c.args.works.now c.args.variables.now c.add_node.result c.in-Node.label c.in-Node.code
    c.constants_of-constants.result c.in-Node.children c.as_slice-child-items.result.now c.loop-child.child-index c.args.arena.now.nodes
    c.loop-child.arena c.add_node.new.self c.loop-child.ids.items c.deref.result.now c.args.tree.now
    c.as_slice-child-items.ensures c.loop-child-test.false c.loop-child.invariant.listed c.deref.ensures.value c.constants_of-constants.ensures
    c.in-Node.is c.add_node.ensures.id c.add_node.ensures.ok
