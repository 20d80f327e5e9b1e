use Rattle.std.proofs.Common.{List, ◌++◌, take, sym, ap, subst, ◌∙◌, option_to_list}
use Rattle.mm_base.specs.declared.tree.Tree.{Tree}
use Rattle.leaf_names.specs.Named.{IsNamesOf}
use Rattle.step_naming.specs.Named.{formulas, tree_of}
use Rattle.step_naming.proofs.DraftLaws.{formulas_more}
use Rattle.step_naming.proofs.naming.names_of.Goals as goal

pub loop-item-preserved : goal.loop-item-preserved
loop-item-preserved c =
    let before = formulas (take c.loop-item.item-index c.args.items.now) in
    let more = ap (λ i. before ++ option_to_list (tree_of i)) c.item-item.is ∙ sym (formulas_more c.args.items.now c.loop-item.item-index c.item-item.result c.loop-item-test.true) in
    subst (λ (ts : List Tree). IsNamesOf c.args.db.now c.args.bound.now ts c.add_item.new.names) more
    (c.in_ok-add_item.ensures c.args.db.now c.args.bound.now before c.loop-item.invariant)
