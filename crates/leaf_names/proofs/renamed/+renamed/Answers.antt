use Rattle.std.proofs.Common.{◌++◌, ◌∷◌, [], map, take, sym, ap, ◌∙◌, List}
use Rattle.std.proofs.lemmas.List.{take_all, map_more}
use Rattle.mm_base.specs.declared.tree.Tree.{Tree}
use Rattle.mm_base.specs.declared.tree.Tree.TheVariants.{Var, Node}
use Rattle.solve_model.proofs.TreeLaws.{replace-Node}
use Rattle.written_model.specs.Named.{name_leaf, name_tree}
use Rattle.leaf_names.specs.Tables.{naming_of}
use Rattle.leaf_names.proofs.renamed.+renamed.Goals as goal

pub loop-child-preserved : goal.loop-child-preserved
loop-child-preserved t c =
    let f = name_tree (naming_of c.args.given.now.entries) in
    let xs = c.as_slice-child-items.result.now in
    let i = c.loop-child.child-index in
    c.in_ok-push-in-Node.ensures.items
    ∙ ap (λ (ts : List Tree). ts ++ c.in_ok-renamed-in-Node.field-0 ∷ []) c.loop-child.invariant
    ∙ ap (λ (u : Tree). map f (take i xs) ++ u ∷ []) (c.in_ok-renamed-in-Node.ensures ∙ ap f c.child-item.is)
    ∙ sym (map_more f xs i _ c.loop-child-test.true)

pub returns-after-loop-child : goal.returns-after-loop-child
returns-after-loop-child t c =
    let names = naming_of c.args.given.now.entries in
    let f = name_tree names in
    let xs = c.as_slice-child-items.result.now in
    ap (λ (ts : List Tree). Node c.in-Node.label c.in-Node.code ts)
    (c.from_vec.ensures ∙ c.loop-child.invariant ∙ ap (map f) (take_all c.loop-child.child-index xs c.loop-child-test.false ∙ c.as_slice-child-items.ensures))
    ∙ sym (ap f c.in-Node.is ∙ replace-Node (λ v d. Var v d) (name_leaf names) c.in-Node.label c.in-Node.code c.in-Node.children)
