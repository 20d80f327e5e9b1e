use Rattle.std.proofs.Common.{◌≡◌, [], inl, inr, nat_eq, map, ap, sym, ◌∙◌}
use Rattle.std.specs.HashMap.{get}
use Rattle.std.proofs.lemmas.Result.{IfOk-weaker}
use Rattle.proof_model.specs.Proofs.{by, none}
use Rattle.proof_tree.specs.Adding.{Adds, proof_over}
use Rattle.proof_tree.specs.Given.{tree_proof, variable_proof, name_in}
use Rattle.proof_tree.proofs.BuildLaws.{adds_more, adds_whole, adds_over, adds_same, tree_proof-Var, tree_proof-Work, tree_proof-Fresh, tree_proof-Node}
use Rattle.proof_tree.proofs.building.+add_tree.Goals as goal

pub loop-child-preserved : goal.loop-child-preserved
loop-child-preserved t c =
    adds_more
    (tree_proof c.args.frames.now.labels
    (get nat_eq
    c.args.floats.now)) c.as_slice-child-items.result.now c.loop-child.child-index c.child-item.result c.args.graph.now c.loop-child.graph c.add_tree.new.graph
    c.loop-child.below.items c.push.new.self.items c.in_ok-add_tree-in-Node.field-0 c.loop-child-test.true c.child-item.is c.loop-child.invariant
    c.in_ok-add_tree-in-Node.ensures c.in_ok-push-in-Node.ensures.items

pub returns-in-Var : goal.returns-in-Var
returns-in-Var t c =
    let floats = get nat_eq c.args.floats.now in
    IfOk-weaker c.add_variable.result (Adds c.args.graph.now c.add_variable.new.graph (variable_proof floats c.in-Var.variable.0))
    (Adds c.args.graph.now c.add_variable.new.graph (tree_proof c.args.frames.now.labels floats c.args.tree.now))
    (λ n a. adds_same c.args.graph.now c.add_variable.new.graph _ _ n
    (sym
    (ap (tree_proof c.args.frames.now.labels floats) c.in-Var.is
    ∙ tree_proof-Var c.args.frames.now.labels floats c.in-Var.variable c.in-Var.field-1)) a)
    c.add_variable.ensures

pub returns-after-loop-child : goal.returns-after-loop-child
returns-after-loop-child t c =
    let floats = get nat_eq c.args.floats.now in
    let labels = c.args.frames.now.labels in
    let all =
    adds_whole
    (tree_proof labels
    floats) c.in-Node.children c.as_slice-child-items.result.now c.loop-child.child-index c.args.graph.now c.loop-child.graph c.loop-child.below.items c.as_slice-child-items.ensures
    c.loop-child-test.false c.loop-child.invariant in
    IfOk-weaker c.add_label.result
    (Adds c.loop-child.graph c.add_label.new.graph (proof_over c.loop-child.graph (name_in labels c.in-Node.label) c.loop-child.below.items))
    (Adds c.args.graph.now c.add_label.new.graph (tree_proof labels floats c.args.tree.now))
    (λ n a. adds_same c.args.graph.now c.add_label.new.graph _ _ n
    (sym (ap (tree_proof labels floats) c.in-Node.is ∙ tree_proof-Node labels floats c.in-Node.label c.in-Node.field-1 c.in-Node.children))
    (adds_over c.args.graph.now c.loop-child.graph c.add_label.new.graph (name_in labels c.in-Node.label) (map (tree_proof labels floats) c.in-Node.children) c.loop-child.below.items n all a))
    c.add_label.ensures

pub returns-in-Work : goal.returns-in-Work
returns-in-Work t c =
    let floats = get nat_eq c.args.floats.now in
    let labels = c.args.frames.now.labels in
    let is : tree_proof labels floats c.args.tree.now ≡ by [] none =
    elim c.in-Work.is [
      | inl (k, n, e) ↦ ap (tree_proof labels floats) e ∙ tree_proof-Work labels floats k n
      | inr (k, n, e) ↦ ap (tree_proof labels floats) e ∙ tree_proof-Fresh labels floats k n
    ] in
    IfOk-weaker c.add.result (Adds c.args.graph.now c.add.new.self (proof_over c.args.graph.now [] c.new.result.items))
    (Adds c.args.graph.now c.add.new.self (tree_proof labels floats c.args.tree.now))
    (λ n a. adds_same c.args.graph.now c.add.new.self _ _ n (ap (proof_over c.args.graph.now []) c.new.ensures.items ∙ sym is) a)
    c.add.ensures
