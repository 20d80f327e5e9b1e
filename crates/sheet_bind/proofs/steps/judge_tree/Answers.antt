use Rattle.std.proofs.Common.{◌∙◌, ap, drop, option_map}
use Rattle.mm_frames.specs.Contents.{Contents}
use Rattle.mm_model.specs.Names.{Name}
use Rattle.std.specs.Prelude.{List, []}
use Rattle.sheet_bind.specs.Found.{found}
use Rattle.sheet_bind.specs.Judging.{scene, IsTreeIn}
use Rattle.sheet_bind.specs.Seen.{expression_at}
use Rattle.sheet_bind.proofs.JudgeLaws.{judged_by, trees_at}
use Rattle.sheet_bind.proofs.steps.judge_tree.Goals as goal

pub returns : goal.returns
returns c =
    let d = c.args.db.now in
    let x = c.args.setting.now in
    let t = c.args.step.now in
    let leaves = c.in_ok-leaves.ensures.leaves ∙ ap (λ (e : Contents). expression_at e x c.behind_first-tokens.result.now) c.frames.ensures
    ∙ ap (λ (ts : List Name). expression_at d.contents x ts) (c.behind_first-tokens.ensures ∙ ap (λ (ts : List Name). drop 1 ts) c.as_slice.ensures) in
    judged_by (IsTreeIn (scene d [] [] x) t) t.line (option_map found c.args.first) (option_map found c.judge_trees.result.first) c.judge_trees.result.tree c.in_ok-trees.trees
    (trees_at d x t c.grammar.result.now c.in_ok-leaves.leaves c.in_ok-trees.trees c.grammar.ensures leaves c.in_ok-trees.ensures) c.judge_trees.ensures.first c.judge_trees.ensures.tree
