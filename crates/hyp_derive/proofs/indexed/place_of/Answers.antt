use Rattle.std.proofs.Common.{◌+◌, ℕ, Some, ap, ◌∙◌}
use Rattle.solve_model.specs.Trees.{same_tree}
use Rattle.hyp_derive.proofs.FillLaws.{pos_first, pos_second, pos_neither}
use Rattle.hyp_derive.proofs.indexed.place_of.Goals as goal

pub returns-in-Some : goal.returns-in-Some
returns-in-Some c = pos_first (same_tree c.args.tree.now) c.args.earlier.now c.args.made.now c.in-Some.place c.in-Some.ensures

pub returns-in-Some-position : goal.returns-in-Some-position
returns-in-Some-position c =
    ap (λ (n : ℕ). Some (n + c.in-Some-position.place)) c.len.ensures
    ∙ pos_second (same_tree c.args.tree.now) c.args.earlier.now c.args.made.now c.in-Some-position.place c.in-None.ensures c.in-Some-position.ensures

pub returns-in-None-position : goal.returns-in-None-position
returns-in-None-position c = pos_neither (same_tree c.args.tree.now) c.args.earlier.now c.args.made.now c.in-None.ensures c.in-None-position.ensures
