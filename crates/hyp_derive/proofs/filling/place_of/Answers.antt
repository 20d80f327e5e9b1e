use Rattle.solve_model.specs.Trees.{same_tree}
use Rattle.hyp_derive.proofs.FillLaws.{pos_first, pos_second, pos_neither}
use Rattle.hyp_derive.proofs.filling.place_of.Goals as goal

pub returns-in-Some : goal.returns-in-Some
returns-in-Some c = pos_first (same_tree c.args.tree.now) c.args.earlier.now c.args.made.now c.in-Some.place c.in-Some.ensures

pub returns-in-Some-place_in : goal.returns-in-Some-place_in
returns-in-Some-place_in c = pos_second (same_tree c.args.tree.now) c.args.earlier.now c.args.made.now c.in-Some-place_in.place c.in-None.ensures c.in-Some-place_in.ensures

pub returns-in-None-place_in : goal.returns-in-None-place_in
returns-in-None-place_in c = pos_neither (same_tree c.args.tree.now) c.args.earlier.now c.args.made.now c.in-None.ensures c.in-None-place_in.ensures
