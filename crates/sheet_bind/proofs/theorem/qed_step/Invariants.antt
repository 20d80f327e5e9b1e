use Rattle.std.proofs.Common.{◌≡◌, drop, find}
use Rattle.std.specs.List.{filter_map}
use Rattle.sheet_text.specs.Layout.{step_of_item}
use Rattle.solve_model.specs.Binding.{is_qed}
use Rattle.sheet_bind.proofs.theorem.qed_step.Given as goal

abbrev pub invariant-loop-item : goal.invariant-loop-item
invariant-loop-item l = find is_qed (filter_map step_of_item (drop l.item-index l.items)) ≡ find is_qed (filter_map step_of_item l.items)
