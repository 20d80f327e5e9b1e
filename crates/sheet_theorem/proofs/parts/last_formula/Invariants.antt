use Rattle.std.proofs.Common.{◌≡◌, take, fold, []}
use Rattle.sheet_theorem.specs.Parts.{put_formula}
use Rattle.sheet_theorem.proofs.parts.last_formula.Given as goal

abbrev pub invariant-loop-item : goal.invariant-loop-item
invariant-loop-item l = l.formula ≡ fold put_formula [] (take l.item-index l.items)
