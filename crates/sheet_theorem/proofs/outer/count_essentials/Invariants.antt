use Rattle.std.proofs.Common.{◌≡◌, ◌≤◌, length, take}
use Rattle.mm_model.specs.Productions.{essentials}
use Rattle.sheet_theorem.proofs.outer.count_essentials.Given as goal

abbrev pub invariant-loop-hyp : goal.invariant-loop-hyp
invariant-loop-hyp l = (l.count ≡ length (essentials (take l.hyp-index l.hyps))) × (l.count ≤ l.hyp-index)
