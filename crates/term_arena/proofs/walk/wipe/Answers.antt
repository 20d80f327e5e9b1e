use Rattle.std.proofs.Common.{inl, inr, arith}
use Rattle.std.proofs.lemmas.Bool.{cases_lt}
use Rattle.std.proofs.lemmas.List.{get_or_past}
use Rattle.term_arena.proofs.walk.wipe.Goals as goal

pub returns-clause-zero : goal.returns-clause-zero
returns-clause-zero c = λ i. elim (cases_lt i c.loop-i.i) [
  | inl before ↦ c.loop-i.invariant.zero i before
  | inr past ↦ get_or_past c.loop-i.stamps.items i 0 (omega arith)
]
