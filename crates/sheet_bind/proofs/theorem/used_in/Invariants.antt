use Rattle.std.proofs.Common.{◌≡◌, take, fold}
use Rattle.sheet_bind.specs.Theorems.{put_essential}
use Rattle.sheet_bind.proofs.theorem.used_in.Given as goal

abbrev pub invariant-loop-hyp : goal.invariant-loop-hyp
invariant-loop-hyp l = l.used.keys ≡ fold put_essential l.initial.used.keys (take l.hyp-index l.hyps)
