use Rattle.std.proofs.Common.{◌≡◌, take, fold, []}
use Rattle.sheet_bind.specs.Theorems.{put_name}
use Rattle.sheet_bind.proofs.theorem.mandatory_names.Given as goal

abbrev pub invariant-loop-hyp : goal.invariant-loop-hyp
invariant-loop-hyp l = l.names.items ≡ fold (put_name l.used.keys) [] (take l.hyp-index l.hyps)
