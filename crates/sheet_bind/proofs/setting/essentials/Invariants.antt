use Rattle.std.proofs.Common.{◌≡◌, fold, take, []}
use Rattle.sheet_bind.specs.Places.{put_essential}
use Rattle.sheet_bind.proofs.setting.essentials.Given as goal

abbrev pub invariant-loop-hyp : goal.invariant-loop-hyp
invariant-loop-hyp l = l.kept.items ≡ fold put_essential [] (take l.hyp-index l.hyps)
