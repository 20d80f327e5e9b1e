use Rattle.std.proofs.Common.{◌≡◌, fold, take, replicate, None}
use Rattle.sheet_bind.specs.Marks.{put_hyp}
use Rattle.sheet_bind.proofs.marks.codes_by_symbol.Given as goal

abbrev pub invariant-loop-hyp : goal.invariant-loop-hyp
invariant-loop-hyp l = l.codes.items ≡ fold put_hyp (replicate l.count None) (take l.hyp-index l.hyps)
