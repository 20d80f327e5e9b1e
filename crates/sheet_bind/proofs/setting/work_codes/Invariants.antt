use Rattle.std.proofs.Common.{◌≡◌, fold, take}
use Rattle.sheet_bind.specs.Places.{put_declared}
use Rattle.sheet_bind.proofs.setting.work_codes.Given as goal

abbrev pub invariant-loop-code : goal.invariant-loop-code
invariant-loop-code l = l.kept.items ≡ fold (put_declared l.frames) l.initial.kept.items (take l.code-index l.codes)
