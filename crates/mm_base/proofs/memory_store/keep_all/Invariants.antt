use Rattle.std.proofs.Common.{◌≡◌, map}
use Rattle.mm_base.specs.Files.{kept_file}
use Rattle.mm_base.proofs.memory_store.keep_all.Given as goal

-- what is kept so far is what was given so far, each with its room
abbrev pub invariant-loop-name : goal.invariant-loop-name
invariant-loop-name l = l.kept.items ≡ map (kept_file l.fn.room) l.yielded
