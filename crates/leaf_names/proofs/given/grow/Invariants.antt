use Rattle.std.proofs.Common.{◌≡◌, ◌-◌, ℕ, vec_len}
use Rattle.leaf_names.specs.Cursors.{last_number}
use Rattle.leaf_names.proofs.given.grow.Given as goal

abbrev pub invariant-loop-last : goal.invariant-loop-last
invariant-loop-last l = (c : ℕ) → last_number l.last.items c ≡ last_number l.initial.last.items c

abbrev pub decreases-loop-last : goal.decreases-loop-last
decreases-loop-last l = l.len - vec_len l.last
