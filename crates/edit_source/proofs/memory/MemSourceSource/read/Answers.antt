use Rattle.std.proofs.Common.{◌≡◌, ℕ, ◌+◌, ◌-◌, arith, length, take, drop, subst}
use Rattle.std.proofs.lemmas.Grind.{common_steps}
use Rattle.edit_source.proofs.Taken.{front_taken}
use Rattle.edit_source.proofs.memory.MemSourceSource.read.Goals as goal

pub returns-clause-taken : goal.returns-clause-taken
returns-clause-taken c =
    let place = c.args.self.now.place in
    let count = c.min-count.result in
    let new = c.copy_from_slice.new.self in
    let part : (place + count) - place ≡ count = omega arith in
    let here = subst (λ n. new ≡ take n (drop place c.as_slice-bytes.result.now)) part c.copy_from_slice.ensures.after in
    front_taken c.args.self.now.bytes new _ place count (subst (λ xs. new ≡ take count (drop place xs)) c.as_slice-bytes.ensures here) (grind (arith, common_steps))
