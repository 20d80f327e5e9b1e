use Rattle.std.proofs.Common.{◌≡◌, map, string_bytes}
use Rattle.std.specs.BTreeMap.{keys}
use Rattle.std.specs.Cmp.Lexicographic.{pointwise}
use Rattle.std.specs.Str.{bytes_eq}
use Rattle.edit_requests.proofs.members.are_keys.Given as goal

abbrev pub invariant-loop-key : goal.invariant-loop-key
invariant-loop-key l =
    (goal.iterator-loop-key).can_next l.key-iterator × (goal.iterator-loop-key).is_finite l.key-iterator
    × (pointwise bytes_eq (map (λ name. name.now) l.fn.names) (map string_bytes (keys l.fn.object)) ≡ pointwise bytes_eq (map (λ name. name.now) l.rest) (map string_bytes l.key-iterator))
